use Rattle.xa_base.proofs.{◌≡◌, ◌+◌, take}
use Rattle.xa_tables.specs.{tables_after}
use Rattle.xa_store_memory.proofs.memory.carry_out.Given as goal

-- the manager has carried out the first requests
abbrev pub invariant-loop-request : goal.invariant-loop-request
invariant-loop-request l = record {
  tables : l.manager.tables ≡ tables_after (take l.request-index l.requests) l.initial.manager.tables;
  threads : l.manager.threads ≡ l.initial.manager.threads;
  room : l.manager.room + l.request-index ≡ l.initial.manager.room;
}
