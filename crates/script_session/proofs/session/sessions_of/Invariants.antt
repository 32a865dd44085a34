use Rattle.xa_base.proofs.{◌≡◌, ◌++◌, into_iter_items}
use Rattle.script_session.specs.{new_sessions}
use Rattle.script_session.proofs.session.sessions_of.Given as goal

-- the first threads have their logs
abbrev pub invariant-loop-desk : goal.invariant-loop-desk
invariant-loop-desk l = record {
  so_far : l.yielded ++ into_iter_items l.desk-iterator ≡ l.fn.desks.items;
  done : l.sessions.items ≡ new_sessions l.script l.yielded;
}
