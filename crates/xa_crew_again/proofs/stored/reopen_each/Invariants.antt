use Rattle.xa_base.proofs.{vec_capacity, Handled}
use Rattle.std.specs.Bool.{IsTrue}
use Rattle.xa_crew_again.specs.{Reopens, KeepsAsMuch}
use Rattle.xa_crew_again.proofs.stored.reopen_each.Given as goal

-- the first stores have stayed, and where none failed they are reopened
abbrev pub invariant-loop-store : goal.invariant-loop-store
invariant-loop-store g l = record {
  stays : Handled (KeepsAsMuch g.S.Store.knows g.S.Store.may_leave) l.fn.stores.items l.yielded l.store-iterator l.next
      (vec_capacity l.fn.next);
  reopens : IsTrue l.all
      → Handled (Reopens g.S.Store.knows g.S.Store.may_leave) l.fn.stores.items l.yielded l.store-iterator l.next
      (vec_capacity l.fn.next);
}
