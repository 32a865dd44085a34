use Rattle.xa_crew_again.proofs.Stores.{reopened_stays, reopens}
use Rattle.xa_crew_again.proofs.stored.reopen_one.Goals as goal

pub returns-in-Ok-clause-stays : goal.returns-in-Ok-clause-stays
returns-in-Ok-clause-stays g c =
    reopened_stays g.S.Store.knows g.S.Store.may_leave _ _
    (reopens g.S.Store.knows g.S.Store.may_leave _ _ c.a_second_reopening_changes_nothing.ensures c.in-Ok.ensures.known
    c.in-Ok.ensures.crash)

pub returns-in-Ok-clause-reopens : goal.returns-in-Ok-clause-reopens
returns-in-Ok-clause-reopens g c = λ all.
    reopens g.S.Store.knows g.S.Store.may_leave _ _ c.a_second_reopening_changes_nothing.ensures c.in-Ok.ensures.known
    c.in-Ok.ensures.crash
