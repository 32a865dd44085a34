use Rattle.xa_base.proofs.{refl}
use Rattle.xa_calls.proofs.Kept.{leaves_all}
use Rattle.xa_calls.proofs.completing.complete_in.Goals as goal

pub returns-then-mode-clause-completes : goal.returns-then-mode-clause-completes
returns-then-mode-clause-completes g c =
    let m = c.args.mode in
    rw (← c.if-not-may_complete.ensures, c.if-mode.true) c.complete_any.ensures.completes

pub returns-else-mode-clause-completes : goal.returns-else-mode-clause-completes
returns-else-mode-clause-completes g c =
    let m = c.args.mode in
    rw (← c.if-not-may_complete.ensures, c.if-mode.false) c.complete_one.ensures.completes

pub returns-then-mode-clause-waited : goal.returns-then-mode-clause-waited
returns-then-mode-clause-waited g c = let m = c.args.mode in rw c.if-mode.true c.complete_any.ensures.waited

pub returns-else-mode-clause-waited : goal.returns-else-mode-clause-waited
returns-else-mode-clause-waited g c = let m = c.args.mode in rw c.if-mode.false c.complete_one.ensures.waited

pub returns-then-not-may_complete-clause-completes : goal.returns-then-not-may_complete-clause-completes
returns-then-not-may_complete-clause-completes g c = rw (← c.if-not-may_complete.ensures) (refl, refl)

pub returns-then-not-may_complete-clause-leaves : goal.returns-then-not-may_complete-clause-leaves
returns-then-not-may_complete-clause-leaves g c = leaves_all c.desks_go_on.ensures.same g.met.I.Idle.leads_start _ _
