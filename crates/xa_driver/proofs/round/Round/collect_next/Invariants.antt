use Rattle.xa_base.proofs.{length}
use Rattle.xa_driver.specs.{CollectsNothing}
use Rattle.xa_driver.proofs.Progress.{Passed}
use Rattle.xa_driver.proofs.round.Round.collect_next.Given as goal

-- those so far were asked nothing, so nothing was collected
abbrev pub invariant-passed : goal.invariant-passed
invariant-passed g l =
    Passed (CollectsNothing l.initial.desk) l.initial.self l.self l.initial.desk l.desk l.initial.idle l.idle

abbrev pub decreases-passed : goal.decreases-passed
decreases-passed g l = length l.self.tickets.items
