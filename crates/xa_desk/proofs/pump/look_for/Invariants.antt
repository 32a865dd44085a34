use Rattle.xa_desk.proofs.Looks.{LooksOn}
use Rattle.xa_desk.proofs.pump.look_for.Given as goal

abbrev pub invariant-loop : goal.invariant-loop
invariant-loop g l = LooksOn l.initial.book l.book
