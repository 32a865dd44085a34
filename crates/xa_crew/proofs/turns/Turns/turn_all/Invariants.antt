use Rattle.xa_crew.specs.{AllGoOn}
use Rattle.xa_crew.proofs.WorkersOn.{HaveTurned}
use Rattle.xa_crew.proofs.turns.Turns.turn_all.Given as goal

-- the workers so far had a turn each, and all have gone on
abbrev pub invariant-loop-place : goal.invariant-loop-place
invariant-loop-place g l = record {
  turned : HaveTurned l.place l.initial.self-inside.workers.items l.self-inside.workers.items;
  on : AllGoOn l.initial.self-inside.workers.items l.self-inside.workers.items;
}
