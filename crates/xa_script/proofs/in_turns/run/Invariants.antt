use Rattle.xa_base.proofs.{◌≤◌, ◌+◌, take}
use Rattle.xa_script.specs.{HasReached}
use Rattle.xa_script.proofs.in_turns.run.Given as goal

-- so far it has come by the first lines
abbrev pub invariant-loop-place : goal.invariant-loop-place
invariant-loop-place g l = record {
  reached : HasReached l.fn.script (take l.place l.fn.script.steps) l.runner.opening l.runner.sessions.items
      l.runner.turns l.transcript;
  few : l.runner.opening ≤ l.place + 1;
}
