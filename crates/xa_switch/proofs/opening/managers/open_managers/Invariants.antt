use Rattle.xa_base.proofs.{◌≡◌, false, map, take, All}
use Rattle.xa_switch.specs.{IsSoundManager, opened_by}
use Rattle.xa_switch.proofs.opening.managers.open_managers.Given as goal

-- the accounts so far can be had, and their managers are there unless memory was short
abbrev pub invariant-loop-plan : goal.invariant-loop-plan
invariant-loop-plan l = record {
  sound : All IsSoundManager (take l.plan-index l.managers);
  opened : l.is_short ≡ false → l.opened.items ≡ map (opened_by l.threads l.room) (take l.plan-index l.managers);
}
