use Rattle.xa_base.proofs.{◌≡◌, length, map, All, range_with_len}
use Rattle.xa_switch.specs.{IsSoundManager}
use Rattle.laws_transcript.specs.{script_says, plan_says}
use Rattle.xa_script.proofs.plan.manager_plans.Given as goal

-- the first managers have their plans
abbrev pub invariant-loop-before : goal.invariant-loop-before
invariant-loop-before l = record {
  planned_so_far : map plan_says l.plans.items ≡ map (script_says l.script) (range_with_len 1 l.before);
  sound : All IsSoundManager l.plans.items;
  many : length l.plans.items ≡ l.before;
}
