use Rattle.xa_base.proofs.{◌+◌, sym, ap, ◌∙◌, ◌++◌, ◌∷◌, [], map, length, arith, range_with_len, map-append}
use Rattle.xa_base.proofs.{length-append, All-push}
use Rattle.std.proofs.lemmas.List.FromFn.{map-range_with_len_more}
use Rattle.xa_switch.specs.{IsSoundManager}
use Rattle.laws_transcript.specs.{script_says, plan_says}
use Rattle.xa_script.proofs.plan.manager_plans.Goals as goal

pub loop-before-preserved : goal.loop-before-preserved
loop-before-preserved c =
    let says = script_says c.args.script.now in
    let plans = c.loop-before.plans.items in
    let one = c.in_ok-manager_plan.field-0 in
    let pushed = c.in_ok-push.ensures.items in
    record {
      planned_so_far = ap (map plan_says) pushed
          ∙ map-append plan_says plans (one ∷ [])
          ∙ ap (λ l. l ++ plan_says one ∷ []) c.loop-before.invariant.planned_so_far
          ∙ ap (λ d. map says (range_with_len 1 c.loop-before.before) ++ d ∷ []) c.in_ok-manager_plan.ensures.planned
          ∙ sym (map-range_with_len_more says 1 c.loop-before.before (c.loop-before.before + 1) (omega arith));
      sound = rw pushed
          (All-push IsSoundManager plans one c.loop-before.invariant.sound c.in_ok-manager_plan.ensures.sound);
      many = ap (λ l. length l) pushed ∙ length-append plans (one ∷ []) ∙ ap (λ k. k + 1) c.loop-before.invariant.many;
    }
