use Rattle.xa_base.proofs.{◌≡◌, true, false, ◌+◌, [], ◌∷◌, ◌++◌, cond, Result, take, sym, ap, ◌∙◌, arith, All, take_all}
use Rattle.xa_base.proofs.{both_ways, true_from_ne_false, All-more}
use Rattle.std.proofs.Common.{is_ok, is_err}
use Rattle.std.proofs.lemmas.List.{map_more}
use Rattle.xa_switch.specs.{IsSoundManager, opened_by}
use Rattle.xa_switch.proofs.opening.managers.open_managers.Goals as goal
use Rattle.xa_switch.proofs.opening.managers.open_managers.Goals.{in-Ok+then-is_short, in-Ok+else-is_short}
use Rattle.xa_switch.proofs.opening.managers.open_managers.Goals.{in-Err-NoMemory}

fits : {T E : Type 0} (r : Result T E) → is_err r ≡ false → is_ok r ≡ true
fits r e = grind arith

pub loop-plan-preserved : goal.loop-plan-preserved
loop-plan-preserved c = record {
  sound =
      let more : IsSoundManager c.plan-item.result
      → All IsSoundManager (take (c.loop-plan.plan-index + 1) c.args.managers.now) = λ here.
      All-more IsSoundManager c.args.managers.now c.loop-plan.plan-index c.plan-item.result (omega arith)
      c.loop-plan.invariant.sound (rw c.plan-item.is at here) in
      elim c.match-open_manager.branch [
        | in-Ok+then-is_short w ↦ more w.in-Ok.ensures.sound
        | in-Ok+else-is_short w ↦ more w.in-Ok.ensures.sound
        | in-Err-NoMemory w ↦ search
            (arith, in-Err-NoMemory, w.in-Err-NoMemory.ensures.bad.1, true_from_ne_false, both_ways)
      ];
  opened = λ e.
      elim c.match-open_manager.branch [
        | in-Ok+then-is_short w ↦ absurd (let s = w.is_short-is in let i = w.if-is_short.true in absurd (cc))
        | in-Ok+else-is_short w ↦
            let ok = fits w.push.result (sym w.is_err-is_short.ensures.value ∙ sym w.is_short-is ∙ e) in
            ap (λ v. v.items) w.opened-is
            ∙ w.push.ensures.items
            ∙ ap (λ b. cond b (c.loop-plan.opened.items ++ w.in-Ok.manager ∷ []) c.loop-plan.opened.items) ok
            ∙ (λ k. (c.loop-plan.invariant.opened w.if-is_short.false) k ++
            (w.in-Ok.ensures.opened ∙ ap (λ x. opened_by c.args.threads c.args.room x) c.plan-item.is) k ∷ [])
            ∙ sym
            (map_more (λ x. opened_by c.args.threads c.args.room x) c.args.managers.now c.loop-plan.plan-index
            c.plan-item.result (omega arith))
        | in-Err-NoMemory w ↦ absurd (let s = w.is_short-is in absurd (cc))
      ];
}

pub returns-then-is_short-2-clause-bad : goal.returns-then-is_short-2-clause-bad
returns-then-is_short-2-clause-bad c =
    let all : take c.loop-plan.plan-index c.args.managers.now ≡ c.args.managers.now =
    take_all c.loop-plan.plan-index c.args.managers.now (omega arith) in
    (λ e. absurd (cc), λ no. absurd (no (rw all at c.loop-plan.invariant.sound)))

pub returns-clause-sound : goal.returns-clause-sound
returns-clause-sound c =
    let all : take c.loop-plan.plan-index c.args.managers.now ≡ c.args.managers.now =
    take_all c.loop-plan.plan-index c.args.managers.now (omega arith) in
    rw all at c.loop-plan.invariant.sound

pub returns-clause-opened : goal.returns-clause-opened
returns-clause-opened c =
    let all : take c.loop-plan.plan-index c.args.managers.now ≡ c.args.managers.now =
    take_all c.loop-plan.plan-index c.args.managers.now (omega arith) in
    rw all at c.loop-plan.invariant.opened c.if-is_short-2.false
