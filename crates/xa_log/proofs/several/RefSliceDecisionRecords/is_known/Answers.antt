use Rattle.xa_base.proofs.{suc, List, ◌+◌, ◌∷◌, drop, refl, arith, ◌↔◌, All, All-cons, All-nil, drop_all, drop_more}
use Rattle.xa_log.proofs.several.RefSliceDecisionRecords.is_known.Goals as goal

-- where one is known, it depends on the others
others : {X : Type 0} (P : X → Type 0) (x : X) (xs : List X) → P x → All P (x ∷ xs) ↔ All P xs
others P x xs here = (λ all k d low. all (suc k) d (omega (arith, low)), All-cons P x xs here)

pub loop-log-preserved : goal.loop-log-preserved
loop-log-preserved g c =
    let knows = g.L.DecisionRecords.knows in
    let logs = c.args.self.now.now in
    let more : All knows (drop c.loop-log.log-index logs) ↔ All knows (drop (c.loop-log.log-index + 1) logs) =
    rw (drop_more _ _ c.log-item.result c.loop-log-test.true, ← c.log-item.is)
    (others knows c.log-item.result (drop (c.loop-log.log-index + 1) logs) (c.if-not-is_known.ensures.0 refl)) in
    (λ all. more.0 (c.loop-log.invariant.0 all), λ rest. c.loop-log.invariant.1 (more.1 rest))

pub returns-then-not-is_known : goal.returns-then-not-is_known
returns-then-not-is_known g c = (
  λ no. absurd (cc),
  λ all. c.if-not-is_known.ensures.1
      (rw (← c.log-item.is) at (all c.loop-log.log-index c.log-item.result c.loop-log-test.true)),
)

pub returns : goal.returns
returns g c = (λ _. c.loop-log.invariant.1 (rw (drop_all _ _ c.loop-log-test.false) (All-nil _)), λ _. refl)
