use Rattle.xa_base.proofs.{◌≡◌, true, map, replicate}
use Rattle.xa_switch.specs.{use_async}
use Rattle.xa_switch.proofs.plan.Plan.uniform.Given as goal

-- the managers so far
abbrev pub invariant-loop-place : goal.invariant-loop-place
invariant-loop-place l = record {
  flags : use_async l.plans.items ≡ replicate l._place true;
  alike : map (λ m. m.accounts.items) l.plans.items ≡ replicate l._place l.accounts;
}
