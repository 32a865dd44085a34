use Rattle.xa_base.proofs.{◌≡◌, ℕ, ◌<◌, false}
use Rattle.xa_desk.specs.{keeps_at}
use Rattle.xa_desk.proofs.kept.keeps_any.Given as goal

-- no number so far passes
abbrev pub invariant-loop-number : goal.invariant-loop-number
invariant-loop-number l = (k : ℕ) → k < l.number → keeps_at l.book l.manager k ≡ false
