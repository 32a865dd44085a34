use Rattle.xa_base.proofs.{◌≡◌, ℕ, ◌+◌, ◌<◌, false, length, get_or}
use Rattle.xa_words.proofs.manager_set.ManagerSet.from_fn.Given as goal

-- the managers at the first places were asked about
abbrev pub invariant-loop-place : goal.invariant-loop-place
invariant-loop-place g l = record {
  long : length l.places ≡ 8;
  asked : (k : ℕ) → k < l.place → goal.F-post g l.test (k + 1) (get_or l.places k false);
}
