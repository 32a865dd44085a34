-- Whether a Commit, or a heuristic one, is among what was sent.
use Rattle.std.specs.Prelude.{◌≡◌, ℕ, ◌≤◌, Bool, true, false, List, ◌++◌}
use Rattle.std.specs.List.{list_any}
use Rattle.xa_words.specs.declared.request.Op.{Op}
use Rattle.xa_words.specs.declared.request.Op.TheVariants.{Commit, Heur}
use Rattle.xa_desk.specs.LedgerViews.{LedgerView}
use Rattle.xa_desk.specs.DeskViews.{ledger}

-- a Commit, in one phase or two, or a heuristic one
abbrev pub is_commit : Op → Bool
is_commit (Commit x one_phase) = true
is_commit (Heur x commits) = commits
is_commit op = false

-- what was sent to the manager since, and no such request among it
pub record HasSentNone (is : Op → Bool) (a a' : LedgerView) : Type 0 where
  pub more : List Op
  pub sent : a'.sent ≡ a.sent ++ more
  pub none : list_any is more ≡ false

-- to no manager a Commit was sent
abbrev pub NoCommitWasSent : List LedgerView → List LedgerView → Type 0
NoCommitWasSent old new = (m : ℕ) → 1 ≤ m → HasSentNone is_commit (ledger old m) (ledger new m)
