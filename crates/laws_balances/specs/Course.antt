-- The course of a branch that votes to commit: its Prepare in one opening, and its outcome there or in a later one.
use Rattle.std.specs.Prelude.{◌≡◌, ℕ, ℤ, pos, Bool, true, false, not, ◌||◌, if◌then◌else◌, List, ◌∷◌, ◌++◌}
use Rattle.std.specs.List.{All}
use Rattle.xa_words.specs.Xid.{XidName}
use Rattle.xa_words.specs.declared.code.Code.TheVariants.{Done}
use Rattle.xa_words.specs.declared.request.Op.{Op}
use Rattle.xa_words.specs.declared.request.Op.TheVariants.{Prepare, Commit, Rollback, Forget}
use Rattle.xa_words.specs.declared.request.Request.{Request}
use Rattle.xa_tables.specs.ManagerTables.{Tables}
use Rattle.xa_tables.specs.Next.{next}
use Rattle.xa_tables.specs.Histories.{History, Fate, Committed, RolledBack, is_in_doubt, tables_after}
use Rattle.xa_tables.specs.Openings.{fate_left}
use Rattle.xa_tables.specs.Prepared.{names}
use Rattle.xa_tables.specs.Worth.{held_by}
use Rattle.laws_balances.specs.MovedOver.{moved_over, is_for, CommitsNowhere}

-- what tells a branch its outcome, or has it forgotten: a Commit in two phases, a Rollback, a Forget
abbrev pub tells_outcome : Op → Bool
tells_outcome (Commit x one_phase) = not one_phase
tells_outcome (Rollback x) = true
tells_outcome (Forget x) = true
tells_outcome op = false

-- each request of the history that names x does
abbrev pub OnlyTold : XidName → History → Type 0
OnlyTold x h = All (λ r. names x r.op ≡ true → tells_outcome r.op ≡ true) h

-- it ended by a Commit
abbrev pub ended_by_commit : Fate → Bool
ended_by_commit Committed = true
ended_by_commit f = false

-- it ended as a coordinator decided, and not by a decision of its manager's own
abbrev pub is_outcome : Fate → Bool
is_outcome Committed = true
is_outcome RolledBack = true
is_outcome f = false

-- or it is still in doubt
abbrev pub is_outcome_or_in_doubt : Fate → Bool
is_outcome_or_in_doubt f = is_outcome f || is_in_doubt f

-- In an opening that begins with T and has this history, x votes to commit: a Prepare is answered XA_OK, before which
-- nothing commits it, and after which it is only told its outcome.
pub record Votes (x : XidName) (h : History) (T : Tables) : Type 0 where
  pub before : History
  pub ask : Request
  pub after : History
  pub parts : h ≡ before ++ ask ∷ after
  pub asks : ask.op ≡ Prepare x
  pub agrees : (next ask.thread ask.op (tables_after before T)).1 ≡ Done
  pub uncommitted : CommitsNowhere x before
  pub told : OnlyTold x after

-- what it held as it was asked
abbrev pub voted_sum : List (List ℕ × ℕ) → (x : XidName) (h : History) (T : Tables) → Votes x h T → ℤ
voted_sum accounts x h T votes = held_by accounts x (tables_after votes.before T)

-- In openings with these histories the requests that name x move so much, where it's committed, and nothing else.
abbrev pub MovesWhereCommitted : List (List ℕ × ℕ) → XidName → ℤ → Fate → List History → Tables → Type 0
MovesWhereCommitted accounts x sum f hs T =
    moved_over accounts (is_for x) hs T ≡ (if ended_by_commit (fate_left x f hs T) then sum else pos 0)
