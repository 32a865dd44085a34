-- What the values have of the additions of a global transaction, over openings one after another.
use Rattle.std.specs.Prelude.{◌≡◌, ℕ, ℤ, pos, Bool, true, false, if◌then◌else◌, Some, List, ◌∷◌, ◌++◌, map}
use Rattle.xa_words.specs.Xid.{XidName}
use Rattle.xa_tables.specs.declared.state.HeuristicDecision.{HeuristicDecision}
use Rattle.xa_tables.specs.ManagerTables.{Tables}
use Rattle.xa_tables.specs.Histories as history
use Rattle.xa_tables.specs.Histories.{History, Fate, IsFateOf, fate, share, tables_after}
use Rattle.xa_tables.specs.Openings.{commits_over}
use Rattle.xa_switch.specs.Fates.{first_of, history as history_of}
use Rattle.xa_driver.specs.declared.branch.Branch.{Branch}
use Rattle.xa_driver.specs.declared.done.Done.{Done}
use Rattle.laws_commit.specs.Additions.{IsAddition, prepare_of}
use Rattle.xa_driver.specs.Decision.{is_yes}
use Rattle.laws_commit.specs.Outcomes.{EachOutcome, ends_heuristic}
use Rattle.laws_commit.specs.Calls.{CommitCall, prepare_at}
use Rattle.laws_commit.specs.Resolution.{Opening, IsListed, became}

-- it is committed, as was decided or heuristically
abbrev pub is_committed : Fate → Bool
is_committed history.Committed = true
is_committed history.HeurCommitted = true
is_committed f = false

-- the histories of manager m in these openings
abbrev pub histories : ℕ → List Opening → List History
histories m os = map (λ o. history_of o.settled m) os

-- Who commits in the later openings at manager m, where F has the fates as it began with the tables T in opening o: as
-- `added_over` has it.
abbrev pub commits_after : Opening → List Opening → ℕ → (XidName → Fate) → Tables → XidName → Bool
commits_after o later m F T y =
    let h : History = history_of o.settled m in
    commits_over y (fate y (F y) h T) (histories m later) (tables_after h T)

-- The share that the value of a key has, after all openings, of each addition of the branch in opening o, whose Prepare
-- by thread t has number n: all of it where what became of the branch counts, and else nothing.
abbrev pub SharesOver : Opening → List Opening → ℕ → Branch → ℕ → (Fate → Bool) → Type 0
SharesOver o later t b n counts =
    (T : Tables) (F : XidName → Fate) → first_of o.settled b.m ≡ Some T → IsFateOf b.xid (F b.xid) T
    → (k : List ℕ) (d : ℤ) → (a : IsAddition b.xid k d t n T (history_of o.settled b.m))
    → share k (commits_after o later b.m F T) a.adding (a.between ++ prepare_of t n b.xid ∷ a.after)
    (tables_after a.before T)
    ≡ (if counts (became b (F b.xid) o later) then d else pos 0)

-- Of each branch of the call that voted to commit the additions count over all openings exactly where it was committed.
pub record CountsOver (c : CommitCall) (done : Done) (o : Opening) (later : List Opening) : Type 0 where
  pub each : EachOutcome
      (λ b v e. is_yes v ≡ true → SharesOver o later c.thread b (prepare_at c b) is_committed)
      c.branches done.votes.items done.endings.items

-- no resolve of these openings lists the branch with a heuristic decision
abbrev pub IsUnlisted : Branch → List Opening → Type 0
IsUnlisted b os = (d : HeuristicDecision) → IsListed b d os → ⊥

-- But for branches that were decided heuristically all additions of the transaction count, where it was decided to
-- commit, or none does.
pub record CountsAllOrNone (c : CommitCall) (done : Done) (o : Opening) (later : List Opening) : Type 0 where
  pub each : EachOutcome
      (λ b v e. is_yes v ≡ true → ends_heuristic e ≡ false → IsUnlisted b later
      → SharesOver o later c.thread b (prepare_at c b) (λ f. done.commit))
      c.branches done.votes.items done.endings.items
