-- One outcome for each global transaction, finished or cut short, over openings one after another: by the log's record.
use Rattle.std.specs.Prelude.{◌≡◌, false, List}
use Rattle.std.specs.List.{All, Contains}
use Rattle.xa_words.specs.Tran.{TranName}
use Rattle.xa_words.specs.declared.code.Code.TheVariants.{Done}
use Rattle.xa_desk.specs.DeskViews.{ledger}
use Rattle.xa_switch.specs.Fates.{ledgers_of}
use Rattle.xa_switch.specs.Settled.{Settling}
use Rattle.xa_driver.specs.declared.branch.Branch.{Branch}
use Rattle.xa_driver.specs.declared.done.Ending.{Ending}
use Rattle.xa_driver.specs.Trace.{IsTranOf}
use Rattle.laws_commit.specs.Calls.{CommitCall, prepare_at}
use Rattle.laws_commit.specs.Cut.{is_recorded, known_at}
use Rattle.laws_commit.specs.Outcomes.{ends_heuristic}
use Rattle.laws_commit.specs.Resolution.{EndsAs, Opening, WasAsked}
use Rattle.laws_commit.specs.Worth.{IsUnlisted, SharesOver}

-- The branch was asked to prepare, and voted to commit: so the settled opening has it, where its coordinator may not
-- have learnt it.
pub record VotedToCommit (c : CommitCall) (s : Settling) (b : Branch) : Type 0 where
  pub asked : WasAsked c b
  pub agreed : Contains (ledger (ledgers_of s c.thread) b.m).collected (prepare_at c b, Done)

-- what its coordinator knew of the branch
abbrev pub known_of : CommitCall → Branch → Ending
known_of c b = known_at b.m c.branches c.endings

-- All or none of the branches that voted to commit: they ended committed where the log has the record, and where it
-- hasn't they were rolled back.
pub record EndsByTheLog (c : CommitCall) (o : Opening) (later : List Opening) : Type 0 where
  pub each : (t : TranName) → IsTranOf c.branches t
      → All (λ b. VotedToCommit c o.settled b → EndsAs (is_recorded c.later t) o later b (known_of c b)) c.branches

-- And so their additions count over all openings: where the log has the record, but for those that were decided
-- heuristically, and where it hasn't none.
pub record CountsByTheLog (c : CommitCall) (o : Opening) (later : List Opening) : Type 0 where
  pub each : (t : TranName) → IsTranOf c.branches t
      → All
      (λ b. VotedToCommit c o.settled b → ends_heuristic (known_of c b) ≡ false → IsUnlisted b later
      → SharesOver o later c.thread b (prepare_at c b) (λ f. is_recorded c.later t))
      c.branches
