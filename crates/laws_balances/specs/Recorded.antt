-- What a commit's record tells of its branches.
use Rattle.std.specs.List.{Contains}
use Rattle.xa_words.specs.declared.code.Code.TheVariants.{RdOnly}
use Rattle.xa_desk.specs.DeskViews.{ledger}
use Rattle.xa_switch.specs.Fates.{ledgers_of}
use Rattle.xa_switch.specs.Settled.{Settling}
use Rattle.xa_driver.specs.declared.branch.Branch.{Branch}
use Rattle.xa_driver.specs.Commits.{HasSentNone}
use Rattle.laws_commit.specs.Cut.{is_commit_of}
use Rattle.laws_commit.specs.Calls.{CommitCall, after_at, before_at, prepare_at}
use Rattle.laws_commit.specs.Presumed.{VotedToCommit}
use Rattle.laws_commit.specs.Resolution.{WasAsked}

-- The branch was asked to prepare and had changed nothing, as the settled opening has it, and no Commit of it was sent.
pub record OnlyRead (k : CommitCall) (s : Settling) (b : Branch) : Type 0 where
  pub asked : WasAsked k b
  pub agreed : Contains (ledger (ledgers_of s k.thread) b.m).collected (prepare_at k b, RdOnly)
  pub untold : HasSentNone (is_commit_of b.xid) (before_at k b) (after_at k b)

-- it voted to commit, or had changed nothing
pub data AgreedOrRead (k : CommitCall) (s : Settling) (b : Branch) : Type 0 where
  agreed : VotedToCommit k s b → AgreedOrRead k s b
  read : OnlyRead k s b → AgreedOrRead k s b
