-- The course of a commit: what it asks at each branch, over whatever states its requests lead through. A desk's ledgers
-- are such states, a thread's entries in a journal, and the numbers of its requests in a settled history.
use Rattle.std.specs.Prelude.{◌≡◌, Bool, Option, None, Some}
use Rattle.xa_words.specs.declared.code.Code.{Code}
use Rattle.xa_words.specs.declared.request.Op.{Op}
use Rattle.xa_words.specs.declared.request.Op.TheVariants.{Prepare}
use Rattle.xa_calls.specs.Scans.{Asking}
use Rattle.xa_driver.specs.declared.branch.Branch.{Branch}
use Rattle.xa_driver.specs.declared.done.Ending.{Ending}
use Rattle.xa_driver.specs.Endings.{second_op, third_op, ending_of}

-- What is wanted of a manager, if anything is, is asked of it, and this is its code.
abbrev pub AsksFor : {D : Type 0} → Asking D → Option Op → Option Code → D → D → Type 0
AsksFor asking None code old new = (code ≡ None) × (new ≡ old)
AsksFor asking (Some op) None old new = ⊥
AsksFor asking (Some op) (Some code) old new = asking old op new code

-- A branch votes, which is the code of its Prepare; then it is told to commit or to roll back, as was decided and as it
-- voted, or nothing, and `told` says what is done of that.
pub record VotesThen {D : Type 0} (asking : Asking D) (told : Option Op → D → D → Type 0) (commit : Bool) (b : Branch)
    (vote : Code) (old new : D) : Type 0 where
  pub prepared : D
  pub prepares : asking old (Prepare b.xid) prepared vote
  pub tells : told (second_op commit b.xid vote) prepared new

-- It votes, is told the decision where it wants it, and answers. By both codes it ends.
pub record VotesAndObeys {D : Type 0} (asking : Asking D) (commit : Bool) (b : Branch) (vote : Code)
    (second : Option Code) (ending : Ending) (old new : D) : Type 0 where
  pub prepared : D
  pub prepares : asking old (Prepare b.xid) prepared vote
  pub obeys : AsksFor asking (second_op commit b.xid vote) second prepared new
  pub ends : ending ≡ ending_of commit vote second

-- What is done at a branch: it votes and obeys; then it is told to forget, where its second code tells a decision that
-- the manager keeps.
pub record AtBranch {D : Type 0} (asking : Asking D) (commit : Bool) (b : Branch) (vote : Code) (second : Option Code)
    (ending : Ending) (old new : D) : Type 0 where
  pub decided : D
  pub third : Option Code
  pub obeyed : VotesAndObeys asking commit b vote second ending old decided
  pub open obeyed use *
  pub forgets : AsksFor asking (third_op b.xid second) third decided new
