-- Worked histories of one branch, in one opening and in two, with the codes that its requests got; and what a store
-- has.
use Rattle.std.specs.Prelude.{ℕ, ℤ, pos, neg_ℤ, ◌+ℤ◌, Bool, true, false, if◌then◌else◌, List, [], ◌∷◌, ◌++◌, Some}
use Rattle.std.specs.Prelude.{codes}
use Rattle.xa_words.specs.Xid.{XidName}
use Rattle.xa_words.specs.declared.code.Code.{Code}
use Rattle.xa_words.specs.declared.code.Code.TheVariants.{Done, RdOnly, RbRollback, RbIntegrity, Nota, HeurCom}
use Rattle.xa_words.specs.declared.request.Op.{Op}
use Rattle.xa_words.specs.declared.request.Op.TheVariants.{Start, Add, End, Prepare, Commit, Rollback, Forget, Heur}
use Rattle.xa_words.specs.declared.request.StartHow.TheVariants.{Fresh}
use Rattle.xa_words.specs.declared.request.EndHow.TheVariants.{Success, Fail}
use Rattle.xa_words.specs.declared.request.Request.{Request}
use Rattle.xa_tables.specs.declared.state.AssociationState.TheVariants.{Associated}
use Rattle.xa_tables.specs.declared.state.State.{State}
use Rattle.xa_tables.specs.declared.state.State.TheVariants.{Prepared, HeuristicallyCompleted}
use Rattle.xa_tables.specs.declared.state.HeuristicDecision.TheVariants as decision
use Rattle.xa_tables.specs.declared.restored.Sum.{Sum}
use Rattle.xa_tables.specs.Histories.{Fate, fate_in, is_live, commits_later, share_of, Absent, Live}
use Rattle.xa_tables.specs.Next.{association}
use Rattle.xa_tables.specs.Openings.{reopened_fate}

-- the branch g.1
abbrev pub branch : XidName
branch = record { format = pos 1; gtrid = codes "g"; bqual = codes "1" }

-- a request of thread 1, and its code
abbrev pub worked_entry : Op → Code → Request × Code
worked_entry op code = (record { thread = 1; number = 0; op = op }, code)

-- the branch adds to a key, and its work ends
abbrev pub worked : List (Request × Code)
worked =
    worked_entry (Start branch Fresh) Done ∷ worked_entry (Add (codes "a") (neg_ℤ (pos 30))) Done ∷ worked_entry
    (End branch Success) Done ∷ []

-- it votes yes
abbrev pub voted_history : List (Request × Code)
voted_history = worked ++ worked_entry (Prepare branch) Done ∷ []

-- it commits
abbrev pub transferred : List (Request × Code)
transferred = voted_history ++ worked_entry (Commit branch false) Done ∷ []

-- it votes yes and is rolled back
abbrev pub undone : List (Request × Code)
undone = voted_history ++ worked_entry (Rollback branch) Done ∷ []

-- it would take a value out of range
abbrev pub overdrawn : List (Request × Code)
overdrawn = worked ++ worked_entry (Prepare branch) RbIntegrity ∷ worked_entry (Commit branch false) Nota ∷ []

-- it changes nothing
abbrev pub unchanged : List (Request × Code)
unchanged =
    worked_entry (Start branch Fresh) Done ∷ worked_entry (End branch Success) Done
    ∷ worked_entry (Prepare branch) RdOnly ∷ worked_entry
    (Commit branch false) Nota ∷ []

-- its work fails, and it is rolled back with its reason
abbrev pub failed_history : List (Request × Code)
failed_history = worked_entry (Start branch Fresh) Done ∷ worked_entry (End branch Fail) RbRollback
    ∷ worked_entry (Rollback branch) RbRollback ∷ []

-- it begins again after it committed
abbrev pub begun_again : List (Request × Code)
begun_again = transferred ++ worked_entry (Start branch Fresh) Done ∷ []

-- it votes yes and is committed by a heuristic decision, which its Rollback is told
abbrev pub decided_history : List (Request × Code)
decided_history = voted_history ++ worked_entry (Heur branch true) Done ∷ worked_entry (Rollback branch) HeurCom ∷ []

-- it votes yes and is rolled back by a heuristic decision, which is forgotten
abbrev pub forgotten_history : List (Request × Code)
forgotten_history = voted_history ++ worked_entry (Heur branch false) Done ∷ worked_entry (Forget branch) Done ∷ []

-- ---- in two openings, one after the other

-- the fate of the branch after both
abbrev pub fate_after : List (Request × Code) → List (Request × Code) → Fate
fate_after first second = fate_in branch (reopened_fate (fate_in branch Absent first)) second

-- what the first opening left prepared is committed
abbrev pub committed_later : List (Request × Code)
committed_later = worked_entry (Commit branch false) Done ∷ []

-- or rolled back
abbrev pub rolled_back_later : List (Request × Code)
rolled_back_later = worked_entry (Rollback branch) Done ∷ []

-- what it left at work is gone
abbrev pub gone_later : List (Request × Code)
gone_later = worked_entry (Commit branch false) Nota ∷ []

-- what it left heuristically completed is forgotten
abbrev pub forgotten_later : List (Request × Code)
forgotten_later = worked_entry (Forget branch) Done ∷ []

-- after its addition its work ends
abbrev pub ended_then : List (Request × Code)
ended_then = worked_entry (End branch Success) Done ∷ []

-- and it votes yes
abbrev pub voted_then : List (Request × Code)
voted_then = ended_then ++ worked_entry (Prepare branch) Done ∷ []

-- and it is committed by a heuristic decision
abbrev pub decided_then : List (Request × Code)
decided_then = voted_then ++ worked_entry (Heur branch true) Done ∷ []

-- whether a branch that has just added commits in the rest of its opening or in the second
abbrev pub commits_after_adding : List (Request × Code) → List (Request × Code) → XidName → Bool
commits_after_adding rest second x =
    commits_later (if is_live (fate_in x Live rest) then false else commits_later false x second) x rest

-- what becomes of 100 that the branch takes 30 from
abbrev pub value_after : List (Request × Code) → List (Request × Code) → ℤ
value_after rest second =
    pos 100 +ℤ share_of (codes "a") (Add (codes "a") (neg_ℤ (pos 30))) Done (Some (association branch Associated))
    (commits_after_adding rest second)

-- ---- what a store has of a manager

-- two keys, with 100 and 5
abbrev pub two_keys : List (List ℕ × ℕ)
two_keys = (codes "a", 100) ∷ (codes "b", 5) ∷ []

-- the branch of another transaction
abbrev pub another : XidName
another = record { format = pos 1; gtrid = codes "h"; bqual = codes "1" }

-- both branches are prepared
abbrev pub two_prepared : List (XidName × State)
two_prepared = (branch, Prepared) ∷ (another, Prepared) ∷ []

-- one is prepared and the other completed
abbrev pub one_completed : List (XidName × State)
one_completed = (branch, Prepared) ∷ (another, HeuristicallyCompleted decision.Rollback) ∷ []

-- a branch takes this much from a key, or adds it to it
abbrev pub taking : XidName → List ℕ → ℕ → Sum
taking x k n = record { xid = x; key = k; delta = neg_ℤ (pos n) }

abbrev pub adding : XidName → List ℕ → ℕ → Sum
adding x k n = record { xid = x; key = k; delta = pos n }
