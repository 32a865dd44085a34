-- One request at a manager: the rules of the branch tables.
-- In each group the first line that fits decides. t is the thread that asks, x the xid, T the tables.
-- The states are those of C193, chapter 6: T0 to T2 of a thread, S0 to S5 of a branch.
use Rattle.std.specs.Prelude.{ℕ, ℤ, Bool, true, false, not, ◌||◌, ◌&&◌, if◌then◌else◌, Option, None, Some, List, ◌+ℤ◌}
use Rattle.std.specs.FinSet as set
use Rattle.std.specs.FinMap as map
use Rattle.xa_words.specs.Xid.{XidName}
use Rattle.xa_words.specs.declared.code.Code.{Code}
use Rattle.xa_words.specs.declared.code.Code.TheVariants.{Done, RdOnly, RbRollback, RbIntegrity, RbTransient, Nota}
use Rattle.xa_words.specs.declared.code.Code.TheVariants.{Inval, Proto, RmFail, DupId}
use Rattle.xa_words.specs.declared.request.Op.{Op}
use Rattle.xa_words.specs.declared.request.Op.TheVariants.{OpenRm, CloseRm, Start, Add, End, Prepare, Commit, Rollback}
use Rattle.xa_words.specs.declared.request.Op.TheVariants.{Forget, Heur, Listed, Shut}
use Rattle.xa_words.specs.declared.request.StartHow.{StartHow}
use Rattle.xa_words.specs.declared.request.StartHow.TheVariants.{Fresh, Join, Resume}
use Rattle.xa_words.specs.declared.request.EndHow.{EndHow}
use Rattle.xa_words.specs.declared.request.EndHow.TheVariants.{Suspend, Fail}
use Rattle.xa_tables.specs.declared.state.State.{State}
use Rattle.xa_tables.specs.declared.state.State.TheVariants.{Active, Idle, Prepared, RollbackOnly}
use Rattle.xa_tables.specs.declared.state.State.TheVariants.{HeuristicallyCompleted}
use Rattle.xa_tables.specs.declared.state.RollbackReason.TheVariants.{Failed, Transient}
use Rattle.xa_tables.specs.declared.state.HeuristicDecision.{HeuristicDecision}
use Rattle.xa_tables.specs.declared.state.HeuristicDecision.TheVariants as decision
use Rattle.xa_tables.specs.declared.state.Association.{Association}
use Rattle.xa_tables.specs.declared.state.AssociationState.{AssociationState}
use Rattle.xa_tables.specs.declared.state.AssociationState.TheVariants.{Associated, Suspended}
use Rattle.xa_tables.specs.ManagerTables.{Tables, has_opened, has_association, is_at_work, is_suspended, is_associated}
use Rattle.xa_tables.specs.ManagerTables.{branch_of, exists, is_idle, is_prepared, is_rollback_only, reason_of}
use Rattle.xa_tables.specs.ManagerTables.{is_completed, is_left, heuristic_code_of}
use Rattle.xa_tables.specs.ManagerTables.{is_somebody_associated, is_declared, sum_of, has_touched, has_other_touched}
use Rattle.xa_tables.specs.ManagerTables.{is_broken, posted, sums_without}

-- the tables after a request, and its code
abbrev pub TablesAndCode : Type 0
TablesAndCode = Tables × Code

-- ---- before all others

-- a manager that is shut answers XAER_RMFAIL, and nothing changes
abbrev pub unless_shut : Tables → TablesAndCode → TablesAndCode
unless_shut T answer = if T.shut then (T, RmFail) else answer

-- what a thread that hasn't opened may not ask (C193, table 6-1)
abbrev pub needs_opening : Op → Bool
needs_opening Shut = false
needs_opening OpenRm = false
needs_opening CloseRm = false
needs_opening (Heur x commits) = false
needs_opening op = true

abbrev pub if_opened : ℕ → Op → Tables → TablesAndCode → TablesAndCode
if_opened t op T answer = if needs_opening op && not (has_opened T t) then (T, Proto) else answer

-- ---- what a rule changes

-- an association with x
abbrev pub association : XidName → AssociationState → Association
association x state = record { xid = x; state = state }

-- t has this association
abbrev pub with_association : ℕ → Association → Tables → Tables
with_association t a T = record T { associations = map.insert T.associations t a }

-- t is associated with x
abbrev pub associated : ℕ → XidName → Tables → Tables
associated t x T = with_association t (association x Associated) T

-- t's association with x is suspended
abbrev pub suspended : ℕ → XidName → Tables → Tables
suspended t x T = with_association t (association x Suspended) T

-- t has no association
abbrev pub dissociated : ℕ → Tables → Tables
dissociated t T = record T { associations = map.remove T.associations t }

-- x is in state s
abbrev pub stated : XidName → State → Tables → Tables
stated x s T = record T { states = map.insert T.states x s }

-- d is added to the sum of (x, k)
abbrev pub added : XidName → List ℕ → ℤ → Tables → Tables
added x k d T = record T { sums = map.insert T.sums (x, k) (sum_of T.sums x k +ℤ d) }

-- x is gone: it has no state, no sums and no touched keys
abbrev pub gone : XidName → Tables → Tables
gone x T = record T { states = map.remove T.states x; sums = sums_without T.sums x }

-- x is gone; its sums went as it was completed
abbrev pub forgotten : XidName → Tables → Tables
forgotten x T = record T { states = map.remove T.states x }

-- x is S5 with this decision, and has no sums and no touched keys
abbrev pub completed_heuristically : XidName → HeuristicDecision → Tables → Tables
completed_heuristically x d T = stated x (HeuristicallyCompleted d) (record T { sums = sums_without T.sums x })

-- each sum of x is added to its key's value
abbrev pub committed : XidName → Tables → Tables
committed x T = record T { values = posted T.values T.sums x }

-- ---- Shut (this project's own, native): the thread needn't have it open

-- XA_OK; from then on nothing is carried out
abbrev pub shut_down : Tables → Tables
shut_down T = record T { shut = true }

-- ---- OpenRm (xa_open; C193, table 6-1)

-- t has it open, also where it had
abbrev pub open_rm : ℕ → Tables → TablesAndCode
open_rm t T = (record T { opened = set.insert T.opened t }, Done)

-- ---- CloseRm (xa_close; C193, table 6-1)

-- a thread with an association can't close
abbrev pub close_rm : ℕ → Tables → TablesAndCode
close_rm t T =
    if not (has_opened T t) then (T, Done)
    else if has_association T t then (T, Proto)
    else (record T { opened = set.remove T.opened t }, Done)

-- ---- Start (xa_start; C193, tables 6-2 and 6-4)

-- with no flag
abbrev pub start_fresh : ℕ → XidName → Tables → TablesAndCode
start_fresh t x T =
    if has_association T t then (T, Proto)
    else if exists T x then (T, DupId)
    else (associated t x (stated x Active T), Done)

-- TMJOIN
abbrev pub start_join : ℕ → XidName → Tables → TablesAndCode
start_join t x T =
    if has_association T t then (T, Proto)
    else if not (exists T x) then (T, Nota)
    else if is_left T x then (T, Proto)
    else if is_rollback_only T x then (T, reason_of T x)
    else (associated t x (stated x Active T), Done)

-- TMRESUME: the state of x stays, in S4 too
abbrev pub start_resume : ℕ → XidName → Tables → TablesAndCode
start_resume t x T =
    if is_associated T t x && is_suspended T t then (associated t x T, Done)
    else if not (exists T x) then (T, Nota)
    else (T, Proto)

-- by the flag
abbrev pub start : StartHow → ℕ → XidName → Tables → TablesAndCode
start Fresh t x T = start_fresh t x T
start Join t x T = start_join t x T
start Resume t x T = start_resume t x T

-- ---- Add (this project's own, native)

-- work of the branch that t is associated with
abbrev pub add : ℕ → List ℕ → ℤ → Tables → TablesAndCode
add t k d T =
    if not (is_at_work T t) then (T, Proto)
    else if not (is_declared T k) then (T, Inval)
    else if is_rollback_only T (branch_of T t) then (T, reason_of T (branch_of T t))
    else if has_other_touched T.sums (branch_of T t) k
    then (stated (branch_of T t) (RollbackOnly Transient) T, RbTransient)
    else (added (branch_of T t) k d T, Done)

-- ---- End (xa_end; C193, tables 6-2 and 6-4)

-- TMSUSPEND
abbrev pub is_suspend : EndHow → Bool
is_suspend Suspend = true
is_suspend how = false

-- TMFAIL
abbrev pub is_fail : EndHow → Bool
is_fail Fail = true
is_fail how = false

-- with TMSUCCESS x becomes S2 where nobody else is associated with it
abbrev pub end : EndHow → ℕ → XidName → Tables → TablesAndCode
end how t x T =
    if not (is_associated T t x) && not (exists T x) then (T, Nota)
    else if not (is_associated T t x) then (T, Proto)
    else if is_suspend how && is_suspended T t then (T, Proto)
    else if is_rollback_only T x then (dissociated t T, reason_of T x)
    else if is_suspend how then (suspended t x T, Done)
    else if is_fail how then (stated x (RollbackOnly Failed) (dissociated t T), RbRollback)
    else if is_somebody_associated (dissociated t T).associations x then (dissociated t T, Done)
    else (stated x Idle (dissociated t T), Done)

-- ---- Prepare (xa_prepare; C193, table 6-4)

-- x votes: read only where it touched no key, refused where a value would leave the limits, else prepared
abbrev pub prepare : XidName → Tables → TablesAndCode
prepare x T =
    if not (exists T x) then (T, Nota)
    else if is_somebody_associated T.associations x || (is_prepared T x || (is_rollback_only T x || is_completed T x))
    then (T, Proto)
    else if not (has_touched T.sums x) then (gone x T, RdOnly)
    else if is_broken T.values T.sums x then (gone x T, RbIntegrity)
    else (stated x Prepared T, Done)

-- ---- Commit (xa_commit; C193, table 6-4)

-- two phases
abbrev pub commit_two : XidName → Tables → TablesAndCode
commit_two x T =
    if not (exists T x) then (T, Nota)
    else if is_completed T x then (T, heuristic_code_of T x)
    else if is_somebody_associated T.associations x || not (is_prepared T x) then (T, Proto)
    else (gone x (committed x T), Done)

-- TMONEPHASE
abbrev pub commit_one : XidName → Tables → TablesAndCode
commit_one x T =
    if not (exists T x) then (T, Nota)
    else if is_somebody_associated T.associations x || not (is_idle T x) then (T, Proto)
    else if is_broken T.values T.sums x then (gone x T, RbIntegrity)
    else (gone x (committed x T), Done)

-- ---- Rollback (xa_rollback; C193, table 6-4)

-- S4's reason is told, and S5's decision
abbrev pub rollback : XidName → Tables → TablesAndCode
rollback x T =
    if not (exists T x) then (T, Nota)
    else if is_completed T x then (T, heuristic_code_of T x)
    else if is_somebody_associated T.associations x then (T, Proto)
    else if is_rollback_only T x then (gone x T, reason_of T x)
    else (gone x T, Done)

-- ---- Heur (this project's own, native): the thread needn't have it open

-- a prepared branch is decided by itself
abbrev pub heur : XidName → Bool → Tables → TablesAndCode
heur x commits T =
    if not (exists T x) then (T, Nota)
    else if not (is_prepared T x) then (T, Proto)
    else if commits then (completed_heuristically x decision.Commit (committed x T), Done)
    else (completed_heuristically x decision.Rollback T, Done)

-- ---- Forget (xa_forget; C193, table 6-4)

-- a heuristic decision that is known is forgotten
abbrev pub forget : XidName → Tables → TablesAndCode
forget x T =
    if not (exists T x) then (T, Nota)
    else if not (is_completed T x) then (T, Proto)
    else (forgotten x T, Done)

-- ---- Listed (this project's own; what xa_recover asks): it changes nothing

-- of no branch, whether the manager answers; of x, whether it is left
abbrev pub listed : Option XidName → Tables → TablesAndCode
listed None T = (T, Done)
listed (Some x) T = if is_left T x then (T, Done) else (T, Nota)

-- ---- all groups

abbrev pub by_rules : ℕ → Op → Tables → TablesAndCode
by_rules t Shut T = (shut_down T, Done)
by_rules t OpenRm T = open_rm t T
by_rules t CloseRm T = close_rm t T
by_rules t (Start x how) T = start how t x T
by_rules t (Add k d) T = add t k d T
by_rules t (End x how) T = end how t x T
by_rules t (Prepare x) T = prepare x T
by_rules t (Commit x one_phase) T = if one_phase then commit_one x T else commit_two x T
by_rules t (Rollback x) T = rollback x T
by_rules t (Forget x) T = forget x T
by_rules t (Heur x commits) T = heur x commits T
by_rules t (Listed x) T = listed x T

-- one request
unfoldable pub next : ℕ → Op → Tables → TablesAndCode
next t op T = unless_shut T (if_opened t op T (by_rules t op T))
