-- What parts of a request's rule read and change, of parts of the tables.
use Rattle.std.specs.Prelude.{ℕ, ℤ, Bool, true, false, not, ◌&&◌, if◌then◌else◌, Option, None, Some, is_some}
use Rattle.std.specs.FinMap as map
use Rattle.std.specs.FinMap.{FinMap}
use Rattle.std.specs.Ordering.{nat_cmp}
use Rattle.xa_words.specs.Xid.{XidName, xid_eq}
use Rattle.xa_words.specs.Orders.{key_cmp}
use Rattle.xa_words.specs.declared.code.Code.{Code}
use Rattle.xa_words.specs.declared.code.Code.TheVariants.{Done, RdOnly, RbRollback, RbIntegrity, Nota, Proto}
use Rattle.xa_words.specs.declared.request.EndHow.{EndHow}
use Rattle.xa_words.specs.declared.request.EndHow.TheVariants.{Success, Suspend, Fail}
use Rattle.xa_tables.specs.declared.state.Association.{Association}
use Rattle.xa_tables.specs.declared.state.AssociationState.{AssociationState}
use Rattle.xa_tables.specs.declared.state.AssociationState.TheVariants.{Suspended}
use Rattle.xa_tables.specs.declared.state.HeuristicDecision.{HeuristicDecision}
use Rattle.xa_tables.specs.declared.state.HeuristicDecision.TheVariants as decision
use Rattle.xa_tables.specs.declared.state.RollbackReason.TheVariants.{Failed}
use Rattle.xa_tables.specs.declared.state.State.{State}
use Rattle.xa_tables.specs.declared.state.State.TheVariants.{Active, Idle, RollbackOnly}
use Rattle.xa_tables.specs.Reasons.{reason_code}
use Rattle.xa_tables.specs.ManagerTables.{has_touched, is_broken, is_somebody_associated, is_suspended_state, touch_cmp}
use Rattle.xa_tables.specs.Next.{association, is_suspend}

-- how the association is with x, None where it isn't
abbrev pub state_with : Option Association → XidName → Option AssociationState
state_with None x = None
state_with (Some a) x = if xid_eq a.xid x then Some a.state else None

-- what a thread that may not is answered, by whether the branch exists
abbrev pub refusal : Option State → Code
refusal s = if is_some s then Proto else Nota

-- in this state a branch may be prepared
abbrev pub may_prepare : State → Bool
may_prepare Active = true
may_prepare Idle = true
may_prepare s = false

-- the code with which its vote closes x, with these values and sums: read only where it touched no key, refused where a
-- value would leave the limits; None where it becomes prepared
abbrev pub closing_vote : FinMap key_cmp ℤ → FinMap touch_cmp ℤ → XidName → Option Code
closing_vote values sums x =
    if not (has_touched sums x) then Some RdOnly else if is_broken values sums x then Some RbIntegrity else None

-- the associations, the state of x and the code as t ends its work on x, which isn't rollback-only
abbrev pub ended_by : EndHow → ℕ → XidName → FinMap nat_cmp Association → State
    → FinMap nat_cmp Association × State × Code
ended_by Suspend t x m s = (map.insert m t (association x Suspended), s, Done)
ended_by Fail t x m s = (map.remove m t, RollbackOnly Failed, RbRollback)
ended_by Success t x m s = (map.remove m t, if is_somebody_associated (map.remove m t) x then s else Idle, Done)

-- and whatever x's state is
abbrev pub ended : EndHow → ℕ → XidName → FinMap nat_cmp Association → State → FinMap nat_cmp Association × State × Code
ended how t x m (RollbackOnly reason) = (map.remove m t, RollbackOnly reason, reason_code reason)
ended how t x m s = ended_by how t x m s

-- the thread would suspend an association that is suspended
abbrev pub suspends_again : EndHow → AssociationState → Bool
suspends_again how s = is_suspend how && is_suspended_state s

-- the decision that commits, or doesn't
abbrev pub decided : Bool → HeuristicDecision
decided commits = if commits then decision.Commit else decision.Rollback
