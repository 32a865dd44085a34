-- The tables of one manager: the sets and finite maps of a resource manager.
use Rattle.std.specs.Prelude.{ℕ, ℤ, pos, neg_ℤ, ◌+ℤ◌, Bool, true, false, not, ◌&&◌, ◌||◌, Option, None, Some, is_some}
use Rattle.std.specs.Prelude.{unwrap_or, List, []}
use Rattle.std.specs.Ordering.{nat_cmp, ordering_then}
use Rattle.std.specs.declared.cmp.Ordering.{Ordering}
use Rattle.std.specs.Int.Signed.{le_z}
use Rattle.std.specs.FinSet as set
use Rattle.std.specs.FinMap as map
use Rattle.std.specs.FinSet.{FinSet}
use Rattle.std.specs.FinMap.{FinMap}
use Rattle.std.specs.Coded.{Coded, coded×, coded_ℕ, coded_ℤ, coded_list}
use Rattle.xa_base.specs.declared.limits.TheConstants.{MOST_VALUE}
use Rattle.xa_words.specs.Xid.{XidName, xid_cmp, xid_eq, xid_code}
use Rattle.xa_words.specs.Key.{key_eq}
use Rattle.xa_words.specs.Orders.{key_cmp}
use Rattle.xa_words.specs.declared.code.Code.{Code}
use Rattle.xa_words.specs.declared.code.Code.TheVariants.{Done}
use Rattle.xa_tables.specs.declared.state.State.{State}
use Rattle.xa_tables.specs.declared.state.State.TheVariants.{Active, Idle, Prepared, RollbackOnly}
use Rattle.xa_tables.specs.declared.state.State.TheVariants.{HeuristicallyCompleted}
use Rattle.xa_tables.specs.declared.state.Association.{Association}
use Rattle.xa_tables.specs.declared.state.AssociationState.{AssociationState}
use Rattle.xa_tables.specs.declared.state.AssociationState.TheVariants.{Associated, Suspended}
use Rattle.xa_tables.specs.Reasons.{reason_code, decision_code}
use Rattle.xa_tables.specs.contracts.state.State as state_type
use Rattle.xa_tables.specs.contracts.state.Association as association_type
use Rattle.xa_base.specs.Maps.{any_entry, map_values}

-- a branch and a key
abbrev pub Touch : Type 0
Touch = XidName × List ℕ

-- by the branch, then by the key
abbrev pub touch_cmp : Touch → Touch → Ordering
touch_cmp p q = ordering_then (xid_cmp p.0 q.0) (key_cmp p.1 q.1)

-- what the rules of one manager speak of
pub record Tables : Type 0 where
  -- the threads that have it open
  pub opened : FinSet nat_cmp
  -- for each thread at most one association: the xid, and whether it is suspended
  pub associations : FinMap nat_cmp Association
  -- for each xid that exists a state
  pub states : FinMap xid_cmp State
  -- for each (xid, key) that was added to, the sum of the deltas
  pub sums : FinMap touch_cmp ℤ
  -- for each declared key its committed value
  pub values : FinMap key_cmp ℤ
  -- nothing is carried out any more
  pub shut : Bool

-- a set of threads as data
abbrev pub set_code : Coded (FinSet nat_cmp)
set_code = set.code coded_ℕ

-- associations as data
abbrev pub associations_code : Coded (FinMap nat_cmp Association)
associations_code = map.code coded_ℕ association_type.the_row.coded

-- states as data
abbrev pub states_code : Coded (FinMap xid_cmp State)
states_code = map.code xid_code state_type.the_row.coded

-- sums as data
abbrev pub sums_code : Coded (FinMap touch_cmp ℤ)
sums_code = map.code (coded× xid_code (coded_list coded_ℕ)) coded_ℤ

-- values as data
abbrev pub values_code : Coded (FinMap key_cmp ℤ)
values_code = map.code (coded_list coded_ℕ) coded_ℤ

-- ---- the words of the rules

-- t has it open
abbrev pub has_opened : Tables → ℕ → Bool
has_opened T t = set.contains T.opened t

-- t's association, None for T0
abbrev pub association_of : Tables → ℕ → Option Association
association_of T t = map.get T.associations t

-- t has an association: it isn't T0
abbrev pub has_association : Tables → ℕ → Bool
has_association T t = is_some (association_of T t)

-- the association may be resumed
abbrev pub is_suspended_state : AssociationState → Bool
is_suspended_state Associated = false
is_suspended_state Suspended = true

-- T1
abbrev pub is_T1 : Option Association → Bool
is_T1 None = false
is_T1 (Some a) = not (is_suspended_state a.state)

-- T2
abbrev pub is_T2 : Option Association → Bool
is_T2 None = false
is_T2 (Some a) = is_suspended_state a.state

-- t is associated, and not suspended
abbrev pub is_at_work : Tables → ℕ → Bool
is_at_work T t = is_T1 (association_of T t)

-- t's association is suspended
abbrev pub is_suspended : Tables → ℕ → Bool
is_suspended T t = is_T2 (association_of T t)

-- the association is with x
abbrev pub is_association_with : Option Association → XidName → Bool
is_association_with None x = false
is_association_with (Some a) x = xid_eq a.xid x

-- t is associated with x, be it suspended or not
abbrev pub is_associated : Tables → ℕ → XidName → Bool
is_associated T t x = is_association_with (association_of T t) x

-- the null xid
abbrev pub no_xid : XidName
no_xid = record { format = neg_ℤ (pos 1); gtrid = []; bqual = [] }

-- the association's branch
abbrev pub branch_in : Option Association → XidName
branch_in None = no_xid
branch_in (Some a) = a.xid

-- the branch that t is associated with, the null xid for T0
abbrev pub branch_of : Tables → ℕ → XidName
branch_of T t = branch_in (association_of T t)

-- the state of x, None for S0
abbrev pub state_of : Tables → XidName → Option State
state_of T x = map.get T.states x

-- x exists: it isn't S0
abbrev pub exists : Tables → XidName → Bool
exists T x = is_some (state_of T x)

-- S1
abbrev pub is_S1 : Option State → Bool
is_S1 (Some Active) = true
is_S1 s = false

-- S2
abbrev pub is_S2 : Option State → Bool
is_S2 (Some Idle) = true
is_S2 s = false

-- S3
abbrev pub is_S3 : Option State → Bool
is_S3 (Some Prepared) = true
is_S3 s = false

-- S4
abbrev pub is_S4 : Option State → Bool
is_S4 (Some (RollbackOnly reason)) = true
is_S4 s = false

-- S5
abbrev pub is_S5 : Option State → Bool
is_S5 (Some (HeuristicallyCompleted decision)) = true
is_S5 s = false

-- the code of S4's reason, XA_OK in any other state
abbrev pub reason_in : Option State → Code
reason_in (Some (RollbackOnly reason)) = reason_code reason
reason_in s = Done

-- the code of S5's decision, XA_OK in any other state
abbrev pub decision_in : Option State → Code
decision_in (Some (HeuristicallyCompleted decision)) = decision_code decision
decision_in s = Done

-- in this state it is left where an opening ends: prepared, or heuristically completed
abbrev pub is_left_in : Option State → Bool
is_left_in s = is_S3 s || is_S5 s

-- x is active, idle, prepared, can only be rolled back, or is heuristically completed
abbrev pub is_active : Tables → XidName → Bool
is_active T x = is_S1 (state_of T x)

abbrev pub is_idle : Tables → XidName → Bool
is_idle T x = is_S2 (state_of T x)

abbrev pub is_prepared : Tables → XidName → Bool
is_prepared T x = is_S3 (state_of T x)

abbrev pub is_rollback_only : Tables → XidName → Bool
is_rollback_only T x = is_S4 (state_of T x)

abbrev pub is_completed : Tables → XidName → Bool
is_completed T x = is_S5 (state_of T x)

-- x is left where an opening ends
abbrev pub is_left : Tables → XidName → Bool
is_left T x = is_left_in (state_of T x)

-- why x can only be rolled back
abbrev pub reason_of : Tables → XidName → Code
reason_of T x = reason_in (state_of T x)

-- what was decided heuristically on x
abbrev pub heuristic_code_of : Tables → XidName → Code
heuristic_code_of T x = decision_in (state_of T x)

-- "somebody is associated" counts both kinds
abbrev pub is_somebody_associated : FinMap nat_cmp Association → XidName → Bool
is_somebody_associated associations x = any_entry (λ t l. xid_eq l.xid x) associations

-- the key is declared
abbrev pub is_declared : Tables → List ℕ → Bool
is_declared T k = is_some (map.get T.values k)

-- the sum of (x, k), which begins at 0
abbrev pub sum_of : FinMap touch_cmp ℤ → XidName → List ℕ → ℤ
sum_of sums x k = unwrap_or (map.get sums (x, k)) (pos 0)

-- x has touched a key
abbrev pub has_touched : FinMap touch_cmp ℤ → XidName → Bool
has_touched sums x = any_entry (λ p s. xid_eq p.0 x) sums

-- another branch than x has touched the key
abbrev pub has_other_touched : FinMap touch_cmp ℤ → XidName → List ℕ → Bool
has_other_touched sums x k = any_entry (λ p s. key_eq p.1 k && not (xid_eq p.0 x)) sums

-- some branch has touched the key
abbrev pub is_touched : FinMap touch_cmp ℤ → List ℕ → Bool
is_touched sums k = any_entry (λ p s. key_eq p.1 k) sums

-- 0 to 10^12
abbrev pub is_within : ℤ → Bool
is_within v = le_z (pos 0) v && le_z v (pos MOST_VALUE)

-- the key's committed value, 0 where it isn't declared
abbrev pub value_of : FinMap key_cmp ℤ → List ℕ → ℤ
value_of values k = unwrap_or (map.get values k) (pos 0)

-- for some key that x touched, value + sum is out of range
abbrev pub is_broken : FinMap key_cmp ℤ → FinMap touch_cmp ℤ → XidName → Bool
is_broken values sums x = any_entry (λ p s. xid_eq p.0 x && not (is_within (value_of values p.1 +ℤ s))) sums

-- each sum of x added to its key's value
abbrev pub posted : FinMap key_cmp ℤ → FinMap touch_cmp ℤ → XidName → FinMap key_cmp ℤ
posted values sums x = map_values (λ k v. v +ℤ sum_of sums x k) values

-- the sums of the other branches than x
abbrev pub sums_without : FinMap touch_cmp ℤ → XidName → FinMap touch_cmp ℤ
sums_without sums x = map.retain_keys sums (λ p. not (xid_eq p.0 x))
