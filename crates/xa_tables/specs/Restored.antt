-- A manager that is restored from what its store has: the tables that it begins with, or the first reason against it.
use Rattle.std.specs.Prelude.{◌≡◌, ℕ, ℤ, pos, ◌+ℤ◌, Bool, true, not, if◌then◌else◌, Option, None, Some, is_some}
use Rattle.std.specs.Prelude.{Result, Ok, Err}
use Rattle.std.specs.Prelude.{option_map, unwrap_or, List, [], ◌∷◌, ◌++◌, map}
use Rattle.std.specs.List.{IsDistinct, list_any}
use Rattle.std.specs.Map.{keys_of, lookup}
use Rattle.std.specs.Option.{option_or}
use Rattle.std.specs.FinMap as finmap
use Rattle.std.specs.FinMap.{FinMap, from_entries}
use Rattle.xa_words.specs.Xid.{XidName, xid_cmp, xid_eq}
use Rattle.xa_words.specs.Key.{key_eq}
use Rattle.xa_words.specs.Orders.{key_cmp}
use Rattle.xa_words.specs.Accounts.{are_accounts}
use Rattle.xa_tables.specs.declared.state.State.{State}
use Rattle.xa_tables.specs.declared.restored.Sum.{Sum}
use Rattle.xa_tables.specs.declared.restored.RestoreFault.{RestoreFault}
use Rattle.xa_tables.specs.declared.restored.RestoreFault.TheVariants.{BadAccounts, BranchTwice, NotLeft, UnknownKey}
use Rattle.xa_tables.specs.declared.restored.RestoreFault.TheVariants.{NotPrepared, KeyTwice, OutOfLimits}
use Rattle.xa_tables.specs.ManagerTables.{Tables, Touch, touch_cmp, state_of, is_S3, is_left_in, is_touched, is_within}
use Rattle.xa_tables.specs.Managers.{opening}
use Rattle.xa_tables.specs.Openings.{reopened}

-- what a store has of a manager: the keys with their values, the branches that were left, and what these add
pub record Stored : Type 0 where
  pub accounts : List (List ℕ × ℕ)
  pub branches : List (XidName × State)
  pub sums : List Sum

-- a store that has these
abbrev pub stored : List (List ℕ × ℕ) → List (XidName × State) → List Sum → Stored
stored accounts branches sums = record { accounts = accounts; branches = branches; sums = sums }

-- for each sum its branch with its key, and the amount
abbrev pub sum_entries : List Sum → List (Touch × ℤ)
sum_entries sums = map (λ s. ((s.xid, s.key), s.delta)) sums

-- the tables as at an opening with these accounts, but with the branches that the store has, and their sums
abbrev pub restored : Stored → Tables
restored s =
    record (opening s.accounts) { states = from_entries s.branches; sums = from_entries (sum_entries s.sums) }

-- ---- the first reason why a manager isn't restored: the accounts are looked at first, then the branches in their
-- order, and then the sums in theirs

-- the fault for which something was refused
abbrev pub fault_in : {A : Type 0} → Result A RestoreFault → Option RestoreFault
fault_in (Ok a) = None
fault_in (Err fault) = Some fault

-- the first fault of these items, each of which is looked at beside those before it
abbrev pub first_fault : {A : Type 0} → (List A → A → Option RestoreFault) → List A → List A → Option RestoreFault
first_fault fault before [] = None
first_fault fault before (x ∷ rest) = option_or (fault before x) (first_fault fault (before ++ x ∷ []) rest)

-- of a branch beside those before it: each stands once, in a state that openings leave
abbrev pub branch_fault : List (XidName × State) → XidName × State → Option RestoreFault
branch_fault before b =
    if is_some (lookup (xid_eq b.0) before) then Some BranchTwice
    else if not (is_left_in (Some b.1)) then Some NotLeft
    else None

-- of an amount, by the value of its key, the state of its branch, and whether a sum before it is of that key
abbrev pub amount_fault : Option ℤ → Option State → Bool → ℤ → Option RestoreFault
amount_fault value state taken amount =
    if not (is_some value) then Some UnknownKey
    else if not (is_S3 state) then Some NotPrepared
    else if taken then Some KeyTwice
    else if not (is_within (unwrap_or value (pos 0) +ℤ amount)) then Some OutOfLimits
    else None

-- of a sum beside those before it, where keys have these values, and branches these states
abbrev pub sum_fault : (List ℕ → Option ℤ) → (XidName → Option State) → List Sum → Sum → Option RestoreFault
sum_fault value state before s =
    amount_fault (value s.key) (state s.xid) (list_any (λ r. key_eq r.key s.key) before) s.delta

-- what a store says of a key's value, and of a branch's state
abbrev pub stored_value : List (List ℕ × ℕ) → List ℕ → Option ℤ
stored_value accounts k = option_map (λ v. pos v) (lookup (key_eq k) accounts)

abbrev pub stored_state : List (XidName × State) → XidName → Option State
stored_state branches x = lookup (xid_eq x) branches

-- of all that a store has
abbrev pub fault_of : Stored → Option RestoreFault
fault_of s =
    if not (are_accounts s.accounts) then Some BadAccounts
    else option_or (first_fault branch_fault [] s.branches)
    (first_fault (sum_fault (stored_value s.accounts) (stored_state s.branches)) [] s.sums)

-- the first fault of the sums, where the tables have these values and states
abbrev pub sums_fault : FinMap key_cmp ℤ → FinMap xid_cmp State → List Sum → Option RestoreFault
sums_fault values states sums =
    first_fault (sum_fault (λ k. finmap.get values k) (λ x. finmap.get states x)) [] sums

-- the fault of a sum, where the tables have these values and states, and these sums by now
abbrev pub fault_beside : FinMap key_cmp ℤ → FinMap xid_cmp State → FinMap touch_cmp ℤ → Sum → Option RestoreFault
fault_beside values states sums s =
    amount_fault (finmap.get values s.key) (finmap.get states s.xid) (is_touched sums s.key) s.delta

-- ---- a store has what a reopening of the tables finds

pub record IsStoreOf (s : Stored) (T : Tables) : Type 0 where
  pub values : (k : List ℕ) → stored_value s.accounts k ≡ finmap.get T.values k
  pub states : (x : XidName) → stored_state s.branches x ≡ state_of (reopened T) x
  pub sums : (x : XidName) (k : List ℕ)
      → finmap.get (from_entries {R = touch_cmp} (sum_entries s.sums)) (x, k) ≡ finmap.get (reopened T).sums (x, k)

-- its accounts may be declared, and each branch and each key of a sum stands once
pub record HasEachOnce (s : Stored) : Type 0 where
  pub accounts : are_accounts s.accounts ≡ true
  pub branches : IsDistinct xid_eq (keys_of s.branches)
  pub sums : IsDistinct key_eq (map (λ r. r.key) s.sums)
