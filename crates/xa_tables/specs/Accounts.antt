-- What contracts see of the accounts.
use Rattle.std.specs.Prelude.{◌≡◌, ℕ, suc, ℤ, pos, neg_ℤ, ◌+ℤ◌, ◌≤ℤ◌, ◌*◌, Bool, false, not, ◌&&◌}
use Rattle.std.specs.Prelude.{if◌then◌else◌, Option, None, Some, List, [], ◌∷◌, map, refl, slice_index_or}
use Rattle.std.specs.FinMap as finmap
use Rattle.std.specs.FinMap.{FinMap, from_entries}
use Rattle.std.specs.Coded.{Coded, code_by, coded×, coded_ℕ, coded_list}
use Rattle.xa_base.specs.declared.limits.TheConstants.{MOST_VALUE}
use Rattle.xa_words.specs.Xid.{XidName, xid_cmp, xid_eq}
use Rattle.xa_words.specs.Orders.{key_cmp}
use Rattle.xa_words.specs.Key.{key_eq}
use Rattle.xa_tables.specs.declared.accounts.Account.{Account}
use Rattle.xa_tables.specs.declared.accounts.Hold.{Hold}
use Rattle.xa_tables.specs.declared.state.State.{State}
use Rattle.xa_tables.specs.ManagerTables.{is_S3, is_within, Touch, touch_cmp, sums_code, values_code}

-- the sums of the branches, the committed values, how many additions were made, and the keys, each at its place
pub record Holdings : Type 0 where
  pub sums : FinMap touch_cmp ℤ
  pub values : FinMap key_cmp ℤ
  pub adds : ℕ
  pub keys : List (List ℕ)

-- the holdings as data
abbrev pub holdings_code : Coded Holdings
holdings_code =
    code_by (FinMap touch_cmp ℤ × (FinMap key_cmp ℤ × (ℕ × List (List ℕ))))
    (coded× sums_code (coded× values_code (coded× coded_ℕ (coded_list (coded_list coded_ℕ)))))
    (λ h. (h.sums, (h.values, (h.adds, h.keys))))
    (λ p. record { sums = p.0; values = p.1.0; adds = p.1.1.0; keys = p.1.1.1 }) (λ _. refl)

-- the key at a place
abbrev pub key_at : Holdings → ℕ → List ℕ
key_at h place = slice_index_or h.keys place []

-- an entry for the hold of the account with the key k, if there is one
abbrev pub with_hold : List ℕ → Option Hold → List (Touch × ℤ) → List (Touch × ℤ)
with_hold k None es = es
with_hold k (Some h) es = ((h.xid, k), h.amount) ∷ es

-- for each account that a branch holds: the branch with the key, and the sum
abbrev pub hold_entries : List Account → List (Touch × ℤ)
hold_entries [] = []
hold_entries (a ∷ rest) = with_hold a.key a.hold (hold_entries rest)

-- for each account the key and the committed value
abbrev pub value_entries : List Account → List (List ℕ × ℤ)
value_entries accounts = map (λ a. (a.key, a.value)) accounts

-- the keys of the accounts
abbrev pub keys_of : List Account → List (List ℕ)
keys_of accounts = map (λ a. a.key) accounts

-- what the accounts hold, after this many additions
abbrev pub holdings_of : List Account → ℕ → Holdings
holdings_of accounts adds = record {
  sums = from_entries (hold_entries accounts);
  values = from_entries (value_entries accounts);
  adds = adds;
  keys = keys_of accounts;
}

-- the hold is that of x
abbrev pub hold_is_of : Option Hold → XidName → Bool
hold_is_of None x = false
hold_is_of (Some h) x = xid_eq h.xid x

-- x has touched the account's key
abbrev pub is_held_by : Account → XidName → Bool
is_held_by a x = hold_is_of a.hold x

-- the hold is that of another branch than x
abbrev pub hold_is_other : Option Hold → XidName → Bool
hold_is_other None x = false
hold_is_other (Some h) x = not (xid_eq h.xid x)

-- another branch than x has touched it
abbrev pub is_held_by_other : Account → XidName → Bool
is_held_by_other a x = hold_is_other a.hold x

-- the hold is that of x, and its sum takes the value v out of the limits
abbrev pub hold_breaks : ℤ → Option Hold → XidName → Bool
hold_breaks v None x = false
hold_breaks v (Some h) x = xid_eq h.xid x && not (is_within (v +ℤ h.amount))

-- x would take the account's value out of the limits
abbrev pub is_broken_by : Account → XidName → Bool
is_broken_by a x = hold_breaks a.value a.hold x

-- the sum of a hold, which begins at 0
abbrev pub amount_in : Option Hold → ℤ
amount_in None = pos 0
amount_in (Some h) = h.amount

-- what x has added by a hold, if the hold is its own
abbrev pub hold_amount : XidName → Option Hold → Option ℤ
hold_amount x None = None
hold_amount x (Some h) = if xid_eq h.xid x then Some h.amount else None

-- the account once x has added d
abbrev pub added_to : Account → XidName → ℤ → Account
added_to a x d = record a { hold = Some (record { xid = x; amount = amount_in a.hold +ℤ d }) }

-- the hold, where it is that of a branch to be kept
abbrev pub hold_where : (XidName → Bool) → Option Hold → Option Hold
hold_where keep None = None
hold_where keep (Some h) = if keep h.xid then Some h else None

-- the account where only branches to be kept hold any
abbrev pub kept_where : (XidName → Bool) → Account → Account
kept_where keep a = record a { hold = hold_where keep a.hold }

-- all branches but x are to be kept
abbrev pub all_but : XidName → XidName → Bool
all_but x y = not (xid_eq y x)

-- the prepared branches are to be kept
abbrev pub prepared_in : FinMap xid_cmp State → XidName → Bool
prepared_in states x = is_S3 (finmap.get states x)

-- the hold, unless it is that of x
abbrev pub hold_without : Option Hold → XidName → Option Hold
hold_without o x = hold_where (all_but x) o

-- what x has added, 0 where it hasn't touched the key
abbrev pub amount_of : Option Hold → XidName → ℤ
amount_of None x = pos 0
amount_of (Some h) x = if xid_eq h.xid x then h.amount else pos 0

-- the account once x has committed
abbrev pub posted_by : XidName → Account → Account
posted_by x a = record { key = a.key; value = a.value +ℤ amount_of a.hold x; hold = hold_without a.hold x }

-- the sum of a hold is that of at most n additions
abbrev pub IsSmall : ℕ → Option Hold → Type 0
IsSmall n None = Unit {0}
IsSmall n (Some h) = (neg_ℤ (pos (MOST_VALUE * n)) ≤ℤ h.amount) × (h.amount ≤ℤ pos (MOST_VALUE * n))

-- the value is within the limits, and the sum is that of at most n additions
abbrev pub IsGood : ℕ → Account → Type 0
IsGood n a = (pos 0 ≤ℤ a.value) × (a.value ≤ℤ pos MOST_VALUE) × IsSmall n a.hold

-- ---- what was declared

-- the values at the opening
abbrev pub declared_values : List (List ℕ × ℕ) → FinMap key_cmp ℤ
declared_values ds = from_entries (map (λ d. (d.0, pos d.1)) ds)

-- a declared key and its value, with nothing added to it
abbrev pub account_of : List ℕ × ℕ → Account
account_of d = record { key = d.0; value = pos d.1; hold = None }

-- a place further on, or else here
abbrev pub later_place : Option ℕ → Bool → Option ℕ
later_place (Some i) here = Some (suc i)
later_place None here = if here then Some 0 else None

-- where the key stands among these; of several places the last
abbrev pub place_in : List ℕ → List (List ℕ) → Option ℕ
place_in k [] = None
place_in k (own ∷ rest) = later_place (place_in k rest) (key_eq own k)

-- each key has its place
abbrev pub AreIndexed : FinMap key_cmp ℕ → List Account → Type 0
AreIndexed places accounts = (k : List ℕ) → finmap.get places k ≡ place_in k (keys_of accounts)

-- none of the keys stands twice
abbrev pub AreApart : List (List ℕ) → Type 0
AreApart [] = Unit {0}
AreApart (k ∷ ks) = (place_in k ks ≡ None) × AreApart ks

-- no two accounts have one key
abbrev pub AreDistinct : List Account → Type 0
AreDistinct accounts = AreApart (keys_of accounts)
