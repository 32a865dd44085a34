-- What a store has: its first fault, item by item, and what holds of the tables where it has none.
use Rattle.xa_base.proofs.{arith, ◌≡◌, ℕ, ℤ, pos, ◌+ℤ◌, ◌+◌, ◌<◌, Bool, true, false, not, ◌&&◌, ◌||◌, if◌then◌else◌}
use Rattle.xa_base.proofs.{Option, None, Some, is_some, unwrap_or, List, [], ◌∷◌, ◌++◌, length, map, take, drop, get_or}
use Rattle.xa_base.proofs.{list_any, refl, sym, ap, ◌∙◌, cond, option_or, drop_more, take_more, map-append, or_from}
use Rattle.xa_base.proofs.{or_parts, and-false, none_from, none_pass, none_passes, find, from_entries, FinMap}
use Rattle.xa_base.proofs.{get-empty, get-insert, Result, Ok, Err, IfErr, get-from_entries, get-lookup, by_bool}
use Rattle.xa_base.proofs.{same_map}
use Rattle.std.proofs.Common.{IsErr}
use Rattle.std.specs.FinMap.{from_entries_push}
use Rattle.std.specs.FinMap as finmap
use Rattle.std.specs.FinSet as set
use Rattle.std.proofs.lemmas.Map.Made.{lookup-map_values}
use Rattle.xa_words.specs.{XidName, xid_cmp, xid_eq, xid_cmp_total, xid_cmp-IsAntisymmetric, key_eq, key_cmp_total}
use Rattle.xa_words.specs.{key_cmp-IsAntisymmetric, key_eq-by_cmp, Decides-key_eq, are_accounts}
use Rattle.xa_words.specs.Orders.{key_cmp}
use Rattle.xa_tables.specs.{State, Tables, Touch, touch_cmp, is_S3, is_left_in, is_within, is_touched, is_prepared}
use Rattle.xa_tables.specs.{value_of, ArePreparedSound, IsOpening, declared_values, RestoreFault, Sum, Stored}
use Rattle.xa_tables.specs.{sum_entries, restored, first_fault, branch_fault, amount_fault, sum_fault, stored_value}
use Rattle.xa_tables.specs.{fault_in, stored_state, fault_of, sums_fault, BadAccounts, BranchTwice, NotLeft, IsStoreOf}
use Rattle.xa_tables.specs.{reopened}
use Rattle.xa_tables.proofs.SoundLemmas.{state_found, same_false}
use Rattle.xa_tables.proofs.AccountLemmas.{touch_cmp_total, touch_cmp-IsAntisymmetric, touch_self, same_touch}
use Rattle.xa_tables.proofs.AccountLemmas.{touch_from}

-- ---- the first fault, item by item

module _ {A : Type 0} (fault : List A → A → Option RestoreFault) (xs : List A) (i : ℕ) where
  -- none of the first i items has one
  abbrev pub IsFineBefore : Type 0
  IsFineBefore = first_fault fault [] xs ≡ first_fault fault (take i xs) (drop i xs)

  first_more : (d : A) → i < length xs
      → first_fault fault (take i xs) (drop i xs) ≡ option_or (fault (take i xs) (get_or xs i d))
      (first_fault fault (take (i + 1) xs) (drop (i + 1) xs))
  first_more d within =
      ap (first_fault fault (take i xs)) (drop_more xs i d within)
      ∙ ap (λ ys. option_or (fault (take i xs) (get_or xs i d)) (first_fault fault ys (drop (i + 1) xs)))
      (sym (take_more xs i d within))

  -- the next item has it
  pub fault_here : (d : A) (f : RestoreFault) → IsFineBefore → i < length xs
      → fault (take i xs) (get_or xs i d) ≡ Some f → first_fault fault [] xs ≡ Some f
  fault_here d f fine within is =
      fine ∙ first_more d within ∙ ap (λ o. option_or o (first_fault fault (take (i + 1) xs) (drop (i + 1) xs))) is

  -- the next item hasn't one either
  pub fine_here : (d : A) → IsFineBefore → i < length xs → fault (take i xs) (get_or xs i d) ≡ None
      → first_fault fault [] xs ≡ first_fault fault (take (i + 1) xs) (drop (i + 1) xs)
  fine_here d fine within none =
      fine ∙ first_more d within ∙ ap (λ o. option_or o (first_fault fault (take (i + 1) xs) (drop (i + 1) xs))) none

-- what was refused for the fault f tells it
pub fault_told : {A : Type 0} (o : Option RestoreFault) (r : Result A RestoreFault) → IsErr r
    → IfErr r (λ f. o ≡ Some f) → o ≡ fault_in r
fault_told o (Ok a) is same = let never : ⊥ = cc in absurd never
fault_told o (Err f) is same = same

pub both_none : (a b : Option RestoreFault) → option_or a b ≡ None → (a ≡ None) × (b ≡ None)
both_none None b e = (refl, e)
both_none (Some f) b e = let z : Some f ≡ None = e in cc

-- ---- the branches

-- one more branch, which doesn't stand before
pub branches_push : (es : List (XidName × State)) (x : XidName) (s : State)
    → finmap.get (from_entries {R = xid_cmp} es) x ≡ None
    → from_entries {R = xid_cmp} (es ++ (x, s) ∷ []) ≡ finmap.insert (from_entries es) x s
branches_push es x s none =
    from_entries_push xid_cmp_total xid_cmp-IsAntisymmetric es x s (sym (get-from_entries xid_cmp_total es x) ∙ none)

-- a branch beside those before it, of which a table has the states
pub branch_stands : (es : List (XidName × State)) (m : FinMap xid_cmp State) (b : XidName × State) → m ≡ from_entries es
    → is_some (finmap.get m b.0) ≡ true → branch_fault es b ≡ Some BranchTwice
branch_stands es m b is there =
    ap (λ t. if t then Some BranchTwice else if not (is_left_in (Some b.1)) then Some NotLeft else None)
    (sym (ap is_some (ap (λ n. finmap.get n b.0) is ∙ state_found es b.0)) ∙ there)

pub branch_rests : (es : List (XidName × State)) (m : FinMap xid_cmp State) (b : XidName × State) (left : Bool)
    → m ≡ from_entries es
    → is_some (finmap.get m b.0) ≡ false → is_left_in (Some b.1) ≡ left
    → branch_fault es b ≡ (if not left then Some NotLeft else None)
branch_rests es m b left is new e =
    ap (λ t. if t then Some BranchTwice else if not (is_left_in (Some b.1)) then Some NotLeft else None)
    (sym (ap is_some (ap (λ n. finmap.get n b.0) is ∙ state_found es b.0)) ∙ new)
    ∙ ap (λ t. if not t then Some NotLeft else None) e

-- where none has a fault, each was left
fine_branch : (before : List (XidName × State)) (b : XidName × State) → branch_fault before b ≡ None
    → is_left_in (Some b.1) ≡ true
fine_branch before b none = grind arith

all_left : (before bs : List (XidName × State)) → first_fault branch_fault before bs ≡ None → (x : XidName) (s : State)
    → find xid_cmp x bs ≡ Some s
    → is_left_in (Some s) ≡ true
all_left before [] none x s found = cc
all_left before (b ∷ bs) none x s found =
    let parts = both_none (branch_fault before b) _ none in
    grind (arith, (all_left (before ++ b ∷ []) bs parts.1 x s), (fine_branch before b parts.0))

-- ---- the sums

abbrev Sums : Type 0
Sums = FinMap touch_cmp ℤ

-- the key of a sum that is put is touched, beside those that were
touched_put : (sums : Sums) (x : XidName) (k : List ℕ) (d : ℤ) (q : List ℕ)
    → is_touched (finmap.insert sums (x, k) d) q ≡ (key_eq k q || is_touched sums q)
touched_put sums x k d q =
    let of : Touch → ℤ → Bool = λ p s. key_eq p.1 q in
    let put = get-insert touch_cmp_total sums (x, k) d in
    same_false _ _ (λ none.
    let not_in : (p : Touch) (v : ℤ) → finmap.get (finmap.insert sums (x, k) d) p ≡ Some v → key_eq p.1 q ≡ false =
    λ p v. none_passes touch_cmp_total touch_cmp-IsAntisymmetric of (finmap.insert sums (x, k) d) p v none in
    or_from _ _ (not_in (x, k) d (put (x, k) ∙ ap (λ b. cond b (Some d) (finmap.get sums (x, k))) (touch_self (x, k))))
    (none_pass touch_cmp_total touch_cmp-IsAntisymmetric of sums (λ p v found.
    by_bool (λ b. same_touch p (x, k) ≡ b → key_eq p.1 q ≡ false) (same_touch p (x, k))
    (λ _ t. not_in p d (put p ∙ ap (λ b. cond b (Some d) (finmap.get sums p)) t))
    (λ _ t. not_in p v (put p ∙ ap (λ b. cond b (Some d) (finmap.get sums p)) t ∙ found)) refl)))
    (λ neither.
    let parts = or_parts (key_eq k q) _ neither in
    none_pass touch_cmp_total touch_cmp-IsAntisymmetric of (finmap.insert sums (x, k) d) (λ p v found.
    by_bool (λ b. same_touch p (x, k) ≡ b → key_eq p.1 q ≡ false) (same_touch p (x, k))
    (λ _ t. ap (λ (r : Touch). key_eq r.1 q) (touch_from p (x, k) t) ∙ parts.0)
    (λ _ t.
    none_passes touch_cmp_total touch_cmp-IsAntisymmetric of sums p v parts.1
    (sym (put p ∙ ap (λ b. cond b (Some d) (finmap.get sums p)) t) ∙ found)) refl))

-- the keys that are touched are those of the sums
pub touched_all : (sums : List Sum) (q : List ℕ)
    → is_touched (from_entries {R = touch_cmp} (sum_entries sums)) q ≡ list_any (λ r. key_eq r.key q) sums
touched_all [] q =
    none_pass touch_cmp_total touch_cmp-IsAntisymmetric (λ p s. key_eq p.1 q) finmap.empty (λ p v found.
    let z : None ≡ Some v = sym (get-empty touch_cmp p) ∙ found in cc)
touched_all (s ∷ rest) q =
    touched_put (from_entries (sum_entries rest)) s.xid s.key s.delta q
    ∙ ap (λ b. key_eq s.key q || b) (touched_all rest q)

-- no branch has a sum of a key that isn't touched
pub untouched_none : (sums : Sums) (x : XidName) (k : List ℕ) → is_touched sums k ≡ false
    → finmap.get sums (x, k) ≡ None
untouched_none sums x k none =
    none_from _ (λ v found.
    let apart : key_eq k k ≡ false =
    none_passes touch_cmp_total touch_cmp-IsAntisymmetric (λ p s. key_eq p.1 k) sums (x, k) v none found in
    let same : key_eq k k ≡ true = (Decides-key_eq k k).1 refl in
    let z : false ≡ true = sym apart ∙ same in cc)

-- one more sum, of a key that isn't touched
pub sums_push : (es : List Sum) (s : Sum) → is_touched (from_entries {R = touch_cmp} (sum_entries es)) s.key ≡ false
    → from_entries {R = touch_cmp} (sum_entries (es ++ s ∷ [])) ≡ finmap.insert (from_entries (sum_entries es))
    (s.xid, s.key) s.delta
sums_push es s free =
    ap (from_entries {R = touch_cmp}) (map-append (λ (r : Sum). ((r.xid, r.key), r.delta)) es (s ∷ []))
    ∙ from_entries_push touch_cmp_total touch_cmp-IsAntisymmetric (sum_entries es) (s.xid, s.key) s.delta
    (sym (get-from_entries touch_cmp_total (sum_entries es) (s.xid, s.key)) ∙ untouched_none _ s.xid s.key free)

-- what an amount has wrong is what its sum has, where the tables have the sums before it
pub item_fault : (values : FinMap key_cmp ℤ) (states : FinMap xid_cmp State) (ss : List Sum) (i : ℕ) (s : Sum)
    (own : FinMap key_cmp ℤ) (sums : Sums)
    (o : Option RestoreFault) → own ≡ values → sums ≡ from_entries (sum_entries (take i ss)) → s ≡ get_or ss i s
    → amount_fault (finmap.get own s.key) (finmap.get states s.xid) (is_touched sums s.key) s.delta ≡ o
    → sum_fault (λ k. finmap.get values k) (λ x. finmap.get states x) (take i ss) (get_or ss i s) ≡ o
item_fault values states ss i s own sums o same is item fault =
    ap (sum_fault (λ k. finmap.get values k) (λ x. finmap.get states x) (take i ss)) (sym item)
    ∙ (λ j. amount_fault (finmap.get (sym same j) s.key) (finmap.get states s.xid)
    ((sym (touched_all (take i ss) s.key) ∙ ap (λ m. is_touched m s.key) (sym is)) j) s.delta)
    ∙ fault

-- what holds where an amount has no fault
pub record IsFine (value : Option ℤ) (state : Option State) (taken : Bool) (amount : ℤ) : Type 0 where
  pub declared : is_some value ≡ true
  pub prepared : is_S3 state ≡ true
  pub free : taken ≡ false
  pub within : is_within (unwrap_or value (pos 0) +ℤ amount) ≡ true

pub fine_amount : (value : Option ℤ) (state : Option State) (taken : Bool) (amount : ℤ)
    → amount_fault value state taken amount ≡ None
    → IsFine value state taken amount
fine_amount value state taken amount none =
    record { declared = grind arith; prepared = grind arith; free = grind arith; within = grind arith }

-- where none has a fault, each is of a prepared branch, and its key's value stays within the limits with it
all_fine : (value : List ℕ → Option ℤ) (state : XidName → Option State) (before ss : List Sum)
    → first_fault (sum_fault value state) before ss ≡ None
    → (p : Touch) (v : ℤ) → find touch_cmp p (sum_entries ss) ≡ Some v
    → (is_S3 (state p.0) ≡ true) × (is_within (unwrap_or (value p.1) (pos 0) +ℤ v) ≡ true)
all_fine value state before [] none p v found = cc
all_fine value state before (s ∷ ss) none p v found =
    let parts = both_none (sum_fault value state before s) _ none in
    let own = fine_amount (value s.key) (state s.xid) (list_any (λ r. key_eq r.key s.key) before) s.delta parts.0 in
    by_bool
    (λ b. same_touch p (s.xid, s.key) ≡ b
    → (is_S3 (state p.0) ≡ true) × (is_within (unwrap_or (value p.1) (pos 0) +ℤ v) ≡ true))
    (same_touch p (s.xid, s.key))
    (λ _ t.
    let here = touch_from p (s.xid, s.key) t in
    let amount : s.delta ≡ v =
    let z : Some s.delta ≡ Some v =
    sym (ap (λ b. cond b (Some s.delta) (find touch_cmp p (sum_entries ss))) t) ∙ found in
    cc in (
      ap (λ (r : Touch). is_S3 (state r.0)) here ∙ own.prepared,
      (λ i. is_within (unwrap_or (value (here i).1) (pos 0) +ℤ sym amount i)) ∙ own.within,
    ))
    (λ _ t.
    all_fine value state (before ++ s ∷ []) ss parts.1 p v
    (sym (ap (λ b. cond b (Some s.delta) (find touch_cmp p (sum_entries ss))) t) ∙ found)) refl

-- ---- the tables

-- a declared value, as a store says it
pub declared_found : (ds : List (List ℕ × ℕ)) (k : List ℕ) → finmap.get (declared_values ds) k ≡ stored_value ds k
declared_found ds k =
    get-lookup key_eq key_cmp_total key_cmp-IsAntisymmetric key_eq-by_cmp (map (λ d. (d.0, pos d.1)) ds) k
    ∙ lookup-map_values (λ v. pos v) (key_eq k) ds

-- the sums' first fault, by the tables and by the store
pub same_fault : (accounts : List (List ℕ × ℕ)) (branches : List (XidName × State)) (sums : List Sum)
    → sums_fault (declared_values accounts) (from_entries branches) sums
    ≡ first_fault (sum_fault (stored_value accounts) (stored_state branches)) [] sums
same_fault accounts branches sums i =
    first_fault (sum_fault (λ k. declared_found accounts k i) (λ x. state_found branches x i)) [] sums

-- the first fault of all that a store has, where its accounts have none
pub whole_fault : (s : Stored) (states : FinMap xid_cmp State) (a b : Option RestoreFault)
    → are_accounts s.accounts ≡ true
    → first_fault branch_fault [] s.branches ≡ a → states ≡ from_entries s.branches
    → sums_fault (declared_values s.accounts) states s.sums ≡ b
    → fault_of s ≡ option_or a b
whole_fault s states a b are first is later i =
    if not (are i) then Some BadAccounts
    else option_or (first i)
    ((sym (same_fault s.accounts s.branches s.sums)
    ∙ ap (λ m. sums_fault (declared_values s.accounts) m s.sums) (sym is) ∙ later) i)

-- what a store has that has no fault
record IsFaultless (s : Stored) : Type 0 where
  branches : first_fault branch_fault [] s.branches ≡ None
  sums : sums_fault (declared_values s.accounts) (from_entries s.branches) s.sums ≡ None

faultless_by : (b : Bool) (o : Option RestoreFault) → (if not b then Some BadAccounts else o) ≡ None → o ≡ None
faultless_by true o e = e
faultless_by false o e = let z : Some BadAccounts ≡ None = e in cc

faultless : (s : Stored) → fault_of s ≡ None → IsFaultless s
faultless s none =
    let both = both_none (first_fault branch_fault [] s.branches) _ (faultless_by (are_accounts s.accounts) _ none) in
    record { branches = both.0; sums = same_fault s.accounts s.branches s.sums ∙ both.1 }

-- its sums
fine_sum : (s : Stored) → fault_of s ≡ None → (p : Touch) (v : ℤ) → finmap.get (restored s).sums p ≡ Some v
    → (is_prepared (restored s) p.0 ≡ true) × (is_within (value_of (restored s).values p.1 +ℤ v) ≡ true)
fine_sum s none p v found =
    all_fine (λ k. finmap.get (declared_values s.accounts) k)
    (λ x. finmap.get (from_entries {R = xid_cmp} s.branches) x) [] s.sums
    ((faultless s none).sums) p v (sym (get-from_entries touch_cmp_total (sum_entries s.sums) p) ∙ found)

-- begins an opening
pub restored_opens : (s : Stored) → fault_of s ≡ None → IsOpening (restored s)
restored_opens s none = record {
  opened = refl;
  associations = refl;
  shut = refl;
  left = λ x t is.
      ap is_left_in is
      ∙ all_left [] s.branches ((faultless s none).branches) x t
      (sym (get-from_entries xid_cmp_total s.branches x) ∙ is);
  sums = λ x k unprepared. none_from _
      (λ v found. let f = (fine_sum s none (x, k) v found).0 in let z : true ≡ false = sym f ∙ unprepared in cc);
}

-- and its prepared branches keep the values within the limits
pub restored_sound : (s : Stored) → fault_of s ≡ None
    → ArePreparedSound (restored s).states (restored s).sums (restored s).values
restored_sound s none x voted =
    none_pass touch_cmp_total touch_cmp-IsAntisymmetric
    (λ p v. xid_eq p.0 x && not (is_within (value_of (restored s).values p.1 +ℤ v))) (restored s).sums
    (λ p v found. ap (λ b. xid_eq p.0 x && not b) (fine_sum s none p v found).1 ∙ and-false (xid_eq p.0 x))

-- a store that has what a reopening finds restores it
pub restores : (s : Stored) (T : Tables) → IsStoreOf s T → restored s ≡ reopened T
restores s T h i = record {
  opened = set.empty;
  associations = finmap.empty;
  states = same_map xid_cmp_total xid_cmp-IsAntisymmetric (restored s).states (reopened T).states
      (λ x. state_found s.branches x ∙ h.states x) i;
  sums = same_map touch_cmp_total touch_cmp-IsAntisymmetric (restored s).sums (reopened T).sums (λ p. h.sums p.0 p.1) i;
  values = same_map key_cmp_total key_cmp-IsAntisymmetric (restored s).values (reopened T).values
      (λ k. declared_found s.accounts k ∙ h.values k) i;
  shut = false;
}
