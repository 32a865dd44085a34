-- A store that has what a manager left, each branch and each key once, has no fault.
use Rattle.xa_base.proofs.{arith, ◌≡◌, ℕ, ℤ, pos, ◌+ℤ◌, Bool, true, false, not, ◌&&◌, if◌then◌else◌, Option, None, Some}
use Rattle.xa_base.proofs.{is_some, unwrap_or, List, [], ◌∷◌, ◌++◌, map, list_any, lookup, keys_of, refl, sym, ap, ap₂}
use Rattle.xa_base.proofs.{◌∙◌, cond, option_or, append-nil, append_assoc, AllByRecursion, IsDistinct, IsDistinct-head}
use Rattle.xa_base.proofs.{IsDistinct-tail, or_from, or_parts, and-false, at_mid, find, from_entries, get-empty}
use Rattle.xa_base.proofs.{get-from_entries}
use Rattle.std.specs.FinMap as finmap
use Rattle.xa_words.specs.{XidName, xid_eq, Decides-xid_eq, key_eq, Decides-key_eq, Op, are_accounts}
use Rattle.laws_fates.proofs.ValueLaw.{get_without, get_committed, get_add}
use Rattle.laws_tables.proofs.LimitLaw.{Kept, kept_always}
use Rattle.xa_tables.specs.{State, Tables, touch_cmp, state_of, is_S3, is_left_in, is_within, is_declared, is_prepared}
use Rattle.xa_tables.specs.{opening, reopened, left_by, History, tables_after, next, TablesAndCode, RestoreFault}
use Rattle.xa_tables.specs.{UnknownKey, NotPrepared, KeyTwice, OutOfLimits, Sum, Stored, sum_entries, first_fault}
use Rattle.xa_tables.specs.{branch_fault, amount_fault, sum_fault, stored_value, stored_state, fault_of, IsStoreOf}
use Rattle.xa_tables.specs.{HasEachOnce}
use Rattle.xa_tables.proofs.SoundLemmas.{state_found, swap_xid}
use Rattle.xa_tables.proofs.AccountLemmas.{touch_cmp_total, touch_self, touch_same, same_touch, swapped}
use Rattle.xa_tables.proofs.Effects.{Effect, Adds, Commits, CommitsByItself, effect_of}
use Rattle.xa_tables.proofs.Reopening.{reopens, state_reopened, sums_reopened}
use Rattle.xa_tables.proofs.Restoring.{branch_rests, whole_fault, same_fault}

-- ---- only declared keys have been touched

abbrev OnlyDeclared : Tables → Type 0
OnlyDeclared T = (x : XidName) (k : List ℕ) (s : ℤ) → finmap.get T.sums (x, k) ≡ Some s → is_declared T k ≡ true

declared_by : (t : ℕ) (T : Tables) {op : Op} {a : TablesAndCode} → OnlyDeclared T → Effect t T op a → OnlyDeclared a.0
declared_by t T w (Adds k d l own known free) x q s at = grind (arith, get_add, Decides-key_eq)
declared_by t T w (Commits y one_phase nobody may) x q s at = grind (arith, get_without, get_committed)
declared_by t T w (CommitsByItself y voted) x q s at = grind (arith, get_without, get_committed)
declared_by t T w effect x q s at = grind (arith, get_without)

declared_run : (h : History) (T : Tables) → OnlyDeclared T → OnlyDeclared (tables_after h T)
declared_run [] T w = w
declared_run (r ∷ h) T w =
    declared_run h (next r.thread r.op T).0 (declared_by r.thread T w (effect_of r.thread r.op T))

declared_left : (T : Tables) → OnlyDeclared T → OnlyDeclared (reopened T)
declared_left T w x k s at = grind (arith, sums_reopened)

declared_over : (before : List History) (T : Tables) → OnlyDeclared T → OnlyDeclared (left_by before T)
declared_over [] T w = w
declared_over (h ∷ hs) T w =
    declared_over hs (reopened (tables_after h T)) (declared_left (tables_after h T) (declared_run h T w))

declared_always : (accounts : List (List ℕ × ℕ)) (before : List History) (h : History)
    → OnlyDeclared (tables_after h (left_by before (opening accounts)))
declared_always accounts before h =
    declared_run h _
    (declared_over before (opening accounts)
    (λ x k s at. let z : None ≡ Some s = sym (get-empty touch_cmp (x, k)) ∙ at in cc))

-- ---- a list none of whose items has a fault beside those before it

none_fault : {A : Type 0} (fault : List A → A → Option RestoreFault) (before xs : List A)
    → ((ys : List A) (x : A) (zs : List A) → xs ≡ ys ++ x ∷ zs → fault (before ++ ys) x ≡ None)
    → first_fault fault before xs ≡ None
none_fault fault before [] each = refl
none_fault fault before (x ∷ xs) each =
    ap₂ option_or (ap (λ bs. fault bs x) (sym (append-nil before)) ∙ each [] x xs refl)
    (none_fault fault (before ++ x ∷ []) xs
    (λ ys y zs is. ap (λ bs. fault bs y) (append_assoc before (x ∷ []) ys)
    ∙ each (x ∷ ys) y zs (ap (λ l. x ∷ l) is)))

-- ---- the branches

abbrev Branches : Type 0
Branches = List (XidName × State)

keys_mid : (ys : Branches) (b : XidName × State) (zs : Branches)
    → keys_of (ys ++ b ∷ zs) ≡ keys_of ys ++ b.0 ∷ keys_of zs
keys_mid [] b zs = refl
keys_mid (y ∷ ys) b zs = ap (λ l. y.0 ∷ l) (keys_mid ys b zs)

-- one that stands once doesn't stand before
none_before : (ys : Branches) (b : XidName × State) (zs : Branches) → IsDistinct xid_eq (keys_of (ys ++ b ∷ zs))
    → lookup (xid_eq b.0) ys ≡ None
none_before [] b zs once = refl
none_before (y ∷ ys) b zs once =
    let apart : xid_eq y.0 b.0 ≡ false =
    at_mid (λ z. xid_eq y.0 z ≡ false) (keys_of ys) b.0 (keys_of zs)
    (rw (keys_mid ys b zs) at (IsDistinct-head xid_eq y.0 (keys_of (ys ++ b ∷ zs)) once)) in
    ap (λ t. cond t (Some y.1) (lookup (xid_eq b.0) ys)) (swap_xid b.0 y.0 ∙ apart)
    ∙ none_before ys b zs (IsDistinct-tail xid_eq y.0 (keys_of (ys ++ b ∷ zs)) once)

found_mid : (ys : Branches) (b : XidName × State) (zs : Branches) → lookup (xid_eq b.0) ys ≡ None
    → lookup (xid_eq b.0) (ys ++ b ∷ zs) ≡ Some b.1
found_mid [] b zs none = ap (λ t. cond t (Some b.1) (lookup (xid_eq b.0) zs)) ((Decides-xid_eq b.0 b.0).1 refl)
found_mid (y ∷ ys) b zs none = grind (arith, (found_mid ys b zs))

-- ---- the sums

taken_before : (ys : List Sum) (r : Sum) (zs : List Sum) → IsDistinct key_eq (map (λ (q : Sum). q.key) (ys ++ r ∷ zs))
    → list_any (λ q. key_eq q.key r.key) ys ≡ false
taken_before [] r zs once = refl
taken_before (y ∷ ys) r zs once =
    or_from _ _ (apart ys (IsDistinct-head key_eq y.key (map (λ (q : Sum). q.key) (ys ++ r ∷ zs)) once))
    (taken_before ys r zs (IsDistinct-tail key_eq y.key (map (λ (q : Sum). q.key) (ys ++ r ∷ zs)) once))
  where
    apart : (ys : List Sum) → AllByRecursion (λ k. key_eq y.key k ≡ false) (map (λ (q : Sum). q.key) (ys ++ r ∷ zs))
        → key_eq y.key r.key ≡ false
    apart [] h = h.0
    apart (q ∷ qs) h = apart qs h.1

sum_mid : (ys : List Sum) (r : Sum) (zs : List Sum) → list_any (λ q. key_eq q.key r.key) ys ≡ false
    → find touch_cmp (r.xid, r.key) (sum_entries (ys ++ r ∷ zs)) ≡ Some r.delta
sum_mid [] r zs free =
    ap (λ t. cond t (Some r.delta) (find touch_cmp (r.xid, r.key) (sum_entries zs))) (touch_self (r.xid, r.key))
sum_mid (y ∷ ys) r zs free =
    let parts = or_parts (key_eq y.key r.key) _ free in
    let apart : same_touch (r.xid, r.key) (y.xid, y.key) ≡ false =
    touch_same r.xid y.xid r.key y.key ∙ ap (λ b. xid_eq y.xid r.xid && b) (sym (swapped r.key y.key) ∙ parts.0)
    ∙ and-false (xid_eq y.xid r.xid) in
    ap (λ t. cond t (Some y.delta) (find touch_cmp (r.xid, r.key) (sum_entries (ys ++ r ∷ zs)))) apart
    ∙ sum_mid ys r zs parts.1

fine_amount : (value : Option ℤ) (state : Option State) (taken : Bool) (amount : ℤ) → is_some value ≡ true
    → is_S3 state ≡ true → taken ≡ false
    → is_within (unwrap_or value (pos 0) +ℤ amount) ≡ true → amount_fault value state taken amount ≡ None
fine_amount value state taken amount known voted free within i =
    if not (known i) then Some UnknownKey
    else if not (voted i) then Some NotPrepared
    else if free i then Some KeyTwice
    else if not (within i) then Some OutOfLimits
    else None

-- ---- all that the store has

module _ (s : Stored) (T : Tables) (of : IsStoreOf s T) (once : HasEachOnce s) (kept : Kept T)
    (declared : OnlyDeclared T) where
  fine_branch : (ys : Branches) (b : XidName × State) (zs : Branches) → s.branches ≡ ys ++ b ∷ zs
      → branch_fault ys b ≡ None
  fine_branch ys b zs is =
      let none = none_before ys b zs (ap_once is) in
      let there : state_of (reopened T) b.0 ≡ Some b.1 =
      sym (of.states b.0) ∙ ap (lookup (xid_eq b.0)) is ∙ found_mid ys b zs none in
      branch_rests ys (from_entries ys) b true refl (ap is_some (state_found ys b.0 ∙ none))
      (ap is_left_in (sym there) ∙ (reopens T).left b.0 b.1 there)
    where
      ap_once : {bs : Branches} → s.branches ≡ bs → IsDistinct xid_eq (keys_of bs)
      ap_once is = rw (sym is) once.branches

  fine_sum : (ys : List Sum) (r : Sum) (zs : List Sum) → s.sums ≡ ys ++ r ∷ zs
      → sum_fault (stored_value s.accounts) (stored_state s.branches) ys r ≡ None
  fine_sum ys r zs is =
      let free = taken_before ys r zs (ap_once is) in
      let there : finmap.get (reopened T).sums (r.xid, r.key) ≡ Some r.delta =
      sym (of.sums r.xid r.key) ∙ get-from_entries touch_cmp_total (sum_entries s.sums) (r.xid, r.key)
      ∙ ap (λ l. find touch_cmp (r.xid, r.key) (sum_entries l)) is
      ∙ sum_mid ys r zs free in
      let voted : is_prepared T r.xid ≡ true =
      prepared _ _ (is_prepared T r.xid) (sym (sums_reopened T r.xid r.key) ∙ there) in
      let before : finmap.get T.sums (r.xid, r.key) ≡ Some r.delta =
      sym (ap (λ b. cond b (finmap.get T.sums (r.xid, r.key)) None) voted) ∙ sym (sums_reopened T r.xid r.key)
      ∙ there in
      let state : is_S3 (stored_state s.branches r.xid) ≡ true =
      ap is_S3 (of.states r.xid ∙ state_reopened T r.xid) ∙ stays (state_of T r.xid) voted in
      fine_amount _ _ _ _ (ap is_some (of.values r.key) ∙ declared r.xid r.key r.delta before) state free
      (ap (λ o. is_within (unwrap_or o (pos 0) +ℤ r.delta)) (of.values r.key)
      ∙ kept.prepared r.xid voted r.key r.delta before)
    where
      ap_once : {ss : List Sum} → s.sums ≡ ss → IsDistinct key_eq (map (λ (q : Sum). q.key) ss)
      ap_once is = rw (sym is) once.sums

      prepared : (o : Option ℤ) (v : ℤ) (b : Bool) → cond b o None ≡ Some v → b ≡ true
      prepared o v b e = grind arith

      stays : (o : Option State) → is_S3 o ≡ true → is_S3 (cond (is_left_in o) o None) ≡ true
      stays o e = grind arith

  faultless : fault_of s ≡ None
  faultless =
      whole_fault s (from_entries s.branches) None None once.accounts
      (none_fault branch_fault [] s.branches fine_branch) refl
      (same_fault s.accounts s.branches s.sums
      ∙ none_fault (sum_fault (stored_value s.accounts) (stored_state s.branches)) [] s.sums fine_sum)

-- the law
pub left_is_fine : (accounts : List (List ℕ × ℕ)) (before : List History) (h : History) (s : Stored)
    → are_accounts accounts ≡ true
    → IsStoreOf s (tables_after h (left_by before (opening accounts))) → HasEachOnce s → fault_of s ≡ None
left_is_fine accounts before h s are of once =
    faultless s (tables_after h (left_by before (opening accounts))) of once (kept_always accounts before h are)
    (declared_always accounts before h)
