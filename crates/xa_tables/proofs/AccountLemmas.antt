-- The maps that the accounts make.
use Rattle.xa_base.proofs.{◌≡◌, ◌≢◌, ℕ, ℤ, pos, ◌+ℤ◌, All, zero, suc, ◌+◌, ◌<◌, Bool, true, false, cond, not, ◌&&◌}
use Rattle.xa_base.proofs.{◌||◌, List, [], ◌∷◌, ◌++◌, take, drop, length, map, Option, None, Some, unwrap_or}
use Rattle.xa_base.proofs.{option_map, refl, sym, ap, ◌∙◌, arith, get_or, set, list_any, eq_by_cmp, is_eq, tied_itself}
use Rattle.xa_base.proofs.{FinMap, find, from_entries, get-from_entries, All-map, All-head, All-tail, length-map}
use Rattle.xa_base.proofs.{get_or_default, get_or-set_other, length-set, take_all, drop_all, append-nil, and-false}
use Rattle.xa_base.proofs.{false_from_ne_true, not-false, and_parts, +ℤ_idr as plus_none, is_equal, put_one}
use Rattle.xa_base.proofs.{retain_some, map_some, any_entries, Distinct, ◌≤ℤ◌, ordering_then, IsTotalOrder, then_total}
use Rattle.xa_base.proofs.{on_total, IsAntisymmetric, get_or-set_at, le_z_yes, list_any_at, or-false, map-set_same}
use Rattle.xa_base.proofs.{eq_by_cmp_equiv, is_some, ◌≤◌, cases_eq, by_bool, if◌then◌else◌, inl, inr}
use Rattle.std.specs.declared.cmp.Ordering.{Ordering}
use Rattle.std.specs.declared.cmp.Ordering.TheVariants.{Equal}
use Rattle.xa_words.specs.{XidName, xid_cmp, xid_eq, IsDelta, key_eq, key_cmp_total, key_cmp-IsAntisymmetric}
use Rattle.xa_words.specs.{xid_cmp_total, xid_cmp-IsAntisymmetric, xid_eq-by_cmp, Decides-xid_eq, key_eq-by_cmp}
use Rattle.std.proofs.lemmas.Float.{T_from_true}
use Rattle.xa_words.specs.Orders.{key_cmp}
use Rattle.xa_tables.specs.{Account, Hold, Touch, touch_cmp, is_within, value_of, sum_of, has_touched}
use Rattle.xa_tables.specs.{has_other_touched, is_touched, is_broken, posted, IsSmall, IsGood, place_in, keys_of}
use Rattle.xa_tables.specs.{with_hold, hold_entries, value_entries, AreDistinct, hold_is_of, is_held_by, hold_is_other}
use Rattle.xa_tables.specs.{hold_breaks, hold_amount, is_broken_by, amount_in, added_to, hold_where, hold_without}
use Rattle.xa_tables.specs.{kept_where, all_but, amount_of, posted_by}
use Rattle.xa_tables.proofs.SoundLemmas.{swap_xid}
use Rattle.std.specs.FinMap as finmap

-- touches are ordered, and no two are tied
pub touch_cmp_total : IsTotalOrder touch_cmp
touch_cmp_total = then_total (on_total (λ (p : Touch). p.0) xid_cmp_total) (on_total (λ (p : Touch). p.1) key_cmp_total)

both_equal : (a b : Ordering) → ordering_then a b ≡ Equal → (a ≡ Equal) × (b ≡ Equal)
both_equal a b e = grind arith

pub touch_cmp-IsAntisymmetric : IsAntisymmetric touch_cmp
touch_cmp-IsAntisymmetric p q e =
    let d = both_equal (xid_cmp p.0 q.0) (key_cmp p.1 q.1) e in
    let x : p.0 ≡ q.0 = xid_cmp-IsAntisymmetric _ _ d.0 in
    let k : p.1 ≡ q.1 = key_cmp-IsAntisymmetric _ _ d.1 in
    λ i. (x i, k i)

abbrev pub same_key : List ℕ → List ℕ → Bool
same_key = eq_by_cmp key_cmp

abbrev pub same_touch : Touch → Touch → Bool
same_touch = eq_by_cmp touch_cmp

key_from : (k l : List ℕ) → same_key k l ≡ true → k ≡ l
key_from k l t = key_cmp-IsAntisymmetric k l (is_equal _ t)

pub touch_from : (p q : Touch) → same_touch p q ≡ true → p ≡ q
touch_from p q t = touch_cmp-IsAntisymmetric p q (is_equal _ t)

pub key_self : (k : List ℕ) → same_key k k ≡ true
key_self k = ap is_eq (tied_itself key_cmp_total k)

pub touch_self : (p : Touch) → same_touch p p ≡ true
touch_self p = ap is_eq (tied_itself touch_cmp_total p)

-- touches are one if their branches and their keys are
then_is : (a b : Ordering) → is_eq (ordering_then a b) ≡ (is_eq a && is_eq b)
then_is a b = grind arith

pub touch_same : (x y : XidName) (k l : List ℕ) → same_touch (x, k) (y, l) ≡ (xid_eq y x && same_key k l)
touch_same x y k l =
    then_is (xid_cmp x y) (key_cmp k l) ∙ ap (λ b. b && same_key k l) (sym (xid_eq-by_cmp x y) ∙ swap_xid x y)

pub key_apart : (k l : List ℕ) → (k ≡ l → ⊥) → same_key k l ≡ false
key_apart k l h = false_from_ne_true _ (λ t. h (key_from k l t))

pub swapped : (k l : List ℕ) → key_eq l k ≡ same_key k l
swapped k l = key_eq-by_cmp l k ∙ (eq_by_cmp_equiv key_cmp_total).symm l k

-- the keys stay where f leaves them, and where an account is replaced by one of its key
pub keys_map : (f : Account → Account) → ((a : Account) → (f a).key ≡ a.key) → (accounts : List Account)
    → keys_of (map f accounts) ≡ keys_of accounts
keys_map f keeps [] = refl
keys_map f keeps (a ∷ rest) = λ i. keeps a i ∷ keys_map f keeps rest i

pub keys_set : (accounts : List Account) (i : ℕ) (a b : Account) → a ≡ get_or accounts i a → b.key ≡ a.key
    → keys_of (set accounts i b) ≡ keys_of accounts
keys_set accounts i a b e same =
    map-set_same (λ (w : Account). w.key) accounts i b a (same ∙ ap (λ (w : Account). w.key) e)

-- the account of a key
abbrev pub at_key : List ℕ → List Account → Option Account
at_key k [] = None
at_key k (a ∷ rest) = cond (same_key k a.key) (Some a) (at_key k rest)

-- its value is found
pub value_found : (k : List ℕ) (accounts : List Account)
    → find key_cmp k (value_entries accounts) ≡ option_map (λ (a : Account). a.value) (at_key k accounts)
value_found k [] = refl
value_found k (a ∷ rest) = grind (arith, (value_found k rest), find, key_cmp)

-- none, where the key has no place
pub lacks_key : (k : List ℕ) (accounts : List Account) → place_in k (keys_of accounts) ≡ None → at_key k accounts ≡ None
lacks_key k [] h = refl
lacks_key k (a ∷ rest) h = grind (arith, (lacks_key k rest), swapped)

-- each account is that of its key
pub at_own_key : (accounts : List Account) (i : ℕ) (a : Account) → AreDistinct accounts → i < length accounts
    → a ≡ get_or accounts i a
    → at_key a.key accounts ≡ Some a
at_own_key [] i a dist h e = absurd (omega arith)
at_own_key (c ∷ rest) zero a dist h e = grind (arith, key_self)
at_own_key (c ∷ rest) (suc i) a dist h e =
    grind (arith, (at_own_key rest i a dist.1 (omega arith) e), key_apart, lacks_key)

-- what x holds by an account
abbrev pub amount_held : XidName → Option Account → Option ℤ
amount_held x None = None
amount_held x (Some a) = hold_amount x a.hold

-- what x holds of a key is what it holds by the key's account
pub hold_found : (accounts : List Account) → AreDistinct accounts → (x : XidName) (k : List ℕ)
    → find touch_cmp (x, k) (hold_entries accounts) ≡ amount_held x (at_key k accounts)
hold_found [] h x k = refl
hold_found (a ∷ rest) h x k =
    grind (arith, (hold_found rest h.1 x k), find, touch_same, (key_from k a.key), (lacks_key k rest), and-false)

sum_is : (accounts : List Account) → AreDistinct accounts → (x : XidName) (k : List ℕ)
    → sum_of (from_entries (hold_entries accounts)) x k ≡ unwrap_or (amount_held x (at_key k accounts)) (pos 0)
sum_is accounts h x k =
    ap (λ o. unwrap_or o (pos 0))
    (get-from_entries touch_cmp_total (hold_entries accounts) (x, k) ∙ hold_found accounts h x k)

-- accounts with keys of their own make entries with keys of their own
pub distinct_holds : (accounts : List Account) → AreDistinct accounts
    → Distinct touch_cmp_total touch_cmp-IsAntisymmetric (hold_entries accounts)
distinct_holds [] h = tt
distinct_holds (a ∷ rest) h =
    elim (a.hold) as (λ o. Distinct touch_cmp_total touch_cmp-IsAntisymmetric (with_hold a.key o (hold_entries rest))) [
      | None ↦ distinct_holds rest h.1
      | Some
          l ↦ (
            hold_found rest h.1 l.xid a.key
                ∙ ap (amount_held l.xid) (lacks_key a.key rest h.0),
            distinct_holds rest h.1,
          )
    ]

-- tests of the holds, account by account
any_hold : (p : Touch → ℤ → Bool) (q : Account → Bool) (accounts : List Account)
    → All (λ a. q a ≡ elim (a.hold) [ None ↦ false | Some l ↦ p (l.xid, a.key) l.amount ]) accounts
    → list_any (λ (e : Touch × ℤ). p e.0 e.1) (hold_entries accounts) ≡ list_any q accounts
any_hold p q [] is = refl
any_hold p q (a ∷ rest) is =
    let Q : Account → Type 0 = λ c. q c ≡ elim (c.hold) [ None ↦ false | Some l ↦ p (l.xid, c.key) l.amount ] in
    grind (arith, (any_hold p q rest (All-tail Q a rest is)), (All-head Q a rest is))

hold_of_cases : (x : XidName) (a : Account) → is_held_by a x ≡ elim (a.hold) [ None ↦ false | Some l ↦ xid_eq l.xid x ]
hold_of_cases x a =
    elim (a.hold) as (λ o. hold_is_of o x ≡ elim o [ None ↦ false | Some l ↦ xid_eq l.xid x ])
    [ None ↦ refl | Some l ↦ refl ]

-- x has touched a key if it holds an account
pub touched_any : (accounts : List Account) (x : XidName) → AreDistinct accounts
    → has_touched (from_entries (hold_entries accounts)) x ≡ list_any (λ a. is_held_by a x) accounts
touched_any accounts x h =
    any_entries touch_cmp_total touch_cmp-IsAntisymmetric (λ p s. xid_eq p.0 x) (hold_entries accounts)
    (distinct_holds accounts h)
    ∙ any_hold (λ p s. xid_eq p.0 x) (λ a. is_held_by a x) accounts
    (λ i d within. hold_of_cases x (get_or accounts i d))

-- another branch than x has touched the key k here
abbrev pub is_other : Account → XidName → List ℕ → Bool
is_other a x k = key_eq a.key k && hold_is_other a.hold x

other_cases : (x : XidName) (k : List ℕ) (a : Account)
    → is_other a x k ≡ elim (a.hold) [ None ↦ false | Some l ↦ key_eq a.key k && not (xid_eq l.xid x) ]
other_cases x k a = grind (arith, and-false)

abbrev pub is_held_by_another : XidName → Option Account → Bool
is_held_by_another x None = false
is_held_by_another x (Some a) = hold_is_other a.hold x

other_at_key : (accounts : List Account) → AreDistinct accounts → (x : XidName) (k : List ℕ)
    → list_any (λ a. is_other a x k) accounts ≡ is_held_by_another x (at_key k accounts)
other_at_key [] h x k = refl
other_at_key (a ∷ rest) h x k =
    grind (arith, (other_at_key rest h.1 x k), (swapped k a.key), (key_from k a.key), (lacks_key k rest), or-false)

-- another branch has touched k if it holds k's account
pub other_any : (accounts : List Account) (x : XidName) (k : List ℕ) → AreDistinct accounts
    → has_other_touched (from_entries (hold_entries accounts)) x k ≡ is_held_by_another x (at_key k accounts)
other_any accounts x k h =
    any_entries touch_cmp_total touch_cmp-IsAntisymmetric (λ p s. key_eq p.1 k && not (xid_eq p.0 x))
    (hold_entries accounts) (distinct_holds accounts h)
    ∙ any_hold (λ p s. key_eq p.1 k && not (xid_eq p.0 x)) (λ a. is_other a x k) accounts
    (λ i d within. other_cases x k (get_or accounts i d))
    ∙ other_at_key accounts h x k

-- some branch has touched the key k here
abbrev is_key_held : Account → List ℕ → Bool
is_key_held a k = key_eq a.key k && is_some a.hold

key_cases : (k : List ℕ) (a : Account) → is_key_held a k ≡ elim (a.hold) [ None ↦ false | Some l ↦ key_eq a.key k ]
key_cases k a = grind (arith, and-false)

abbrev pub is_held_in : Option Account → Bool
is_held_in None = false
is_held_in (Some a) = is_some a.hold

held_at_key : (accounts : List Account) → AreDistinct accounts → (k : List ℕ)
    → list_any (λ a. is_key_held a k) accounts ≡ is_held_in (at_key k accounts)
held_at_key [] h k = refl
held_at_key (a ∷ rest) h k =
    grind (arith, (held_at_key rest h.1 k), (swapped k a.key), (key_from k a.key), (lacks_key k rest), or-false)

-- some branch has touched k if it holds k's account
pub held_any : (accounts : List Account) (k : List ℕ) → AreDistinct accounts
    → is_touched (from_entries (hold_entries accounts)) k ≡ is_held_in (at_key k accounts)
held_any accounts k h =
    any_entries touch_cmp_total touch_cmp-IsAntisymmetric (λ p s. key_eq p.1 k) (hold_entries accounts)
    (distinct_holds accounts h)
    ∙ any_hold (λ p s. key_eq p.1 k) (λ a. is_key_held a k) accounts (λ i d within. key_cases k (get_or accounts i d))
    ∙ held_at_key accounts h k

-- a key's value is that of its account
pub value_there : (accounts : List Account) (i : ℕ) (a : Account) → AreDistinct accounts → i < length accounts
    → a ≡ get_or accounts i a
    → value_of (from_entries (value_entries accounts)) a.key ≡ a.value
value_there accounts i a h within e =
    ap (λ o. unwrap_or o (pos 0))
    (get-from_entries key_cmp_total (value_entries accounts) a.key ∙ value_found a.key accounts
    ∙ ap (option_map (λ (c : Account). c.value)) (at_own_key accounts i a h within e))

broken_cases : (values : FinMap key_cmp ℤ) (x : XidName) (a : Account) → value_of values a.key ≡ a.value
    → is_broken_by a x ≡ elim (a.hold)
    [ None ↦ false | Some l ↦ xid_eq l.xid x && not (is_within (value_of values a.key +ℤ l.amount)) ]
broken_cases values x a is = grind arith

-- x takes a value out of the limits if it does so at an account
pub broken_any : (accounts : List Account) (x : XidName) → AreDistinct accounts
    → is_broken (from_entries (value_entries accounts)) (from_entries (hold_entries accounts)) x ≡ list_any
    (λ a. is_broken_by a x) accounts
broken_any accounts x h =
    let values : FinMap key_cmp ℤ = from_entries (value_entries accounts) in
    let p : Touch → ℤ → Bool = λ p s. xid_eq p.0 x && not (is_within (value_of values p.1 +ℤ s)) in
    any_entries touch_cmp_total touch_cmp-IsAntisymmetric p (hold_entries accounts) (distinct_holds accounts h)
    ∙ any_hold p (λ a. is_broken_by a x) accounts (λ i d within.
    let a : Account = get_or accounts i d in
    broken_cases values x a (value_there accounts i a h within (get_or_default accounts i d a within)))

-- ---- some branches let go of their keys

-- f leaves the keys, and takes the holds away that aren't to be kept
pub record LetsGo (keep : XidName → Bool) (f : Account → Account) : Type 0 where
  pub key : (a : Account) → (f a).key ≡ a.key
  pub hold : (a : Account) → (f a).hold ≡ hold_where keep a.hold

pub posted_goes : (x : XidName) → LetsGo (all_but x) (posted_by x)
posted_goes x = record { key = λ a. refl; hold = λ a. refl }

pub kept_goes : (keep : XidName → Bool) → LetsGo keep (kept_where keep)
kept_goes keep = record { key = λ a. refl; hold = λ a. refl }

-- the account of a key, once each was changed by f, which leaves the keys
at_key_map : (f : Account → Account) → ((a : Account) → (f a).key ≡ a.key) → (k : List ℕ) (accounts : List Account)
    → at_key k (map f accounts) ≡ option_map f (at_key k accounts)
at_key_map f keys k [] = refl
at_key_map f keys k (a ∷ rest) = grind (arith, (at_key_map f keys k rest))

-- so the keys stay apart
distinct_changed : (f : Account → Account) → ((a : Account) → (f a).key ≡ a.key) → (accounts : List Account)
    → AreDistinct accounts
    → AreDistinct (map f accounts)
distinct_changed f keys accounts h = rw (keys_map f keys accounts) h

kept_amount : (keep : XidName → Bool) (f : Account → Account) → LetsGo keep f → (x : XidName) (o : Option Account)
    → amount_held x (option_map f o) ≡ cond (keep x) (amount_held x o) None
kept_amount keep f g x o = grind (arith, Decides-xid_eq)

-- the values stay
pub values_kept : (keep : XidName → Bool) (accounts : List Account)
    → value_entries (map (kept_where keep) accounts) ≡ value_entries accounts
values_kept keep [] = refl
values_kept keep (a ∷ rest) = ap (λ es. (a.key, a.value) ∷ es) (values_kept keep rest)

-- the sums are then those of the branches that are kept
pub sums_go : (keep : XidName → Bool) (f : Account → Account) → LetsGo keep f → (accounts : List Account)
    → AreDistinct accounts
    → from_entries {R = touch_cmp} (hold_entries (map f accounts)) ≡ finmap.retain_keys
    (from_entries (hold_entries accounts)) (λ p. keep p.0)
sums_go keep f g accounts h =
    retain_some touch_cmp_total touch_cmp-IsAntisymmetric _ _ (λ p. keep p.0) (λ p.
    hold_found (map f accounts) (distinct_changed f g.key accounts h) p.0 p.1
    ∙ ap (amount_held p.0) (at_key_map f g.key p.1 accounts)
    ∙ kept_amount keep f g p.0 (at_key p.1 accounts)
    ∙ ap (λ o. cond (keep p.0) o None) (sym (hold_found accounts h p.0 p.1)))

amount_is : (x : XidName) (o : Option Hold) → amount_of o x ≡ unwrap_or (hold_amount x o) (pos 0)
amount_is x o = grind arith

-- the values once x has committed
pub values_posted : (x : XidName) (accounts : List Account) → AreDistinct accounts
    → from_entries {R = key_cmp} (value_entries (map (posted_by x) accounts)) ≡ posted
    (from_entries (value_entries accounts)) (from_entries (hold_entries accounts)) x
values_posted x accounts h =
    let sums : FinMap touch_cmp ℤ = from_entries (hold_entries accounts) in
    map_some key_cmp_total key_cmp-IsAntisymmetric (λ k v. v +ℤ sum_of sums x k) _ _ (λ q.
    value_found q (map (posted_by x) accounts)
    ∙ ap (option_map (λ (a : Account). a.value)) (at_key_map (posted_by x) (λ a. refl) q accounts)
    ∙ settled (at_key q accounts) (sum_of sums x q) (sum_is accounts h x q)
    ∙ ap (option_map (λ v. v +ℤ sum_of sums x q)) (sym (value_found q accounts)))
  where
    settled : (o : Option Account) (s : ℤ) → s ≡ unwrap_or (amount_held x o) (pos 0)
        → option_map (λ (a : Account). a.value) (option_map (posted_by x) o) ≡ option_map (λ v. v +ℤ s)
        (option_map (λ (a : Account). a.value) o)
    settled None s e = refl
    settled (Some a) s e = ap (λ v. Some (a.value +ℤ v)) (amount_is x a.hold ∙ sym e)

-- another branch is broken as it was
each_as_was : (p : Account → Bool) (f : Account → Account) → ((a : Account) → p (f a) ≡ p a) → (accounts : List Account)
    → list_any p (map f accounts) ≡ list_any p accounts
each_as_was p f is [] = refl
each_as_was p f is (a ∷ rest) = λ i. is a i || each_as_was p f is rest i

pub forgotten_breaks : (x y : XidName) → y ≢ x → (v : ℤ) (o : Option Hold)
    → hold_breaks v (hold_without o x) y ≡ hold_breaks v o y
forgotten_breaks x y apart v o = grind (arith, false_from_ne_true, Decides-xid_eq)

pub settled_breaks : (x y : XidName) → y ≢ x → (v : ℤ) (o : Option Hold)
    → hold_breaks (v +ℤ amount_of o x) (hold_without o x) y ≡ hold_breaks v o y
settled_breaks x y apart v None = refl
settled_breaks x y apart v (Some l) = grind (arith, false_from_ne_true, Decides-xid_eq, plus_none)

-- and so once each account was changed by f, which leaves the keys
pub others_as_were : (f : Account → Account) → ((a : Account) → (f a).key ≡ a.key)
    → (accounts : List Account) (y : XidName) → AreDistinct accounts
    → ((a : Account) → is_broken_by (f a) y ≡ is_broken_by a y)
    → is_broken (from_entries (value_entries (map f accounts))) (from_entries (hold_entries (map f accounts))) y
    ≡ is_broken (from_entries (value_entries accounts)) (from_entries (hold_entries accounts)) y
others_as_were f keys accounts y h same =
    broken_any (map f accounts) y (distinct_changed f keys accounts h)
    ∙ each_as_was (λ a. is_broken_by a y) f same accounts ∙ sym (broken_any accounts y h)

-- the accounts, each of them changed by f through one slice
pub written_whole : (f : Account → Account) (n : ℕ) (slice items after : List Account) → after ≡ map f slice
    → slice ≡ items → length slice ≡ n
    → take n (after ++ drop (length after) items) ≡ map f items
written_whole f n slice items after done is long = grind (arith, drop_all, append-nil, take_all, length-map)

-- ---- an addition

-- an account that is replaced by one of the same key and value
pub values_set : (accounts : List Account) (i : ℕ) (a b : Account) → a ≡ get_or accounts i a → b.key ≡ a.key
    → b.value ≡ a.value
    → value_entries (set accounts i b) ≡ value_entries accounts
values_set accounts i a b e k v =
    map-set_same (λ (w : Account). (w.key, w.value)) accounts i b a
    (λ j. ((k ∙ ap (λ (w : Account). w.key) e) j, (v ∙ ap (λ (w : Account). w.value) e) j))

-- nobody holds it, or x does
abbrev pub IsFor : XidName → Option Hold → Type 0
IsFor x None = Unit {0}
IsFor x (Some l) = l.xid ≡ x

-- the account of a key, once one is replaced by one of the same key
at_key_set : (k : List ℕ) (accounts : List Account) (i : ℕ) (b : Account) → AreDistinct accounts → i < length accounts
    → b.key ≡ (get_or accounts i b).key
    → at_key k (set accounts i b) ≡ cond (same_key k b.key) (Some b) (at_key k accounts)
at_key_set k [] i b dist h same = absurd (omega arith)
at_key_set k (c ∷ rest) zero b dist h same = grind arith
at_key_set k (c ∷ rest) (suc i) b dist h same =
    let there =
    at_own_key rest i (get_or rest i b) dist.1 (omega arith)
    (get_or_default rest i b (get_or rest i b) (omega arith)) in
    grind (arith, (at_key_set k rest i b dist.1 (omega arith) same), key_apart, key_from, lacks_key)

for_other : (x y : XidName) (o : Option Hold) → IsFor x o → xid_eq x y ≡ false → hold_amount y o ≡ None
for_other x y o h e = grind arith

amount_for : (x : XidName) (o : Option Hold) → IsFor x o → unwrap_or (hold_amount x o) (pos 0) ≡ amount_in o
amount_for x o h = grind (arith, Decides-xid_eq)

-- the keys stay apart where x has added d at one account, and the sums are then these
pub distinct_added : (accounts : List Account) (i : ℕ) (a : Account) (x : XidName) (d : ℤ) → AreDistinct accounts
    → a ≡ get_or accounts i a
    → AreDistinct (set accounts i (added_to a x d))
distinct_added accounts i a x d dist e = rw (keys_set accounts i a (added_to a x d) e refl) dist

module _ (accounts : List Account) (i : ℕ) (a : Account) (x : XidName) (d : ℤ) (dist : AreDistinct accounts)
    (h : i < length accounts)
    (e : a ≡ get_or accounts i a) (for : IsFor x a.hold) where
  own_key : (added_to a x d).key ≡ (get_or accounts i (added_to a x d)).key
  own_key = ap (λ (w : Account). w.key) (e ∙ sym (get_or_default accounts i (added_to a x d) a h))

  -- what y holds where that account is read, and where another is
  added_held : (y : XidName) (here : Bool) (o : Option Account) → (here ≡ true → o ≡ Some a)
      → amount_held y (cond here (Some (added_to a x d)) o) ≡ cond (xid_eq x y && here) (Some (amount_in a.hold +ℤ d))
      (amount_held y o)
  added_held y false o there =
      ap (λ b. cond b (Some (amount_in a.hold +ℤ d)) (amount_held y o)) (sym (and-false (xid_eq x y)))
  added_held y true o there =
      by_bool
      (λ b. ◌≡◌ {A = Option ℤ} (if b then Some (amount_in a.hold +ℤ d) else None)
      (cond (b && true) (Some (amount_in a.hold +ℤ d)) (amount_held y o)))
      (xid_eq x y) (λ _. refl) (λ apart. sym (ap (amount_held y) (there refl) ∙ for_other x y a.hold for apart))

  found_added : (p : Touch) → find touch_cmp p (hold_entries (set accounts i (added_to a x d)))
      ≡ cond (same_touch p (x, a.key)) (Some (amount_in a.hold +ℤ d)) (find touch_cmp p (hold_entries accounts))
  found_added p =
      hold_found (set accounts i (added_to a x d)) (distinct_added accounts i a x d dist e) p.0 p.1
      ∙ ap (amount_held p.0) (at_key_set p.1 accounts i (added_to a x d) dist h own_key)
      ∙ added_held p.0 (same_key p.1 a.key) (at_key p.1 accounts)
      (λ t. ap (λ k. at_key k accounts) (key_from p.1 a.key t) ∙ at_own_key accounts i a dist h e)
      ∙ (λ j. cond (sym (touch_same p.0 x p.1 a.key) j) (Some (amount_in a.hold +ℤ d))
      (sym (hold_found accounts dist p.0 p.1) j))

  pub sums_added : from_entries {R = touch_cmp} (hold_entries (set accounts i (added_to a x d)))
      ≡ finmap.insert (from_entries (hold_entries accounts)) (x, a.key)
      (sum_of (from_entries (hold_entries accounts)) x a.key +ℤ d)
  sums_added =
      put_one touch_cmp_total touch_cmp-IsAntisymmetric _ _ (x, a.key) (amount_in a.hold +ℤ d) found_added
      ∙ ap (λ s. finmap.insert (from_entries (hold_entries accounts)) (x, a.key) (s +ℤ d))
      (sym (sum_is accounts dist x a.key
      ∙ ap (λ o. unwrap_or (amount_held x o) (pos 0)) (at_own_key accounts i a dist h e) ∙ amount_for x a.hold for))

pub passes_none : (p : Account → Bool) (accounts : List Account) (i : ℕ) (a : Account) → i < length accounts
    → a ≡ get_or accounts i a
    → list_any p accounts ≡ false → p a ≡ false
passes_none p accounts i a h e none =
    false_from_ne_true (p a) (λ t. let some = list_any_at p accounts i a h (ap p (sym e) ∙ t) in cc)

-- the account of a key that no other branch has touched
pub for_place : (accounts : List Account) (i : ℕ) (a : Account) (x : XidName) (k : List ℕ) → AreDistinct accounts
    → i < length accounts
    → a ≡ get_or accounts i a → a.key ≡ k
    → has_other_touched (from_entries (hold_entries accounts)) x k ≡ false → IsFor x a.hold
for_place accounts i a x k dist h e same alone = grind (arith, other_any, at_own_key, Decides-xid_eq, not-false)

pub any_set : (p : Account → Bool) (accounts : List Account) (i : ℕ) (a b : Account) → i < length accounts
    → a ≡ get_or accounts i a → p b ≡ p a
    → list_any p (set accounts i b) ≡ list_any p accounts
any_set p [] i a b h e is = refl
any_set p (c ∷ rest) zero a b h e is = ap (λ t. t || list_any p rest) (is ∙ ap p e)
any_set p (c ∷ rest) (suc i) a b h e is = ap (λ t. p c || t) (any_set p rest i a b (omega arith) e is)

added_breaks : (x y : XidName) (v d : ℤ) (o : Option Hold) → y ≢ x → IsFor x o
    → hold_breaks v (Some (record { xid = x; amount = d })) y ≡ hold_breaks v o y
added_breaks x y v d o apart h = grind (arith, false_from_ne_true, Decides-xid_eq)

-- another branch is broken as it was
pub others_added : (accounts : List Account) (i : ℕ) (a : Account) (x : XidName) (d : ℤ) → AreDistinct accounts
    → i < length accounts → a ≡ get_or accounts i a
    → IsFor x a.hold → (y : XidName) → y ≢ x
    → is_broken (from_entries (value_entries (set accounts i (added_to a x d))))
    (from_entries (hold_entries (set accounts i (added_to a x d)))) y ≡ is_broken
    (from_entries (value_entries accounts)) (from_entries (hold_entries accounts)) y
others_added accounts i a x d dist h e for y apart =
    broken_any (set accounts i (added_to a x d)) y (distinct_added accounts i a x d dist e)
    ∙ any_set (λ b. is_broken_by b y) accounts i a (added_to a x d) h e
    (added_breaks x y a.value (amount_in a.hold +ℤ d) a.hold apart for)
    ∙ sym (broken_any accounts y dist)

-- ---- the bounds

pub within_bounds : (v : ℤ) → is_within v ≡ true → (pos 0 ≤ℤ v) × (v ≤ℤ pos 1000000000000)
within_bounds v e = (le_z_yes (T_from_true _ (and_parts _ _ e).0), le_z_yes (T_from_true _ (and_parts _ _ e).1))

small_where : (n : ℕ) (keep : XidName → Bool) (o : Option Hold) → IsSmall n o → IsSmall n (hold_where keep o)
small_where n keep o s = grind arith

posted_value : (x : XidName) (v : ℤ) (o : Option Hold) → hold_breaks v o x ≡ false
    → (pos 0 ≤ℤ v) × (v ≤ℤ pos 1000000000000)
    → (pos 0 ≤ℤ (v +ℤ amount_of o x)) × ((v +ℤ amount_of o x) ≤ℤ pos 1000000000000)
posted_value x v o e g = grind (arith, plus_none, within_bounds, not-false)

good_posted : (n : ℕ) (x : XidName) (a : Account) → IsGood n a → is_broken_by a x ≡ false → IsGood n (posted_by x a)
good_posted n x a g e =
    let v = posted_value x a.value a.hold e (g.0, g.1) in (v.0, v.1, small_where n (all_but x) a.hold g.2)

small_more : (n : ℕ) (o : Option Hold) → IsSmall n o → IsSmall (n + 1) o
small_more n o s = grind arith

small_added : (n : ℕ) (x : XidName) (d : ℤ) (o : Option Hold) → IsDelta d → IsSmall n o
    → IsSmall (n + 1) (Some (record { xid = x; amount = amount_in o +ℤ d }))
small_added n x d o h s = grind arith

-- every account stays within its bounds
pub all_kept : (n : ℕ) (keep : XidName → Bool) (accounts : List Account) → All (IsGood n) accounts
    → All (IsGood n) (map (kept_where keep) accounts)
all_kept n keep accounts g =
    All-map (IsGood n) (kept_where keep) accounts
    (λ k d h. let good = g k d h in (good.0, good.1, small_where n keep (get_or accounts k d).hold good.2))

pub all_posted : (n : ℕ) (x : XidName) (accounts : List Account) → All (IsGood n) accounts
    → list_any (λ a. is_broken_by a x) accounts ≡ false
    → All (IsGood n) (map (posted_by x) accounts)
all_posted n x accounts g e =
    All-map (IsGood n) (posted_by x) accounts (λ k d h. let a = get_or accounts k d in
    good_posted n x a (g k d h)
    (passes_none (λ b. is_broken_by b x) accounts k a h (get_or_default accounts k d a h) e))

-- what holds of each account holds once one was replaced by one of which it holds
all_set : (P : Account → Type 0) (accounts : List Account) (i : ℕ) (a : Account) → P a → All P accounts
    → All P (set accounts i a)
all_set P accounts i a new old k d within =
    let inside : k < length accounts = omega (arith, within, length-set accounts i a) in
    elim (cases_eq k i) [
      | inl same ↦ rw (get_or-set_at accounts i k a d same (omega arith)) new
      | inr other ↦ rw (get_or-set_other accounts i k a d other) (old k d inside)
    ]

pub all_added : (n i : ℕ) (a : Account) (x : XidName) (d : ℤ) (accounts : List Account) → IsDelta d
    → i < length accounts → a ≡ get_or accounts i a
    → All (IsGood n) accounts → All (IsGood (n + 1)) (set accounts i (added_to a x d))
all_added n i a x d accounts delta h e g =
    let here : IsGood n a = rw e (g i a h) in
    all_set (IsGood (n + 1)) accounts i (added_to a x d) (here.0, here.1, small_added n x d a.hold delta here.2)
    (λ k b within.
    let good = g k b within in (good.0, good.1, small_more n (get_or accounts k b).hold good.2))

-- and where one that nobody held is held by x alone
small_one : (n : ℕ) (o : Option Hold) → n ≤ 1 → IsSmall n o → IsSmall 1 o
small_one n o few s = grind arith

pub all_held : (n i : ℕ) (a : Account) (x : XidName) (d : ℤ) (accounts : List Account) → IsDelta d → n ≤ 1
    → a.hold ≡ None → i < length accounts
    → a ≡ get_or accounts i a → All (IsGood n) accounts → All (IsGood 1) (set accounts i (added_to a x d))
all_held n i a x d accounts delta few none h e g =
    let here : IsGood n a = rw e (g i a h) in
    let small : IsSmall 0 a.hold = rw none tt in
    all_set (IsGood 1) accounts i (added_to a x d) (here.0, here.1, small_added 0 x d a.hold delta small) (λ k b within.
    let good = g k b within in (good.0, good.1, small_one n (get_or accounts k b).hold few good.2))

-- a prepared branch keeps the value within the limits, so its sum is that of one addition
small_prepared : (keep : XidName → Bool) (v : ℤ) (o : Option Hold) → (pos 0 ≤ℤ v) × (v ≤ℤ pos 1000000000000)
    → ((x : XidName) → keep x ≡ true → hold_breaks v o x ≡ false) → IsSmall 1 (hold_where keep o)
small_prepared keep v o g unbroken = grind (arith, not-false, Decides-xid_eq, within_bounds)

pub all_prepared : (n : ℕ) (keep : XidName → Bool) (accounts : List Account) → All (IsGood n) accounts
    → ((x : XidName) → keep x ≡ true → list_any (λ a. is_broken_by a x) accounts ≡ false)
    → All (IsGood 1) (map (kept_where keep) accounts)
all_prepared n keep accounts g unbroken =
    All-map (IsGood 1) (kept_where keep) accounts
    (λ k d h. let a = get_or accounts k d in let good : IsGood n a = g k d h in (
      good.0,
      good.1,
      small_prepared keep a.value a.hold (good.0, good.1)
          (λ x voted. passes_none (λ b. is_broken_by b x) accounts k a h (get_or_default accounts k d a h)
          (unbroken x voted)),
    ))
