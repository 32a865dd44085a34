-- Where the keys stand among the accounts, and scans of the places that branches hold in place of scans of all
-- accounts.
use Rattle.xa_base.proofs.{rules, ◌≡◌, ℕ, pos, zero, suc, ◌+◌, ◌<◌, ◌≤◌, All, Bool, true, false, cond, List, [], ◌∷◌}
use Rattle.xa_base.proofs.{◌++◌, length, take_all, map, None, Some, is_some, refl, slice_index_or, sym, ap, ◌∙◌, arith}
use Rattle.xa_base.proofs.{get_or, take, set, ints, not-true, and_parts, map-append, length-map, get_or_default}
use Rattle.xa_base.proofs.{All-map, list_any, FinMap, find, from_entries, get-insert, ◌&&◌, ◌||◌, false_from_ne_true, ℤ}
use Rattle.xa_base.proofs.{nat_eq, drop, filter, Option, IsDistinct, eqb-true, eq-eqb, drop_all, get_or-map}
use Rattle.xa_base.proofs.{get_or-set_other, length-set, list_any-append, +ℤ_idr as plus_none, none_twice}
use Rattle.xa_base.proofs.{length-take-le, leb-true, true_from_ne_false, list_any_at, AllByRecursion, get_or-set_at}
use Rattle.xa_base.proofs.{drop_more, map-set, set-get_or, IsDistinct-head, IsDistinct-tail, IsDistinct-push}
use Rattle.xa_base.proofs.{length-le_from_distinct_below, is_missing}
use Rattle.std.proofs.lemmas.List.Folds.{list_all_at, map_fixed}
use Rattle.xa_words.specs.{XidName, key_eq, key_cmp_total, Decides-key_eq, are_apart, are_accounts}
use Rattle.xa_words.specs.Orders.{key_cmp}
use Rattle.xa_tables.specs.{Account, AreDistinct, AreIndexed, IsGood, value_entries, hold_entries, place_in}
use Rattle.xa_tables.specs.{declared_values, keys_of, Hold, hold_is_of, is_held_by, hold_breaks, is_broken_by}
use Rattle.xa_tables.specs.{hold_where, kept_where, added_to, posted_by, passes_at, is_held, is_held_at, AreHeld, noted}
use Rattle.xa_tables.proofs.AccountLemmas.{swapped, keys_map, same_key, value_found, at_own_key, LetsGo, passes_none}
use Rattle.xa_tables.proofs.AccountLemmas.{any_set, touched_any}
use Rattle.std.specs.Cmp.{nat_eq_equiv}
use Rattle.std.proofs.lemmas.List.{length_push}
use Rattle.std.proofs.lemmas.Map.Keys.{IsDistinct-cons}
use Rattle.std.proofs.lemmas.Map.Views.{any-filter_same}
pub use Rattle.xa_tables.specs.{account_of}
use Rattle.std.specs.FinMap as finmap

-- ---- where the keys stand among the accounts, and what was declared

-- a place is within the keys, and has the key
pub place_within : (k : List ℕ) (ks : List (List ℕ)) (i : ℕ) → place_in k ks ≡ Some i → i < length ks
place_within k [] i e = let never : ⊥ = cc in absurd never
place_within k (own ∷ rest) i e = grind (arith, place_within k rest)

pub place_key : (k : List ℕ) (ks : List (List ℕ)) (i : ℕ) → place_in k ks ≡ Some i → slice_index_or ks i [] ≡ k
place_key k [] i e = let never : ⊥ = cc in absurd never
place_key k (own ∷ rest) zero e = grind (arith, Decides-key_eq)
place_key k (own ∷ rest) (suc i) e = grind (arith, (place_key k rest i))

-- the key at a place is that of the account there
pub key_there : (accounts : List Account) (i : ℕ) (a : Account) → i < length accounts → a ≡ get_or accounts i a
    → slice_index_or (keys_of accounts) i [] ≡ a.key
key_there accounts i a h e = get_or-map (λ (w : Account). w.key) accounts i a [] h ∙ ap (λ (w : Account). w.key) (sym e)

-- a key has a place exactly where it has a value
pub place_some : (k : List ℕ) (accounts : List Account)
    → is_some (place_in k (keys_of accounts)) ≡ is_some (find key_cmp k (value_entries accounts))
place_some k [] = refl
place_some k (a ∷ rest) = grind (arith, (place_some k rest), find, key_cmp, same_key, swapped)

-- a key's value, by its place
pub value_none : (k : List ℕ) (accounts : List Account) → place_in k (keys_of accounts) ≡ None
    → find key_cmp k (value_entries accounts) ≡ None
value_none k accounts e = is_missing _ (sym (place_some k accounts) ∙ ap is_some e)

pub value_at : (k : List ℕ) (accounts : List Account) (i : ℕ) (a : Account) → AreDistinct accounts
    → place_in k (keys_of accounts) ≡ Some i
    → a ≡ get_or accounts i a
    → find key_cmp k (value_entries accounts) ≡ Some a.value
value_at k accounts i a dist there e =
    grind (arith, find, key_cmp, place_key, key_there, length-map, value_found, at_own_key, place_within)

-- one more key at the end
place_push : (k : List ℕ) (ks : List (List ℕ)) (own : List ℕ)
    → place_in k (ks ++ own ∷ []) ≡ cond (key_eq own k) (Some (length ks)) (place_in k ks)
place_push k [] own = grind arith
place_push k (c ∷ ks) own = grind (arith, (place_push k ks own))

pub indexed_push : (places : FinMap key_cmp ℕ) (xs : List Account) (a : Account) → AreIndexed places xs
    → AreIndexed (finmap.insert places a.key (length xs)) (xs ++ a ∷ [])
indexed_push places xs a h k =
    grind (
      arith,
      swapped,
      place_push,
      length-map,
      map-append,
      (h k),
      (get-insert key_cmp_total places a.key (length xs) k),
    )

-- ---- what was declared

pub declared_entries : (ds : List (List ℕ × ℕ)) → value_entries (map account_of ds) ≡ map (λ d. (d.0, pos d.1)) ds
declared_entries [] = refl
declared_entries (d ∷ ds) = ap (λ es. (d.0, pos d.1) ∷ es) (declared_entries ds)

-- the declared keys have their values at the opening
pub values_declared : (ds : List (List ℕ × ℕ))
    → from_entries {R = key_cmp} (value_entries (map account_of ds)) ≡ declared_values ds
values_declared ds = ap (from_entries {R = key_cmp}) (declared_entries ds)

-- and no branch has touched them
pub holds_declared : (ds : List (List ℕ × ℕ)) → hold_entries (map account_of ds) ≡ []
holds_declared [] = refl
holds_declared (d ∷ ds) = holds_declared ds

lacks_declared : (k : List ℕ) (ds : List (List ℕ × ℕ)) → list_any (λ e. key_eq e.0 k) ds ≡ false
    → place_in k (keys_of (map account_of ds)) ≡ None
lacks_declared k [] h = refl
lacks_declared k (d ∷ ds) h = grind (arith, (lacks_declared k ds))

pub distinct_apart : (ds : List (List ℕ × ℕ)) → are_apart ds ≡ true → AreDistinct (map account_of ds)
distinct_apart [] h = tt
distinct_apart (d ∷ ds) h =
    (lacks_declared d.0 ds (not-true _ (and_parts _ _ h).0), distinct_apart ds (and_parts _ _ h).1)

-- what may be declared has keys of its own
pub distinct_declared : (ds : List (List ℕ × ℕ)) → are_accounts ds ≡ true → AreDistinct (map account_of ds)
distinct_declared ds h = distinct_apart ds (and_parts _ _ (and_parts _ _ h).1).1

-- and these are few
pub few_declared : (ds : List (List ℕ × ℕ)) → are_accounts ds ≡ true → length ds ≤ 256
few_declared ds h = leb-true (length ds) 256 (and_parts _ _ h).0

-- each declared value is within the limit
pub limit_declared : (ds : List (List ℕ × ℕ)) (i : ℕ) (d : List ℕ × ℕ) → are_accounts ds ≡ true → i < length ds
    → d.1 ≡ (get_or ds i d).1 → d.1 ≤ 1000000000000
limit_declared ds i d h within is = search (arith, and_parts, leb-true, true_from_ne_false, list_all_at)

-- and values within the limits
pub good_declared : (ds : List (List ℕ × ℕ)) → are_accounts ds ≡ true → All (IsGood 0) (map account_of ds)
good_declared ds h =
    All-map (IsGood 0) account_of ds (λ i d within.
    let limit =
    limit_declared ds i (get_or ds i d) h within
    (ap (λ (e : List ℕ × ℕ). e.1) (get_or_default ds i d (get_or ds i d) within)) in
    (omega (arith, ints), omega (arith, ints), tt))

-- the places that were filled so far
pub length_declared : (ds : List (List ℕ × ℕ)) (i : ℕ) → i < length ds → length (map account_of (take i ds)) ≡ i
length_declared ds i within = length-map (take i ds) account_of ∙ length-take-le i ds (omega arith)

-- as many keys as accounts
pub ruleset keys_there = (length-map)

-- ---- the account at a place

pub passes_within : (test : Account → Bool) (accounts : List Account) (i : ℕ) → passes_at test accounts i ≡ true
    → i < length accounts
passes_within test [] i h = let never : ⊥ = cc in absurd never
passes_within test (a ∷ rest) zero h = omega arith
passes_within test (a ∷ rest) (suc i) h = let later = passes_within test rest i h in omega arith

pub passes_read : (test : Account → Bool) (accounts : List Account) (i : ℕ) (a : Account) → i < length accounts
    → a ≡ get_or accounts i a
    → passes_at test accounts i ≡ test a
passes_read test [] i a h e = absurd (omega arith)
passes_read test (c ∷ rest) zero a h e = ap test (sym e)
passes_read test (c ∷ rest) (suc i) a h e = passes_read test rest i a (omega arith) e

passes_weaker : (test other : Account → Bool) → ((a : Account) → test a ≡ true → other a ≡ true)
    → (accounts : List Account) (i : ℕ)
    → passes_at test accounts i ≡ true → passes_at other accounts i ≡ true
passes_weaker test other only [] i h = h
passes_weaker test other only (a ∷ rest) zero h = only a h
passes_weaker test other only (a ∷ rest) (suc i) h = passes_weaker test other only rest i h

passes_map : (test : Account → Bool) (f : Account → Account) → ((a : Account) → test (f a) ≡ true → test a ≡ true)
    → (accounts : List Account) (i : ℕ)
    → passes_at test (map f accounts) i ≡ true → passes_at test accounts i ≡ true
passes_map test f only [] i h = h
passes_map test f only (a ∷ rest) zero h = only a h
passes_map test f only (a ∷ rest) (suc i) h = passes_map test f only rest i h

passes_set : (test : Account → Bool) (accounts : List Account) (i : ℕ) (b : Account) → i < length accounts
    → passes_at test (set accounts i b) i ≡ test b
passes_set test [] i b h = absurd (omega arith)
passes_set test (c ∷ rest) zero b h = refl
passes_set test (c ∷ rest) (suc i) b h = passes_set test rest i b (omega arith)

passes_set_other : (test : Account → Bool) (accounts : List Account) (i j : ℕ) (b : Account) → (j ≡ i → ⊥)
    → passes_at test (set accounts i b) j ≡ passes_at test accounts j
passes_set_other test [] i j b h = refl
passes_set_other test (c ∷ rest) i j b h = grind (arith, set, (passes_set_other test rest))

pub passes_past : (test : Account → Bool) (accounts : List Account) (i : ℕ) → length accounts ≤ i
    → passes_at test accounts i ≡ false
passes_past test accounts i past =
    false_from_ne_true _ (λ t. let within = passes_within test accounts i t in omega arith)

-- what is read of the account at a place
pub ruleset read_at = (passes_read, passes_past, get_or_default)

-- one that passes has a place
any_passes : (test : Account → Bool) (accounts : List Account) → list_any test accounts ≡ true
    → (i : ℕ) × (passes_at test accounts i ≡ true)
any_passes test [] h = let never : ⊥ = cc in absurd never
any_passes test (a ∷ rest) h =
    elim (test a) as
    (λ b. test a ≡ b → (b || list_any test rest) ≡ true → (i : ℕ) × (passes_at test (a ∷ rest) i ≡ true)) [
      | true ↦ λ t f. (zero, t)
      | false ↦ λ t f. let later = any_passes test rest f in (suc later.0, later.1)
    ] refl h

-- ---- a search among the places

any_at : (test : ℕ → Bool) (held : List ℕ) (i : ℕ) → list_any (nat_eq i) held ≡ true → test i ≡ true
    → list_any test held ≡ true
any_at test [] i h t = h
any_at test (p ∷ ps) i h t = grind (arith, (any_at test ps i), eqb-true)

-- where none of the places passes, no account does
pub none_held : (test : Account → Bool) → ((a : Account) → test a ≡ true → is_held a ≡ true)
    → (held : List ℕ) (accounts : List Account) → AreHeld held accounts
    → list_any (λ place. passes_at test accounts place) held ≡ false → list_any test accounts ≡ false
none_held test only held accounts h none =
    false_from_ne_true _ (λ t.
    let there = any_passes test accounts t in
    let noted = h.each there.0 ∙ passes_weaker test is_held only accounts there.0 there.1 in
    let found = any_at (λ place. passes_at test accounts place) held there.0 noted there.1 in
    cc)

-- the same places and accounts, seen through slices
pub held_alike : {held ps : List ℕ} {accounts now : List Account} → ps ≡ held → now ≡ accounts → AreHeld held accounts
    → AreHeld ps now
held_alike {held = held} {now = now} same alike h = rw (same, alike) h

-- the places are within
pub held_within : (held : List ℕ) (accounts : List Account) → AreHeld held accounts → (i : ℕ) → i < length held
    → get_or held i 0 < length accounts
held_within held accounts h i within =
    let place = get_or held i 0 in
    passes_within is_held accounts place
    (sym (h.each place) ∙ list_any_at (nat_eq place) held i 0 within (eq-eqb place place refl))

-- and no more than the accounts
pub held_room : (held : List ℕ) (accounts : List Account) → AreHeld held accounts → length held ≤ length accounts
held_room held accounts h =
    length-le_from_distinct_below held (length accounts) h.once
    (λ q t. passes_within is_held accounts q (sym (h.each q) ∙ t))

pub touched_held : (x : XidName) (a : Account) → is_held_by a x ≡ true → is_held a ≡ true
touched_held x a h =
    elim (a.hold) as (λ o. hold_is_of o x ≡ true → is_some o ≡ true) [ None ↦ λ t. t | Some l ↦ λ t. refl ] h

pub broken_held : (x : XidName) (a : Account) → is_broken_by a x ≡ true → is_held a ≡ true
broken_held x a h =
    elim (a.hold) as (λ o. hold_breaks a.value o x ≡ true → is_some o ≡ true) [ None ↦ λ t. t | Some l ↦ λ t. refl ] h

-- ---- a change at each of the places

-- f was applied at the first i places: each account that it would still change stands at one of the others
pub record IsChanging (f : Account → Account) (held : List ℕ) (old now : List Account) (i : ℕ) : Type 0 where
  pub same : map f now ≡ map f old
  pub rest : (q : ℕ) (d : Account) → q < length now → list_any (nat_eq q) (drop i held) ≡ false
      → f (get_or now q d) ≡ get_or now q d

pub changing_none : (f : Account → Account) → ((a : Account) → is_held a ≡ false → f a ≡ a)
    → (held : List ℕ) (accounts : List Account) → AreHeld held accounts
    → IsChanging f held accounts accounts 0
changing_none f unheld held accounts h = record {
  same = refl;
  rest = λ q d within none.
      let a = get_or accounts q d in
      unheld a
      (sym (passes_read is_held accounts q a within (get_or_default accounts q d a within)) ∙ sym (h.each q)
      ∙ none);
}

pub changing_more : (f : Account → Account) → ((a : Account) → f (f a) ≡ f a)
    → (held : List ℕ) (old now : List Account) (i place : ℕ) (a : Account)
    → IsChanging f held old now i → i < length held → place ≡ get_or held i 0 → place < length now
    → a ≡ get_or now place a
    → IsChanging f held old (set now place (f a)) (i + 1)
changing_more f twice held old now i place a h within is there e = record {
  same =
      map-set f now place (f a)
      ∙ ap (set (map f now) place) (twice a ∙ ap f e ∙ sym (get_or-map f now place a (f a) there))
      ∙ set-get_or (map f now) place (f a) ∙ h.same;
  rest = search
      (arith, nat_eq, get_or-set_at, eqb-true, length-set, list_any, drop_more, get_or-set_other, eq-eqb, h.rest);
}

-- after all of the places f was applied to each account
-- the account at the next place is written
pub changing_at : (f : Account → Account) → ((a : Account) → f (f a) ≡ f a)
    → (held : List ℕ) (old now : List Account) (i : ℕ) (a b : Account)
    → AreHeld held old → length now ≡ length old → IsChanging f held old now i → i < length held
    → a ≡ get_or now (get_or held i 0) a → b ≡ f a
    → IsChanging f held old (set now (get_or held i 0) b) (i + 1)
changing_at f twice held old now i a b h long changing within is new =
    rw new
    (changing_more f twice held old now i (get_or held i 0) a changing within refl
    (omega (arith, held_within held old h i within, long)) is)

pub changing_all : (f : Account → Account) (held : List ℕ) (old now : List Account) (i : ℕ)
    → IsChanging f held old now i → length held ≤ i → now ≡ map f old
changing_all f held old now i h past = search (arith, map_fixed, list_any, nat_eq, drop_all, h.rest)

-- what is let go stays so
where_twice : (keep : XidName → Bool) (o : Option Hold) → hold_where keep (hold_where keep o) ≡ hold_where keep o
where_twice keep o = grind arith

pub posted_twice : (x : XidName) (a : Account) → posted_by x (posted_by x a) ≡ posted_by x a
posted_twice x a = search (arith, plus_none, where_twice, a.hold)

pub kept_twice : (keep : XidName → Bool) (a : Account) → kept_where keep (kept_where keep a) ≡ kept_where keep a
kept_twice keep a = λ i. record a { hold = where_twice keep a.hold i }

-- an account that no branch has touched stays as it is
untouched : (a : Account) → is_held a ≡ false → a.hold ≡ None
untouched a h = grind arith

pub posted_untouched : (x : XidName) (a : Account) → is_held a ≡ false → posted_by x a ≡ a
posted_untouched x a h = search (arith, untouched, plus_none)

pub kept_untouched : (keep : XidName → Bool) (a : Account) → is_held a ≡ false → kept_where keep a ≡ a
kept_untouched keep a h = let none = untouched a h in λ i. record a { hold = (ap (hold_where keep) none ∙ sym none) i }

-- and so the accounts do with one more of them posted
pub whole_more : (x : XidName) (accounts : List Account) (i : ℕ) (a : Account) → i < length accounts
    → a ≡ get_or accounts i a
    → list_any (λ b. is_broken_by b x) accounts ≡ false
    → list_any (λ b. is_broken_by b x) (set accounts i (posted_by x a)) ≡ false
whole_more x accounts i a within e whole = search (arith, any_set, passes_none)

-- ---- the places that stay

where_held : (keep : XidName → Bool) (o : Option Hold) → is_some (hold_where keep o) ≡ true → is_some o ≡ true
where_held keep o h = search (arith, rules)

kept_all : (P : ℕ → Type 0) (test : ℕ → Bool) (ps : List ℕ) → AllByRecursion P ps → AllByRecursion P (filter test ps)
kept_all P test [] h = tt
kept_all P test (p ∷ ps) h = grind (arith, (kept_all P test ps h.1))

kept_once : (test : ℕ → Bool) (ps : List ℕ) → IsDistinct nat_eq ps → IsDistinct nat_eq (filter test ps)
kept_once test [] h = h
kept_once test (p ∷ ps) h =
    grind (
      arith,
      (kept_once test ps (IsDistinct-tail nat_eq p ps h)),
      IsDistinct-tail,
      IsDistinct-cons,
      kept_all,
      IsDistinct-head,
    )

-- once some branches let go of their keys
held_kept : (f : Account → Account) → ((a : Account) → is_held (f a) ≡ true → is_held a ≡ true)
    → (held : List ℕ) (accounts : List Account)
    → AreHeld held accounts → AreHeld (filter (is_held_at (map f accounts)) held) (map f accounts)
held_kept f only held accounts h = record {
  once = kept_once (is_held_at (map f accounts)) held h.once;
  each = λ q.
      let stays = is_held_at (map f accounts) in
      any-filter_same (nat_eq q) stays (stays q) (λ k t. ap stays (sym (eqb-true q k t))) held
      ∙ ap (λ b. stays q && b) (h.each q)
      ∙ elim (stays q) as (λ b. stays q ≡ b → (b && is_held_at accounts q) ≡ b)
      [ true ↦ λ t. passes_map is_held f only accounts q t | false ↦ λ t. refl ] refl;
}

-- what holds of the accounts holds once each was changed by an f by which some branches let go of their keys
pub accounts_kept : (keep : XidName → Bool) (f : Account → Account) → LetsGo keep f
    → (n : ℕ) (places : FinMap key_cmp ℕ) {held : List ℕ} {old now : List Account} {left : List ℕ} {room cap : ℕ}
    → now ≡ map f old → left ≡ filter (is_held_at now) held → room ≡ cap
    → AreDistinct old → All (IsGood n) (map f old) → AreIndexed places old → AreHeld held old → length old ≤ cap
    → length old ≤ 256
    → AreDistinct now × All (IsGood n) now × AreIndexed places now × AreHeld left now × (length now ≤ room)
    × (length now ≤ 256)
accounts_kept keep f g n places {held = held} {old = old} {now = now} {left = left} {room = room} {cap = cap} all kept
    same apart good indexed h fits few =
    let places_left : left ≡ filter (is_held_at (map f old)) held =
    kept ∙ ap (λ as1. filter (is_held_at as1) held) all in
    rw all (
      rw (keys_map f g.key old) apart,
      good,
      λ k. indexed k
          ∙ ap (place_in k) (sym (keys_map f g.key old)),
      rw places_left
          (held_kept f (λ a is. where_held keep a.hold (sym (ap is_some (g.hold a)) ∙ is)) held old h),
      omega
          (arith, length-map old f),
      omega (arith, length-map old f),
    )

-- once a branch has added at a place
pub held_noted : (held : List ℕ) (accounts : List Account) (i : ℕ) (a b : Account) → AreHeld held accounts
    → i < length accounts → a ≡ get_or accounts i a
    → is_held b ≡ true → AreHeld (noted held (is_held a) i) (set accounts i b)
held_noted held accounts i a b h within e touched =
    let was : is_held_at accounts i ≡ is_held a = passes_read is_held accounts i a within e in
    let now : is_held_at (set accounts i b) i ≡ true = passes_set is_held accounts i b within ∙ touched in
    let other =
    λ (q : ℕ) (t : nat_eq q i ≡ false). passes_set_other is_held accounts i q b (λ y. let z = eq-eqb q i y in cc) in
    let here = λ (q : ℕ) (t : nat_eq q i ≡ true). eqb-true q i t in
    record {
      once = noted_once (is_held a) (h.each i ∙ was);
      each = λ q. noted_each (is_held a) q (λ t. ap (is_held_at accounts) (here q t) ∙ was)
          (λ t. ap (is_held_at (set accounts i b)) (here q t) ∙ now) (other q);
    }
  where
    noted_once : (w : Bool) → list_any (nat_eq i) held ≡ w → IsDistinct nat_eq (noted held w i)
    noted_once true there = h.once
    noted_once false there = IsDistinct-push nat_eq_equiv held i h.once there

    noted_each : (w : Bool) (q : ℕ) → (nat_eq q i ≡ true → is_held_at accounts q ≡ w)
        → (nat_eq q i ≡ true → is_held_at (set accounts i b) q ≡ true)
        → (nat_eq q i ≡ false → is_held_at (set accounts i b) q ≡ is_held_at accounts q)
        → list_any (nat_eq q) (noted held w i) ≡ is_held_at (set accounts i b) q
    noted_each w q before after others = grind (arith, (h.each q), list_any-append)

-- where nobody has touched the account, there is room for its place
pub note_room : (held : List ℕ) (accounts : List Account) (i : ℕ) (a : Account) (x : XidName) (d : ℤ)
    → AreHeld held accounts → i < length accounts
    → a ≡ get_or accounts i a → is_held a ≡ false → length held < length accounts
note_room held accounts i a x d h within e none =
    omega (
      arith,
      held_room _ _ (held_noted held accounts i a (added_to a x d) h within e refl),
      ap
          (λ w. length (noted held w i)) none,
      length_push held i,
      length-set accounts i (added_to a x d),
    )

undeclared : (ds : List (List ℕ × ℕ)) (i : ℕ) → is_held_at (map account_of ds) i ≡ false
undeclared [] i = refl
undeclared (d ∷ ds) zero = refl
undeclared (d ∷ ds) (suc i) = undeclared ds i

-- of what was declared no branch has touched any
pub held_declared : (ds : List (List ℕ × ℕ)) → AreHeld [] (map account_of ds)
held_declared ds = record { once = none_twice nat_eq; each = λ q. sym (undeclared ds q) }

-- whether a branch touched a key, by the places that it holds
pub ruleset touching = (held_alike, touched_held, touched_any)

-- a walk over these places
pub ruleset walking = (held_within, read_at, passes_none)
