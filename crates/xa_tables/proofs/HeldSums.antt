-- What a branch has added to its keys, read at the places that branches hold.
use Rattle.xa_base.proofs.{arith, ◌≡◌, ℕ, ℤ, zero, suc, ◌+◌, ◌<◌, Bool, true, false, cond, ◌||◌, Option, None, Some}
use Rattle.xa_base.proofs.{is_some, List, [], ◌∷◌, length, refl, sym, ap, ◌∙◌, nat_eq, option_map, filter_map}
use Rattle.xa_base.proofs.{cons_option, lookup, list_any, get_or, IsDistinct, IsDistinct-head, IsDistinct-tail}
use Rattle.xa_base.proofs.{none_twice, AllByRecursion, or_from, or_parts, or-true, eqb-true, eq-eqb, false_from_ne_true}
use Rattle.xa_base.proofs.{by_bool, find, keys_of, length-map, take, ◌++◌, take_more, filter_map-append}
use Rattle.std.proofs.lemmas.Map.Keys.{IsDistinct-cons}
use Rattle.std.proofs.lemmas.Map.Made.{is_some-lookup}
use Rattle.xa_words.specs.{XidName, key_eq, Decides-key_eq}
use Rattle.xa_tables.specs.{Account, Hold, AreDistinct, AreHeld, place_in, is_held, hold_amount, hold_entries, own_sum}
use Rattle.xa_tables.specs.{sum_at, touch_cmp, keys_of as account_keys}
use Rattle.xa_tables.proofs.AccountLemmas.{at_key, amount_held, hold_found, lacks_key, at_own_key}
use Rattle.xa_tables.proofs.PlaceLemmas.{place_within, place_key, passes_read, passes_within, key_there}

-- the account at a place
account_at : (accounts : List Account) (p : ℕ) → p < length accounts → (a : Account) × (a ≡ get_or accounts p a)
account_at [] p h = absurd (omega arith)
account_at (c ∷ rest) zero h = (c, refl)
account_at (c ∷ rest) (suc p) h = account_at rest p (omega arith)

-- each key stands at its own place
own_place : (accounts : List Account) (p : ℕ) (a : Account) → AreDistinct accounts → p < length accounts
    → a ≡ get_or accounts p a
    → place_in a.key (account_keys accounts) ≡ Some p
own_place [] p a dist h e = absurd (omega arith)
own_place (c ∷ rest) zero a dist h e = grind (arith, (dist.0), Decides-key_eq)
own_place (c ∷ rest) (suc p) a dist h e = grind (arith, (own_place rest p a dist.1 (omega arith) e))

-- what is read at a place
sum_read : (x : XidName) (accounts : List Account) (p : ℕ) (a : Account) → p < length accounts → a ≡ get_or accounts p a
    → sum_at x accounts p ≡ option_map (λ v. (a.key, v)) (hold_amount x a.hold)
sum_read x [] p a h e = absurd (omega arith)
sum_read x (c ∷ rest) zero a h e = ap (λ (w : Account). option_map (λ v. (w.key, v)) (hold_amount x w.hold)) (sym e)
sum_read x (c ∷ rest) (suc p) a h e = sum_read x rest p a (omega arith) e

-- the sums at one place more
pub sums_more : (x : XidName) (accounts : List Account) (held : List ℕ) (i : ℕ) (a : Account) → i < length held
    → get_or held i 0 < length accounts
    → a ≡ get_or accounts (get_or held i 0) a
    → filter_map (sum_at x accounts) (take (i + 1) held) ≡ filter_map (sum_at x accounts) (take i held) ++ cons_option
    (own_sum x a) []
sums_more x accounts held i a within inside e =
    ap (filter_map (sum_at x accounts)) (take_more held i 0 within)
    ∙ filter_map-append (sum_at x accounts) (take i held) (get_or held i 0 ∷ [])
    ∙ ap (λ o. filter_map (sum_at x accounts) (take i held) ++ cons_option o [])
    (sum_read x accounts (get_or held i 0) a inside e)

-- the places are those of accounts
abbrev AreWithin : List ℕ → List Account → Type 0
AreWithin ps accounts = (q : ℕ) → list_any (nat_eq q) ps ≡ true → q < length accounts

pub held_inside : (held : List ℕ) (accounts : List Account) → AreHeld held accounts → AreWithin held accounts
held_inside held accounts h q t = passes_within is_held accounts q (sym (h.each q) ∙ t)

within_head : (p : ℕ) (ps : List ℕ) (accounts : List Account) → AreWithin (p ∷ ps) accounts → p < length accounts
within_head p ps accounts h = h p (ap (λ b. b || list_any (nat_eq p) ps) (eq-eqb p p refl))

within_tail : (p : ℕ) (ps : List ℕ) (accounts : List Account) → AreWithin (p ∷ ps) accounts → AreWithin ps accounts
within_tail p ps accounts h q t = h q (ap (λ b. nat_eq q p || b) t ∙ or-true (nat_eq q p))

nothing : (b : Bool) → cond {A = Option ℤ} b None None ≡ None
nothing true = refl
nothing false = refl

-- an entry of another key is passed
passed : (k own : List ℕ) (o : Option ℤ) (rest : List (List ℕ × ℤ)) → key_eq k own ≡ false
    → lookup (key_eq k) (cons_option (option_map (λ v. (own, v)) o) rest) ≡ lookup (key_eq k) rest
passed k own None rest apart = refl
passed k own (Some v) rest apart = ap (λ b. cond b (Some v) (lookup (key_eq k) rest)) apart

module _ (x : XidName) (accounts : List Account) (dist : AreDistinct accounts) where
  -- the sums at these places
  abbrev sums : List ℕ → List (List ℕ × ℤ)
  sums ps = filter_map (sum_at x accounts) ps

  -- a key that doesn't stand at this place isn't read there
  skipped : (k : List ℕ) (p : ℕ) (rest : List (List ℕ × ℤ)) → p < length accounts
      → (place_in k (account_keys accounts) ≡ Some p → ⊥)
      → lookup (key_eq k) (cons_option (sum_at x accounts p) rest) ≡ lookup (key_eq k) rest
  skipped k p rest within other =
      let there = account_at accounts p within in
      let a : Account = there.0 in
      let apart : key_eq k a.key ≡ false = false_from_ne_true _ (λ t.
      other
      (ap (λ l. place_in l (account_keys accounts)) ((Decides-key_eq k a.key).0 t)
      ∙ own_place accounts p a dist within there.1)) in
      ap (λ o. lookup (key_eq k) (cons_option o rest)) (sum_read x accounts p a within there.1)
      ∙ passed k a.key (hold_amount x a.hold) rest apart

  -- one that has no place isn't read at any
  none_read : (k : List ℕ) → place_in k (account_keys accounts) ≡ None → (ps : List ℕ) → AreWithin ps accounts
      → lookup (key_eq k) (sums ps) ≡ None
  none_read k none [] within = refl
  none_read k none (p ∷ ps) within =
      skipped k p (sums ps) (within_head p ps accounts within) (λ e. let z : None ≡ Some p = sym none ∙ e in cc)
      ∙ none_read k none ps (within_tail p ps accounts within)

  module _ (i : ℕ) (a : Account) (inside : i < length accounts) (e : a ≡ get_or accounts i a) where
    here : place_in a.key (account_keys accounts) ≡ Some i
    here = own_place accounts i a dist inside e

    -- and that of an account is read at its place alone
    one_read : (ps : List ℕ) → AreWithin ps accounts
        → lookup (key_eq a.key) (sums ps) ≡ cond (list_any (nat_eq i) ps) (hold_amount x a.hold) None
    one_read [] within = refl
    one_read (p ∷ ps) within =
        by_bool
        (λ b. lookup (key_eq a.key) (sums (p ∷ ps)) ≡ cond (b || list_any (nat_eq i) ps) (hold_amount x a.hold)
        None) (nat_eq i p)
        (λ t.
        ap (λ q. lookup (key_eq a.key) (cons_option (sum_at x accounts q) (sums ps))) (sym (eqb-true i p t))
        ∙ ap (λ o. lookup (key_eq a.key) (cons_option o (sums ps))) (sum_read x accounts i a inside e)
        ∙ own (hold_amount x a.hold) (list_any (nat_eq i) ps) (sums ps)
        (one_read ps (within_tail p ps accounts within)))
        (λ f.
        skipped a.key p (sums ps) (within_head p ps accounts within) (λ at. other p f (sym here ∙ at))
        ∙ one_read ps (within_tail p ps accounts within))
      where
        other : (p : ℕ) → nat_eq i p ≡ false → Some i ≡ Some p → ⊥
        other p f same = let z : i ≡ p = cc in let t = eq-eqb i p z in cc

        own : (o : Option ℤ) (b : Bool) (rest : List (List ℕ × ℤ)) → lookup (key_eq a.key) rest ≡ cond b o None
            → lookup (key_eq a.key) (cons_option (option_map (λ v. (a.key, v)) o) rest) ≡ o
        own None b rest later = later ∙ nothing b
        own (Some v) b rest later =
            ap (λ b. cond b (Some v) (lookup (key_eq a.key) rest)) ((Decides-key_eq a.key a.key).1 refl)

  -- no key is read twice
  none_any : (test : List ℕ → Bool) (ks : List (List ℕ)) → list_any test ks ≡ false
      → AllByRecursion (λ k. test k ≡ false) ks
  none_any test [] none = tt
  none_any test (k ∷ ks) none = let parts = or_parts (test k) _ none in (parts.0, none_any test ks parts.1)

  any_none : (p : ℕ) (ps : List ℕ) → AllByRecursion (λ q. nat_eq p q ≡ false) ps → list_any (nat_eq p) ps ≡ false
  any_none p [] h = refl
  any_none p (q ∷ ps) h = or_from _ _ h.0 (any_none p ps h.1)

  once_more : (own : List ℕ) (o : Option ℤ) (rest : List (List ℕ × ℤ)) → IsDistinct key_eq (keys_of rest)
      → lookup (key_eq own) rest ≡ None
      → IsDistinct key_eq (keys_of (cons_option (option_map (λ v. (own, v)) o) rest))
  once_more own None rest once none = once
  once_more own (Some v) rest once none =
      IsDistinct-cons key_eq own (keys_of rest)
      (none_any (key_eq own) (keys_of rest) (sym (is_some-lookup (key_eq own) rest) ∙ ap is_some none)) once

  pub read_once : (ps : List ℕ) → IsDistinct nat_eq ps → AreWithin ps accounts → IsDistinct key_eq (keys_of (sums ps))
  read_once [] distinct within = none_twice key_eq
  read_once (p ∷ ps) distinct within =
      let inside = within_head p ps accounts within in
      let there = account_at accounts p inside in
      let a : Account = there.0 in
      let later = within_tail p ps accounts within in
      let fresh = any_none p ps (IsDistinct-head nat_eq p ps distinct) in
      rw (sum_read x accounts p a inside there.1)
      (once_more a.key (hold_amount x a.hold) (sums ps) (read_once ps (IsDistinct-tail nat_eq p ps distinct) later)
      (one_read p a inside there.1 ps later ∙ ap (λ b. cond b (hold_amount x a.hold) None) fresh))

  -- each key is read with what the branch has added to it
  pub read_each : (held : List ℕ) → AreHeld held accounts → (k : List ℕ)
      → lookup (key_eq k) (sums held) ≡ find touch_cmp (x, k) (hold_entries accounts)
  read_each held h k = by_place (place_in k (account_keys accounts)) refl ∙ sym (hold_found accounts dist x k)
    where
      inside : AreWithin held accounts
      inside = held_inside held accounts h

      unheld : (o : Option Hold) → is_some o ≡ false → None ≡ hold_amount x o
      unheld o none = grind arith

      by_place : (o : Option ℕ) → place_in k (account_keys accounts) ≡ o
          → lookup (key_eq k) (sums held) ≡ amount_held x (at_key k accounts)
      by_place None e = none_read k e held inside ∙ sym (ap (amount_held x) (lacks_key k accounts e))
      by_place (Some i) e =
          let within : i < length accounts = omega (arith, place_within k (account_keys accounts) i e, length_keys) in
          let there = account_at accounts i within in
          let a : Account = there.0 in
          let own : k ≡ a.key = sym (place_key k (account_keys accounts) i e) ∙ key_there accounts i a within there.1 in
          let noted : list_any (nat_eq i) held ≡ is_some a.hold =
          h.each i ∙ passes_read is_held accounts i a within there.1 in
          ap (λ l. lookup (key_eq l) (sums held)) own ∙ one_read i a within there.1 held inside
          ∙ ap (λ b. cond b (hold_amount x a.hold) None) noted
          ∙ by_bool (λ b. is_some a.hold ≡ b → cond b (hold_amount x a.hold) None ≡ hold_amount x a.hold)
          (is_some a.hold)
          (λ _ t. refl) (λ _ f. unheld a.hold f) refl
          ∙ sym (ap (amount_held x) (ap (λ l. at_key l accounts) own ∙ at_own_key accounts i a dist within there.1))
        where
          length_keys : length (account_keys accounts) ≡ length accounts
          length_keys = length-map accounts (λ (b : Account). b.key)
