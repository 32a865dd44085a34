-- The values of accounts are put, place by place.
use Rattle.xa_base.proofs.{◌≡◌, ℕ, zero, suc, ◌+◌, ◌<◌, pos, true, false, cond, if◌then◌else◌, List, [], ◌∷◌, ◌++◌}
use Rattle.xa_base.proofs.{length, take, slice_get, slice_set, Option, None, Some, is_some, lookup, list_any, refl, ap}
use Rattle.xa_base.proofs.{sym, ◌∙◌, arith, by_bool, same_Some, is_missing, subst, All, All-append, All-cons, All-nil}
use Rattle.xa_base.proofs.{All-head, All-tail, option_map, take_all, Bor, slice_get_read}
use Rattle.std.specs.FinMap as finmap
use Rattle.std.specs.Slice.{IsItemAt}
use Rattle.xa_words.specs.{XidName, key_eq, Decides-key_eq}
use Rattle.xa_tables.specs.{Tables, stored_value}
use Rattle.xa_store_sqlite.specs.{AreStoredValues, HasValuesOf, Image, IsInOrder, is_of_branch, item_at}
use Rattle.xa_store_sqlite.specs.{keys_of_accounts, first_place_from}

abbrev Account : Type 0
Account = List ℕ × ℕ

abbrev IsValue : Tables → Account → Type 0
IsValue T a = Some (pos a.1) ≡ finmap.get T.values a.0

take_set : (us : List Account) (p : ℕ) (a : Account) → p < length us
    → take (suc p) (slice_set us p a) ≡ take p us ++ a ∷ []
take_set [] p a within = absurd (omega (arith, within))
take_set (u ∷ us) zero a within = refl
take_set (u ∷ us) (suc p) a within = ap (λ vs. u ∷ vs) (take_set us p a (omega (arith, within)))

pub same_slice : (us : List Account) (p : ℕ) (a : Account) → slice_get us p ≡ Some a → slice_set us p a ≡ us
same_slice [] p a is = refl
same_slice (u ∷ us) zero a is = ap (λ v. v ∷ us) (sym (same_Some _ _ is))
same_slice (u ∷ us) (suc p) a is = ap (λ vs. u ∷ vs) (same_slice us p a is)

pub slice_within : (us : List Account) (p : ℕ) (a : Account) → slice_get us p ≡ Some a → p < length us
slice_within [] p a is = let z : None ≡ Some a = is in cc
slice_within (u ∷ us) zero a is = omega arith
slice_within (u ∷ us) (suc p) a is = let less : p < length us = slice_within us p a is in omega (arith, less)

pub keys_set : (us : List Account) (p : ℕ) (a b : Account) → slice_get us p ≡ Some a → b.0 ≡ a.0
    → keys_of_accounts (slice_set us p b) ≡ keys_of_accounts us
keys_set [] p a b is same = refl
keys_set (u ∷ us) zero a b is same =
    ap (λ k. k ∷ keys_of_accounts us) (same ∙ ap (λ (v : Account). v.0) (sym (same_Some _ _ is)))
keys_set (u ∷ us) (suc p) a b is same = ap (λ ks. u.0 ∷ ks) (keys_set us p a b is same)

pub values_set : (T : Tables) (us : List Account) (p : ℕ) (a : Account) → p < length us → AreStoredValues T (take p us)
    → Some (pos a.1) ≡ finmap.get T.values a.0
    → AreStoredValues T (take (p + 1) (slice_set us p a))
values_set T us p a within so is =
    let one : suc p ≡ p + 1 = omega arith in
    subst (λ (n : ℕ). AreStoredValues T (take n (slice_set us p a))) one
    (subst (All (IsValue T)) (sym (take_set us p a within))
    (All-append (IsValue T) (take p us) (a ∷ []) so (All-cons (IsValue T) a [] is (All-nil (IsValue T)))))

-- where the value is there already
pub values_same : (T : Tables) (us : List Account) (p : ℕ) (a : Account) → slice_get us p ≡ Some a
    → AreStoredValues T (take p us)
    → Some (pos a.1) ≡ finmap.get T.values a.0 → AreStoredValues T (take (p + 1) us)
values_same T us p a at so is =
    subst (λ vs. AreStoredValues T (take (p + 1) vs)) (same_slice us p a at)
    (values_set T us p a (slice_within us p a at) so is)

-- ---- all accounts

known_by_keys : (us : List Account) (k : List ℕ)
    → is_some (stored_value us k) ≡ list_any (key_eq k) (keys_of_accounts us)
known_by_keys [] k = refl
known_by_keys (u ∷ us) k = grind (arith, (known_by_keys us k))

value_there : (T : Tables) (us : List Account) (k : List ℕ) → AreStoredValues T us → is_some (stored_value us k) ≡ true
    → stored_value us k ≡ finmap.get T.values k
value_there T [] k all on = let z : false ≡ true = on in cc
value_there T (u ∷ us) k all on =
    by_bool (λ b. is_some (option_map (λ v. pos v) (cond b (Some u.1) (lookup (key_eq k) us))) ≡ true → key_eq k u.0 ≡ b
    → option_map (λ v. pos v) (cond b (Some u.1) (lookup (key_eq k) us)) ≡ finmap.get T.values k) (key_eq k u.0)
    (λ _ _ here. All-head (IsValue T) u us all ∙ ap (λ l. finmap.get T.values l) (sym ((Decides-key_eq k u.0).0 here)))
    (λ _ later _. value_there T us k (All-tail (IsValue T) u us all) later) on refl

pub has_values : (T : Tables) (old new : Image) (n : ℕ) → new.branches ≡ old.branches → new.changes ≡ old.changes
    → keys_of_accounts new.accounts ≡ keys_of_accounts old.accounts
    → AreStoredValues T (take n new.accounts) → n ≡ length new.accounts → HasValuesOf T old new
has_values T old new n branches changes keys all count = record {
  branches = branches;
  changes = changes;
  keys = keys;
  values = λ k on. value_there T new.accounts k whole (known k ∙ on);
  others = λ k off. is_missing _ (known k ∙ off);
}
  where
    known : (k : List ℕ) → is_some (stored_value new.accounts k) ≡ is_some (stored_value old.accounts k)
    known k = known_by_keys new.accounts k ∙ ap (list_any (key_eq k)) keys ∙ sym (known_by_keys old.accounts k)

    whole : AreStoredValues T new.accounts
    whole =
        subst (AreStoredValues T)
        (ap (λ (m : ℕ). take m new.accounts) count ∙ take_all (length new.accounts) new.accounts (omega arith)) all

-- as many keys, as many accounts
pub same_count : (us vs : List Account) → keys_of_accounts us ≡ keys_of_accounts vs → length us ≡ length vs
same_count us vs e = sym (counted us) ∙ ap (λ ks. length ks) e ∙ counted vs
  where
    counted : (ws : List Account) → length (keys_of_accounts ws) ≡ length ws
    counted [] = refl
    counted (w ∷ ws) = ap (λ (n : ℕ). suc n) (counted ws)

place_by_keys : (k : List ℕ) (n : ℕ) (us : List Account)
    → first_place_from (λ (a : Account). key_eq k a.0) n us ≡ first_place_from (key_eq k) n (keys_of_accounts us)
place_by_keys k n [] = refl
place_by_keys k n (u ∷ us) = ap (λ o. if key_eq k u.0 then Some n else o) (place_by_keys k (suc n) us)

-- values don't move anything
pub order_valued : (slots : List (XidName × ℕ)) (places : List (List ℕ × ℕ)) (old new : Image)
    → new.branches ≡ old.branches → new.changes ≡ old.changes
    → keys_of_accounts new.accounts ≡ keys_of_accounts old.accounts → IsInOrder slots places old
    → IsInOrder slots places new
order_valued slots places old new branches changes keys o = record {
  slots_are = λ x. o.slots_are x ∙ ap (λ bs. first_place_from (is_of_branch x) 0 bs) (sym branches);
  places_are =
      λ k. o.places_are k ∙ place_by_keys k 0 old.accounts ∙ ap (λ ks. first_place_from (key_eq k) 0 ks) (sym keys)
      ∙ sym (place_by_keys k 0 new.accounts);
  apart = λ s t x on also.
      o.apart s t x (ap (λ bs. is_of_branch x (item_at bs s)) (sym branches) ∙ on)
      (ap (λ bs. is_of_branch x (item_at bs t)) (sym branches) ∙ also);
  owned = λ p c is. ap (λ bs. is_some (item_at bs c.branch)) branches
      ∙ o.owned p c (ap (λ cs. item_at cs p) (sym changes) ∙ is);
}

-- the account that was read at a place
pub read_account : (items got : List Account) (k : ℕ) (r : Option (Bor Account)) (a : Account) → got ≡ items
    → IsItemAt got k r
    → option_map (λ (x : Bor Account). x.now) r ≡ Some a → slice_get items k ≡ Some a
read_account items got k None a same lookup is = let z : None ≡ Some a = is in cc
read_account items got k (Some b) a same lookup is =
    ap (λ xs. slice_get xs k) (sym same) ∙ slice_get_read got (length got) k b.now refl lookup.3.0 lookup.1 ∙ is
