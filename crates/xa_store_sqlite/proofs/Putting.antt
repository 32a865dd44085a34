-- A branch is put with its sums.
use Rattle.xa_base.proofs.{◌≡◌, ℕ, ℤ, zero, suc, ◌+◌, ◌<◌, true, false, cond, if◌then◌else◌, ◌&&◌, List, [], ◌∷◌, ◌++◌}
use Rattle.xa_base.proofs.{length, slice_set, take, Option, None, Some, is_some, lookup, keys_of, refl, ap, sym, ◌∙◌}
use Rattle.xa_base.proofs.{arith, by_bool, IsDistinct, same_Some, AllByRecursion, IsDistinct-head, IsDistinct-tail}
use Rattle.xa_base.proofs.{get_or, one_more, option_map, same_from_decides, subst, take_all}
use Rattle.xa_words.specs.{XidName, xid_eq, Decides-xid_eq, key_eq, Decides-key_eq, delta_of}
use Rattle.xa_tables.proofs.SoundLemmas.{swap_xid}
use Rattle.xa_store_sqlite.specs.{NoBranchTwice, AreOwned, AreSlots, StoredBranch, Change, Image, IsInOrder, Lacks}
use Rattle.xa_store_sqlite.specs.{Left, PutsBranch, PutsSum, PutsSums, is_of_branch, item_at, keys_of_accounts}
use Rattle.xa_store_sqlite.specs.{branch_name_at, first_place_from, sum_in, with_branch, with_change}
use Rattle.xa_store_sqlite.proofs.Branches.{item_other, item_there, none_stands, place_kept, place_put, state_kept}
use Rattle.xa_store_sqlite.proofs.Branches.{state_put, name_other, name_is}
use Rattle.xa_store_sqlite.proofs.Removing.{by_same}
use Rattle.xa_store_sqlite.proofs.Sums.{found_put, key_in, sum_found, sum_is, touch_is}
use Rattle.xa_store_sqlite.proofs.Sums as sums

module _ (image : Image) (slot : ℕ) (x : XidName) (left : Left) (within : slot < length image.branches)
    (free : item_at image.branches slot ≡ None) where
  abbrev bs : List (Option StoredBranch)
  bs = image.branches

  abbrev put : Image
  put = with_branch image slot (Some (x, left))

  -- no change is of the free slot
  off_slot : AreOwned image → (n : ℕ) (c : Change) → item_at image.changes n ≡ Some c → c.branch ≡ slot → ⊥
  off_slot owned n c is same =
      let z : true ≡ false = sym (owned n c is) ∙ ap is_some (ap (item_at bs) same ∙ free) in cc

  sums_stay : AreOwned image → (y : XidName) (k : List ℕ) → sum_in put y k ≡ sum_in image y k
  sums_stay owned y k =
      sum_is put y k
      ∙ sums.found_alike (slice_set bs slot (Some (x, left))) bs (keys_of_accounts image.accounts) image.changes (y, k)
      (λ n c is. name_other bs slot c.branch (Some (x, left)) (off_slot owned n c is))
      ∙ sym (sum_is image y k)

  pub puts_branch : AreOwned image → Lacks x image → PutsBranch slot x left image put
  puts_branch owned lacks = record {
    name = name_is (slice_set bs slot (Some (x, left))) slot
        ∙ ap (λ (o : Option StoredBranch). option_map (λ b. b.0) o) (item_there bs slot (Some (x, left)) within);
    state = state_put bs slot (x, left) within lacks.state;
    states = λ y off. state_kept bs slot (Some (x, left)) y (ap (is_of_branch y) free) off;
    sums = sums_stay owned;
    accounts = refl;
  }

  -- a branch of the slots is x in this slot, or one that was there
  stands : (k : ℕ) (y : XidName) → is_of_branch y (item_at (slice_set bs slot (Some (x, left))) k) ≡ true
      → (k ≡ slot → xid_eq y x ≡ true) × ((k ≡ slot → ⊥) → is_of_branch y (item_at bs k) ≡ true)
  stands k y on = (
    λ e. sym
        (ap (is_of_branch y)
        (ap (item_at (slice_set bs slot (Some (x, left)))) e ∙ item_there bs slot (Some (x, left)) within))
        ∙ on,
    λ off. ap (is_of_branch y) (sym (item_other bs slot k (Some (x, left)) off)) ∙ on,
  )

  apart_put : NoBranchTwice image.branches → Lacks x image → NoBranchTwice put.branches
  apart_put apart lacks s t y on also =
      by_same s slot
      (λ at. by_same t slot (λ too. at ∙ sym too)
      (λ off. absurd (never t y (stands t y also).1 off ((stands s y on).0 at))))
      (λ off. by_same t slot (λ at. absurd (never s y (stands s y on).1 off ((stands t y also).0 at)))
      (λ apart_too. apart s t y ((stands s y on).1 off) ((stands t y also).1 apart_too)))
    where
      never : (k : ℕ) (z : XidName) → ((k ≡ slot → ⊥) → is_of_branch z (item_at bs k) ≡ true) → (k ≡ slot → ⊥)
          → xid_eq z x ≡ true → ⊥
      never k z was off is =
          let none : is_of_branch z (item_at bs k) ≡ false =
          ap (λ w. is_of_branch w (item_at bs k)) ((Decides-xid_eq z x).0 is) ∙ none_stands bs x lacks.state k in
          let z : true ≡ false = sym (was off) ∙ none in cc

  owned_put : AreOwned image → AreOwned put
  owned_put owned p c is =
      ap is_some (item_other bs slot c.branch (Some (x, left)) (off_slot owned p c is)) ∙ owned p c is

  slots_put : (slots later : List (XidName × ℕ)) → AreSlots slots image → Lacks x image
      → ((y : XidName) → lookup (xid_eq y) later ≡ (if xid_eq x y then Some slot else lookup (xid_eq y) slots))
      → AreSlots later put
  slots_put slots later are lacks updates y =
      by_bool
      (λ b. xid_eq x y ≡ b
      → lookup (xid_eq y) later ≡ first_place_from (is_of_branch y) 0 (slice_set bs slot (Some (x, left))))
      (xid_eq x y)
      (λ _ on. updates y ∙ ap (λ b. cond b (Some slot) (lookup (xid_eq y) slots)) on
      ∙ sym (place_put (is_of_branch y) 0 bs slot (Some (x, left)) within (swap_xid y x ∙ on)
      (λ k. ap (λ z. is_of_branch z (item_at bs k)) (sym ((Decides-xid_eq x y).0 on)) ∙ none_stands bs x lacks.state k)
      ∙ ap (λ (m : ℕ). Some m) (omega arith)))
      (λ _ off. updates y ∙ ap (λ b. cond b (Some slot) (lookup (xid_eq y) slots)) off ∙ are y
      ∙ sym (place_kept (is_of_branch y) 0 bs slot (Some (x, left)) (ap (is_of_branch y) free) (swap_xid y x ∙ off)))
      refl

  pub order_put : (slots later : List (XidName × ℕ)) (places : List (List ℕ × ℕ)) → IsInOrder slots places image
      → Lacks x image
      → ((y : XidName) → lookup (xid_eq y) later ≡ (if xid_eq x y then Some slot else lookup (xid_eq y) slots))
      → IsInOrder later places put
  order_put slots later places o lacks updates = record {
    slots_are = slots_put slots later o.slots_are lacks updates;
    places_are = o.places_are;
    apart = apart_put o.apart lacks;
    owned = owned_put o.owned;
  }

-- ---- a sum

record FoundKey (k : List ℕ) (n s : ℕ) (us : List (List ℕ × ℕ)) : Type 0 where
  place : ℕ
  at : s ≡ n + place
  key : key_in (keys_of_accounts us) place ≡ Some k

key_found : (k : List ℕ) (n : ℕ) (us : List (List ℕ × ℕ)) (s : ℕ)
    → first_place_from (λ (a : List ℕ × ℕ). key_eq k a.0) n us ≡ Some s → FoundKey k n s us
key_found k n [] s e = let z : None ≡ Some s = e in cc
key_found k n (a ∷ us) s e =
    by_bool
    (λ b. (if b then Some n else first_place_from (λ (a : List ℕ × ℕ). key_eq k a.0) (suc n) us) ≡ Some s
    → key_eq k a.0 ≡ b → FoundKey k n s (a ∷ us)) (key_eq k a.0)
    (λ _ here on. let same : n ≡ s = same_Some _ _ here in
    record { place = 0; at = omega (arith, same); key = ap Some (sym ((Decides-key_eq k a.0).0 on)) })
    (λ _ later off.
    let f = key_found k (suc n) us s later in
    let far = f.at in
    record { place = suc f.place; at = omega (arith, far); key = f.key }) e refl

key_there : (k : List ℕ) (us : List (List ℕ × ℕ)) (s : ℕ)
    → first_place_from (λ (a : List ℕ × ℕ). key_eq k a.0) 0 us ≡ Some s
    → key_in (keys_of_accounts us) s ≡ Some k
key_there k us s e =
    let f = key_found k 0 us s e in
    let far = f.at in
    let same : f.place ≡ s = omega (arith, far) in
    ap (key_in (keys_of_accounts us)) (sym same) ∙ f.key

module _ (image : Image) (slots : List (XidName × ℕ)) (places : List (List ℕ × ℕ)) (o : IsInOrder slots places image)
    (place : ℕ) (c : Change)
    (within : place < length image.changes) (free : item_at image.changes place ≡ None) where
  pub order_change : is_some (item_at image.branches c.branch) ≡ true
      → IsInOrder slots places (with_change image place (Some c))
  order_change there = record {
    slots_are = o.slots_are;
    places_are = o.places_are;
    apart = o.apart;
    owned = λ p d is. by_same p place
        (λ at.
        let same : c ≡ d =
        same_Some _ _
        (sym (item_there image.changes place (Some c) within)
        ∙ ap (item_at (slice_set image.changes place (Some c))) (sym at) ∙ is) in
        ap (λ (e : Change). is_some (item_at image.branches e.branch)) (sym same) ∙ there)
        (λ off. o.owned p d (sym (item_other image.changes place p (Some c) off) ∙ is));
  }

  pub puts_sum : (x : XidName) (k : List ℕ) → lookup (key_eq k) places ≡ Some place
      → branch_name_at image.branches c.branch ≡ Some x
      → sum_in image x k ≡ None → PutsSum x k c.delta image (with_change image place (Some c))
  puts_sum x k known name none = record {
    branches = refl;
    accounts = refl;
    sums = λ y l.
        sum_is (with_change image place (Some c)) y l
        ∙ found_put image.branches (keys_of_accounts image.accounts) image.changes place c x k (y, l) free within
        (key_there k image.accounts place (sym (o.places_are k) ∙ known)) name (sym (sum_is image x k) ∙ none)
        ∙ ap
        (λ v. cond v (Some c.delta) (sum_found image.branches (keys_of_accounts image.accounts) image.changes (y, l)))
        (touch_is x y k l)
        ∙ ap (λ v. cond (xid_eq x y && key_eq k l) (Some c.delta) v) (sym (sum_is image y l));
  }

-- ---- all sums

pub no_sums : (x : XidName) (image : Image) → ((k : List ℕ) → sum_in image x k ≡ None) → PutsSums x [] image image
no_sums x image none = record { branches = refl; accounts = refl; own = none; others = λ y k off. refl }

pub swap_key : (k l : List ℕ) → key_eq k l ≡ key_eq l k
swap_key k l =
    same_from_decides _ _ (Decides-key_eq k l)
    ((λ t. sym ((Decides-key_eq l k).0 t)), (λ e. (Decides-key_eq l k).1 (sym e)))

lookup_push : (k q : List ℕ) (v : ℤ) (es : List (List ℕ × ℤ)) → lookup (key_eq k) es ≡ None
    → lookup (key_eq q) (es ++ (k, v) ∷ []) ≡ (if key_eq k q then Some v else lookup (key_eq q) es)
lookup_push k q v [] none = ap (λ b. cond b (Some v) None) (swap_key q k)
lookup_push k q v (e ∷ es) none = grind (arith, (lookup_push k q v es), swap_key, Decides-key_eq)

pub one_sum_more : (x : XidName) (amounts : List (List ℕ × ℤ)) (k : List ℕ) (v : ℤ) (first old new : Image)
    → PutsSums x amounts first old
    → PutsSum x k v old new
    → lookup (key_eq k) amounts ≡ None → PutsSums x (amounts ++ (k, v) ∷ []) first new
one_sum_more x amounts k v first old new so one apart = record {
  branches = one.branches ∙ so.branches;
  accounts = one.accounts ∙ so.accounts;
  own = λ q. one.sums x q ∙ ap (λ b. cond (b && key_eq k q) (Some v) (sum_in old x q)) ((Decides-xid_eq x x).1 refl)
      ∙ ap (λ o. cond (key_eq k q) (Some v) o) (so.own q) ∙ sym (lookup_push k q v amounts apart);
  others = λ y q off. one.sums y q ∙ ap (λ b. cond (b && key_eq k q) (Some v) (sum_in old y q)) (swap_xid x y ∙ off)
      ∙ so.others y q off;
}

pub delta_is : (amount delta : ℤ) → delta_of amount ≡ Some delta → delta ≡ amount
delta_is amount delta e = grind arith

-- ---- one key after another

there_each : (P : List ℕ → Type 0) (es : List (List ℕ × ℤ)) (n : ℕ) (e : List ℕ × ℤ) → AllByRecursion P (keys_of es)
    → n < length es → e ≡ get_or es n e → P e.0
there_each P [] n e all within is = absurd (omega (arith, within))
there_each P (f ∷ es) zero e all within is = subst (λ (d : List ℕ × ℤ). P d.0) (sym is) all.0
there_each P (f ∷ es) (suc n) e all within is = there_each P es n e all.1 (omega (arith, within)) is

pub not_yet : (es : List (List ℕ × ℤ)) (n : ℕ) (e : List ℕ × ℤ) → IsDistinct key_eq (keys_of es) → n < length es
    → e ≡ get_or es n e
    → lookup (key_eq e.0) (take n es) ≡ None
not_yet [] n e apart within is = absurd (omega (arith, within))
not_yet (f ∷ es) zero e apart within is = refl
not_yet (f ∷ es) (suc n) e apart within is =
    let head =
    there_each (λ k. key_eq f.0 k ≡ false) es n e (IsDistinct-head key_eq f.0 (keys_of es) apart)
    (omega (arith, within)) is in
    ap (λ b. cond b (Some f.1) (lookup (key_eq e.0) (take n es))) (swap_key e.0 f.0 ∙ head)
    ∙ not_yet es n e (IsDistinct-tail key_eq f.0 (keys_of es) apart) (omega (arith, within)) is

pub next_sum : (x : XidName) (es : List (List ℕ × ℤ)) (n : ℕ) (e : List ℕ × ℤ) (first old new : Image)
    → PutsSums x (take n es) first old
    → (sum_in old x e.0 ≡ None → PutsSum x e.0 e.1 old new) → IsDistinct key_eq (keys_of es) → n < length es
    → e ≡ get_or es n e
    → PutsSums x (take (n + 1) es) first new
next_sum x es n e first old new so one apart within is =
    let none = not_yet es n e apart within is in
    subst (λ (l : List (List ℕ × ℤ)). PutsSums x l first new) (sym (one_more es n e within is))
    (one_sum_more x (take n es) e.0 e.1 first old new so (one (so.own e.0 ∙ none)) none)

pub all_sums : (x : XidName) (es : List (List ℕ × ℤ)) (n : ℕ) (first new : Image) → n ≡ length es
    → PutsSums x (take n es) first new → PutsSums x es first new
all_sums x es n first new count so =
    subst (λ (l : List (List ℕ × ℤ)). PutsSums x l first new)
    (ap (λ (m : ℕ). take m es) count ∙ take_all (length es) es (omega arith)) so
