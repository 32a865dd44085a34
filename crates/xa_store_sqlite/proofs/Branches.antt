-- Branches in their slots: what a write of one slot changes of where branches stand, and of their states.
use Rattle.xa_base.proofs.{◌≡◌, ℕ, zero, suc, ◌+◌, ◌<◌, Bool, true, false, cond, if◌then◌else◌, List, [], ◌∷◌, length}
use Rattle.xa_base.proofs.{slice_set, Option, None, Some, is_some, option_map, lookup, get_or, subst, unwrap_or, Bor}
use Rattle.xa_base.proofs.{refl, ap, sym, ◌∙◌, arith, by_bool, same_Some}
use Rattle.std.specs.Slice.{IsItemAt}
use Rattle.xa_words.specs.{XidName, xid_eq, Decides-xid_eq}
use Rattle.xa_store_sqlite.specs.{StoredBranch, is_of_branch, item_at, left_in_slots, branch_name_at, first_place_from}
use Rattle.xa_store_sqlite.specs.{state_of_left}

-- ---- what stands at a place after one is replaced

pub item_there : {A : Type 0} (xs : List (Option A)) (k : ℕ) (x : Option A) → k < length xs
    → item_at (slice_set xs k x) k ≡ x
item_there [] k x h = absurd (omega (arith, h))
item_there (y ∷ xs) zero x h = refl
item_there (y ∷ xs) (suc k) x h = item_there xs k x (omega (arith, h))

pub item_other : {A : Type 0} (xs : List (Option A)) (k j : ℕ) (x : Option A) → (j ≡ k → ⊥)
    → item_at (slice_set xs k x) j ≡ item_at xs j
item_other [] k j x off = refl
item_other (y ∷ xs) zero zero x off = absurd (off refl)
item_other (y ∷ xs) zero (suc j) x off = refl
item_other (y ∷ xs) (suc k) zero x off = refl
item_other (y ∷ xs) (suc k) (suc j) x off = item_other xs k j x (λ e. off (ap suc e))

-- ---- names

pub name_is : (bs : List (Option StoredBranch)) (k : ℕ) → branch_name_at bs k ≡ option_map (λ b. b.0) (item_at bs k)
name_is [] k = refl
name_is (b ∷ bs) zero = refl
name_is (b ∷ bs) (suc k) = name_is bs k

pub name_other : (bs : List (Option StoredBranch)) (k j : ℕ) (b : Option StoredBranch) → (j ≡ k → ⊥)
    → branch_name_at (slice_set bs k b) j ≡ branch_name_at bs j
name_other bs k j b off =
    name_is (slice_set bs k b) j ∙ ap (λ o. option_map (λ b. b.0) o) (item_other bs k j b off) ∙ sym (name_is bs j)

named_by : (b : Option StoredBranch) (x : XidName) → option_map (λ b. b.0) b ≡ Some x → is_of_branch x b ≡ true
named_by None x e = let z : None ≡ Some x = e in cc
named_by (Some b) x e = (Decides-xid_eq x b.0).1 (sym (same_Some _ _ e))

pub named : (bs : List (Option StoredBranch)) (k : ℕ) (x : XidName) → branch_name_at bs k ≡ Some x
    → is_of_branch x (item_at bs k) ≡ true
named bs k x e = named_by (item_at bs k) x (sym (name_is bs k) ∙ e)

-- a slot has one branch at most
other_of : (b : Option StoredBranch) (x y : XidName) → is_of_branch x b ≡ true → xid_eq y x ≡ false
    → is_of_branch y b ≡ false
other_of None x y e off = refl
other_of (Some b) x y e off = ap (λ z. xid_eq y z) (sym ((Decides-xid_eq x b.0).0 e)) ∙ off

pub other_at : (bs : List (Option StoredBranch)) (k : ℕ) (x y : XidName) → is_of_branch x (item_at bs k) ≡ true
    → xid_eq y x ≡ false
    → is_of_branch y (item_at bs k) ≡ false
other_at bs k x y e off = other_of (item_at bs k) x y e off

pub is_there : (b : Option StoredBranch) (x : XidName) → is_of_branch x b ≡ true → is_some b ≡ true
is_there None x e = let z : false ≡ true = e in cc
is_there (Some b) x e = refl

-- ---- states

pub none_both : {A : Type 0} (t : Bool) (v : A) (o : Option A) → cond t (Some v) o ≡ None → (t ≡ false) × (o ≡ None)
none_both true v o e = let z : Some v ≡ None = e in cc
none_both false v o e = (refl, e)

pub state_kept : (bs : List (Option StoredBranch)) (k : ℕ) (b : Option StoredBranch) (y : XidName)
    → is_of_branch y (item_at bs k) ≡ false
    → is_of_branch y b ≡ false
    → lookup (xid_eq y) (left_in_slots (slice_set bs k b)) ≡ lookup (xid_eq y) (left_in_slots bs)
state_kept [] k b y e f = refl
state_kept (None ∷ bs) zero None y e f = refl
state_kept (None ∷ bs) zero (Some b) y e f =
    ap (λ t. cond t (Some (state_of_left b.1)) (lookup (xid_eq y) (left_in_slots bs))) f
state_kept (Some c ∷ bs) zero None y e f =
    sym (ap (λ t. cond t (Some (state_of_left c.1)) (lookup (xid_eq y) (left_in_slots bs))) e)
state_kept (Some c ∷ bs) zero (Some b) y e f =
    ap (λ t. cond t (Some (state_of_left b.1)) (lookup (xid_eq y) (left_in_slots bs))) f
    ∙ sym (ap (λ t. cond t (Some (state_of_left c.1)) (lookup (xid_eq y) (left_in_slots bs))) e)
state_kept (None ∷ bs) (suc k) b y e f = state_kept bs k b y e f
state_kept (Some c ∷ bs) (suc k) b y e f =
    ap (λ o. cond (xid_eq y c.0) (Some (state_of_left c.1)) o) (state_kept bs k b y e f)

pub state_put : (bs : List (Option StoredBranch)) (k : ℕ) (b : StoredBranch) → k < length bs
    → lookup (xid_eq b.0) (left_in_slots bs) ≡ None
    → lookup (xid_eq b.0) (left_in_slots (slice_set bs k (Some b))) ≡ Some (state_of_left b.1)
state_put [] k b h none = absurd (omega (arith, h))
state_put (c ∷ bs) zero b h none =
    ap (λ t. cond t (Some (state_of_left b.1)) (lookup (xid_eq b.0) (left_in_slots bs)))
    ((Decides-xid_eq b.0 b.0).1 refl)
state_put (None ∷ bs) (suc k) b h none = state_put bs k b (omega (arith, h)) none
state_put (Some c ∷ bs) (suc k) b h none =
    let both = none_both (xid_eq b.0 c.0) (state_of_left c.1) (lookup (xid_eq b.0) (left_in_slots bs)) none in
    ap (λ t. cond t (Some (state_of_left c.1)) (lookup (xid_eq b.0) (left_in_slots (slice_set bs k (Some b))))) both.0
    ∙ state_put bs k b (omega (arith, h)) both.1

-- a branch with no state stands nowhere
pub none_stands : (bs : List (Option StoredBranch)) (x : XidName) → lookup (xid_eq x) (left_in_slots bs) ≡ None
    → (k : ℕ)
    → is_of_branch x (item_at bs k) ≡ false
none_stands [] x e k = refl
none_stands (None ∷ bs) x e zero = refl
none_stands (None ∷ bs) x e (suc k) = none_stands bs x e k
none_stands (Some b ∷ bs) x e zero =
    (none_both (xid_eq x b.0) (state_of_left b.1) (lookup (xid_eq x) (left_in_slots bs)) e).0
none_stands (Some b ∷ bs) x e (suc k) =
    none_stands bs x (none_both (xid_eq x b.0) (state_of_left b.1) (lookup (xid_eq x) (left_in_slots bs)) e).1 k

pub stands_none : (bs : List (Option StoredBranch)) (x : XidName) → ((k : ℕ) → is_of_branch x (item_at bs k) ≡ false)
    → lookup (xid_eq x) (left_in_slots bs) ≡ None
stands_none [] x f = refl
stands_none (None ∷ bs) x f = stands_none bs x (λ k. f (suc k))
stands_none (Some b ∷ bs) x f =
    ap (λ t. cond t (Some (state_of_left b.1)) (lookup (xid_eq x) (left_in_slots bs))) (f 0)
    ∙ stands_none bs x (λ k. f (suc k))

-- ---- places

module _ {A : Type 0} (test : Option A → Bool) where
  pub place_kept : (n : ℕ) (xs : List (Option A)) (k : ℕ) (x : Option A) → test (item_at xs k) ≡ false → test x ≡ false
      → first_place_from test n (slice_set xs k x) ≡ first_place_from test n xs
  place_kept n [] k x e f = refl
  place_kept n (y ∷ xs) zero x e f = ap (λ t. if t then Some n else first_place_from test (suc n) xs) (f ∙ sym e)
  place_kept n (y ∷ xs) (suc k) x e f = ap (λ o. if test y then Some n else o) (place_kept (suc n) xs k x e f)

  pub place_none : (n : ℕ) (xs : List (Option A)) → ((k : ℕ) → test (item_at xs k) ≡ false)
      → first_place_from test n xs ≡ None
  place_none n [] f = refl
  place_none n (y ∷ xs) f =
      ap (λ t. if t then Some n else first_place_from test (suc n) xs) (f 0) ∙ place_none (suc n) xs (λ k. f (suc k))

  pub place_put : (n : ℕ) (xs : List (Option A)) (k : ℕ) (x : Option A) → k < length xs → test x ≡ true
      → ((j : ℕ) → test (item_at xs j) ≡ false)
      → first_place_from test n (slice_set xs k x) ≡ Some (n + k)
  place_put n [] k x h e f = absurd (omega (arith, h))
  place_put n (y ∷ xs) zero x h e f =
      let same : n ≡ n + 0 = omega arith in
      ap (λ t. if t then Some n else first_place_from test (suc n) xs) e ∙ ap (λ (m : ℕ). Some m) same
  place_put n (y ∷ xs) (suc k) x h e f =
      let same : suc n + k ≡ n + suc k = omega arith in
      ap (λ t. if t then Some n else first_place_from test (suc n) (slice_set xs k x)) (f 0)
      ∙ place_put (suc n) xs k x (omega (arith, h)) e (λ j. f (suc j)) ∙ ap (λ (m : ℕ). Some m) same

  record Found (n s : ℕ) (xs : List (Option A)) : Type 0 where
    place : ℕ
    at : s ≡ n + place
    passes : test (item_at xs place) ≡ true

  place_found : (n : ℕ) (xs : List (Option A)) (s : ℕ) → first_place_from test n xs ≡ Some s → Found n s xs
  place_found n [] s e = let z : None ≡ Some s = e in cc
  place_found n (y ∷ xs) s e =
      by_bool (λ b. (if b then Some n else first_place_from test (suc n) xs) ≡ Some s → Found n s (y ∷ xs)) (test y)
      (λ t here. let same : n ≡ s = same_Some _ _ here in record { place = 0; at = omega (arith, same); passes = t })
      (λ _ later.
      let f = place_found (suc n) xs s later in
      let far = f.at in
      record { place = suc f.place; at = omega (arith, far); passes = f.passes }) e

  pub passes_there : (xs : List (Option A)) (s : ℕ) → first_place_from test 0 xs ≡ Some s → test (item_at xs s) ≡ true
  passes_there xs s e =
      let f = place_found 0 xs s e in
      let far = f.at in
      let same : f.place ≡ s = omega (arith, far) in
      ap (λ j. test (item_at xs j)) (sym same) ∙ f.passes

-- ---- as a slice is read

pub item_is : {A : Type 0} (xs : List (Option A)) (k : ℕ) → item_at xs k ≡ get_or xs k None
item_is [] k = refl
item_is (x ∷ xs) zero = refl
item_is (x ∷ xs) (suc k) = item_is xs k

module _ {A : Type 0} (items got : List (Option A)) (k : ℕ) where
  pub read_some : (r : Option (Bor (Option A))) (b : Bor (Option A)) → got ≡ items → IsItemAt got k r → r ≡ Some b
      → item_at items k ≡ b.now
  read_some r b same lookup is =
      ap (λ xs. item_at xs k) (sym same) ∙ item_is got k ∙ sym (lookup.4 (omega arith) None)
      ∙ ap (λ (s : Option (Bor (Option A))). unwrap_or (option_map (λ x. x.now) s) None) is

  pub read_none : (r : Option (Bor (Option A))) → got ≡ items → IsItemAt got k r → r ≡ None → item_at items k ≡ None
  read_none r same lookup is =
      ap (λ xs. item_at xs k) (sym same) ∙ item_is got k ∙ sym (lookup.4 (omega arith) None)
      ∙ ap (λ (s : Option (Bor (Option A))). unwrap_or (option_map (λ x. x.now) s) None) is

  pub read_within : (r : Option (Bor (Option A))) (b : Bor (Option A)) → got ≡ items → IsItemAt got k r → r ≡ Some b
      → k < length items
  read_within None b same lookup is = let z : None ≡ Some b = is in cc
  read_within (Some a) b same lookup is = subst (λ (xs : List (Option A)). k < length xs) same lookup.3.0

  -- both
  pub read_slot : (r : Option (Bor (Option A))) (b : Bor (Option A)) → got ≡ items → IsItemAt got k r → r ≡ Some b
      → (k < length items) × (item_at items k ≡ b.now)
  read_slot r b same lookup is = (read_within r b same lookup is, read_some r b same lookup is)
