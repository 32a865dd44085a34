-- What an image has of what branches have added.
use Rattle.xa_base.proofs.{◌≡◌, ◌==◌, ℕ, zero, suc, ◌<◌, ℤ, Bool, true, false, cond, ◌&&◌, if◌then◌else◌, List, [], ◌∷◌}
use Rattle.xa_base.proofs.{length, map, slice_set, Option, None, Some, find, get-from_entries, refl, ap, sym, ◌∙◌}
use Rattle.xa_base.proofs.{arith, by_bool, same_Some, false_from_ne_true, Decides-eqb}
use Rattle.std.specs.FinMap as finmap
use Rattle.xa_words.specs.{XidName, xid_eq, key_eq}
use Rattle.xa_tables.specs.{Sum, Touch, touch_cmp, sum_entries}
use Rattle.xa_tables.proofs.AccountLemmas.{touch_cmp_total, touch_from, same_touch, touch_same, swapped}
use Rattle.xa_store_sqlite.specs.{StoredBranch, Change, Image, item_at, keys_of_accounts, branch_name_at, sum_in}
use Rattle.xa_store_sqlite.specs.{sums_of, unless_of, with_sum}
use Rattle.xa_store_sqlite.proofs.Branches.{none_both}

-- ---- the sum of a branch and a key, read along the changes

abbrev one_sum : Option XidName → List ℕ → ℤ → Touch → Option ℤ → Option ℤ
one_sum None key d p o = o
one_sum (Some z) key d p o = cond (same_touch p (z, key)) (Some d) o

abbrev pub sum_found : List (Option StoredBranch) → List (List ℕ) → List (Option Change) → Touch → Option ℤ
sum_found bs [] cs p = None
sum_found bs (k ∷ ks) [] p = None
sum_found bs (k ∷ ks) (None ∷ cs) p = sum_found bs ks cs p
sum_found bs (k ∷ ks) (Some c ∷ cs) p = one_sum (branch_name_at bs c.branch) k c.delta p (sum_found bs ks cs p)

with_found : (key : List ℕ) (d : ℤ) (name : Option XidName) (sums : List Sum) (p : Touch)
    → find touch_cmp p (sum_entries (with_sum key d name sums)) ≡ one_sum name key d p
    (find touch_cmp p (sum_entries sums))
with_found key d None sums p = refl
with_found key d (Some z) sums p = refl

found_is : (bs : List (Option StoredBranch)) (us : List (List ℕ × ℕ)) (cs : List (Option Change)) (p : Touch)
    → find touch_cmp p (sum_entries (sums_of bs us cs)) ≡ sum_found bs (keys_of_accounts us) cs p
found_is bs [] cs p = refl
found_is bs (a ∷ us) [] p = refl
found_is bs (a ∷ us) (None ∷ cs) p = found_is bs us cs p
found_is bs (a ∷ us) (Some c ∷ cs) p =
    with_found a.0 c.delta (branch_name_at bs c.branch) (sums_of bs us cs) p
    ∙ ap (λ o. one_sum (branch_name_at bs c.branch) a.0 c.delta p o) (found_is bs us cs p)

pub sum_is : (image : Image) (x : XidName) (k : List ℕ)
    → sum_in image x k ≡ sum_found image.branches (keys_of_accounts image.accounts) image.changes (x, k)
sum_is image x k =
    get-from_entries touch_cmp_total (sum_entries (sums_of image.branches image.accounts image.changes)) (x, k)
    ∙ found_is image.branches image.accounts image.changes (x, k)

-- ---- other branches

-- the same names of all changes make the same sums
pub found_alike : (bs ds : List (Option StoredBranch)) (ks : List (List ℕ)) (cs : List (Option Change)) (p : Touch)
    → ((n : ℕ) (c : Change) → item_at cs n ≡ Some c → branch_name_at bs c.branch ≡ branch_name_at ds c.branch)
    → sum_found bs ks cs p ≡ sum_found ds ks cs p
found_alike bs ds [] cs p f = refl
found_alike bs ds (k ∷ ks) [] p f = refl
found_alike bs ds (k ∷ ks) (None ∷ cs) p f = found_alike bs ds ks cs p (λ n. f (suc n))
found_alike bs ds (k ∷ ks) (Some c ∷ cs) p f =
    ap (λ name. one_sum name k c.delta p (sum_found bs ks cs p)) (f 0 c refl)
    ∙ ap (λ o. one_sum (branch_name_at ds c.branch) k c.delta p o) (found_alike bs ds ks cs p (λ n. f (suc n)))

passed_by : (name : Option XidName) (key : List ℕ) (d : ℤ) (x : XidName) (q : List ℕ) (o : Option ℤ)
    → (name ≡ Some x → ⊥)
    → one_sum name key d (x, q) o ≡ o
passed_by None key d x q o never = refl
passed_by (Some z) key d x q o never =
    ap (λ t. cond t (Some d) o)
    (false_from_ne_true (same_touch (x, q) (z, key))
    (λ t. never (ap (λ (r : Touch). Some r.0) (sym (touch_from (x, q) (z, key) t)))))

-- a branch that no change is of has no sum
pub unnamed : (bs : List (Option StoredBranch)) (ks : List (List ℕ)) (cs : List (Option Change)) (x : XidName)
    (q : List ℕ)
    → ((n : ℕ) (c : Change) → item_at cs n ≡ Some c → branch_name_at bs c.branch ≡ Some x → ⊥)
    → sum_found bs ks cs (x, q) ≡ None
unnamed bs [] cs x q f = refl
unnamed bs (k ∷ ks) [] x q f = refl
unnamed bs (k ∷ ks) (None ∷ cs) x q f = unnamed bs ks cs x q (λ n. f (suc n))
unnamed bs (k ∷ ks) (Some c ∷ cs) x q f =
    passed_by (branch_name_at bs c.branch) k c.delta x q (sum_found bs ks cs (x, q)) (f 0 c refl)
    ∙ unnamed bs ks cs x q (λ n. f (suc n))

-- ---- the changes of one slot are gone

pub left_change : (slot : ℕ) (cs : List (Option Change)) (n : ℕ) (c : Change)
    → item_at (map (λ d. unless_of slot d) cs) n ≡ Some c
    → (item_at cs n ≡ Some c) × (c.branch ≡ slot → ⊥)
left_change slot [] n c e = let z : None ≡ Some c = e in cc
left_change slot (None ∷ cs) zero c e = let z : None ≡ Some c = e in cc
left_change slot (Some d ∷ cs) zero c e =
    by_bool (λ b. (if b then None else Some d) ≡ Some c → (Some d ≡ Some c) × (c.branch ≡ slot → ⊥)) (d.branch == slot)
    (λ _ z. let never : None ≡ Some c = z in cc)
    (λ off same. (
      same,
      λ at. let on : (d.branch == slot) ≡ true = (Decides-eqb d.branch slot).1
          (ap (λ (b : Change). b.branch) (same_Some _ _ same) ∙ at) in let z : false ≡ true = sym off ∙ on in cc,
    )) e
left_change slot (d ∷ cs) (suc n) c e = left_change slot cs n c e

pub found_without : (bs : List (Option StoredBranch)) (slot : ℕ) (ks : List (List ℕ)) (cs : List (Option Change))
    (x : XidName) (q : List ℕ)
    → (branch_name_at bs slot ≡ Some x → ⊥)
    → sum_found bs ks (map (λ d. unless_of slot d) cs) (x, q) ≡ sum_found bs ks cs (x, q)
found_without bs slot [] cs x q never = refl
found_without bs slot (k ∷ ks) [] x q never = refl
found_without bs slot (k ∷ ks) (None ∷ cs) x q never = found_without bs slot ks cs x q never
found_without bs slot (k ∷ ks) (Some c ∷ cs) x q never =
    by_bool
    (λ b. sum_found bs (k ∷ ks) ((if b then None else Some c) ∷ map (λ d. unless_of slot d) cs) (x, q) ≡ sum_found
    bs (k ∷ ks) (Some c ∷ cs) (x, q))
    (c.branch == slot)
    (λ on. found_without bs slot ks cs x q never
    ∙ sym
    (passed_by (branch_name_at bs c.branch) k c.delta x q (sum_found bs ks cs (x, q))
    (λ e. never (ap (λ s. branch_name_at bs s) (sym ((Decides-eqb c.branch slot).0 on)) ∙ e))))
    (λ _. ap (λ o. one_sum (branch_name_at bs c.branch) k c.delta (x, q) o) (found_without bs slot ks cs x q never))

-- ---- one change more

-- the key at a place
abbrev pub key_in : List (List ℕ) → ℕ → Option (List ℕ)
key_in [] n = None
key_in (k ∷ ks) zero = Some k
key_in (k ∷ ks) (suc n) = key_in ks n

swap : (s t : Bool) (a b o : Option ℤ) → (t ≡ true → s ≡ false) → cond s a (cond t b o) ≡ cond t b (cond s a o)
swap true true a b o f = let z : true ≡ false = f refl in cc
swap true false a b o f = refl
swap false t a b o f = refl

put_under : (name : Option XidName) (l : List ℕ) (d e : ℤ) (p r : Touch) (o s u : Option ℤ)
    → one_sum name l d r u ≡ None
    → (u ≡ None → s ≡ cond (same_touch p r) (Some e) o)
    → one_sum name l d p s ≡ cond (same_touch p r) (Some e) (one_sum name l d p o)
put_under None l d e p r o s u none f = f none
put_under (Some z) l d e p r o s u none f =
    let both = none_both (same_touch r (z, l)) d u none in
    ap (λ v. cond (same_touch p (z, l)) (Some d) v) (f both.1)
    ∙ swap (same_touch p (z, l)) (same_touch p r) (Some d) (Some e) o
    (λ on. ap (λ v. same_touch v (z, l)) (touch_from p r on) ∙ both.0)

pub found_put : (bs : List (Option StoredBranch)) (ks : List (List ℕ)) (cs : List (Option Change)) (n : ℕ) (c : Change)
    (x : XidName) (k : List ℕ) (p : Touch)
    → item_at cs n ≡ None → n < length cs → key_in ks n ≡ Some k → branch_name_at bs c.branch ≡ Some x
    → sum_found bs ks cs (x, k) ≡ None
    → sum_found bs ks (slice_set cs n (Some c)) p ≡ cond (same_touch p (x, k)) (Some c.delta) (sum_found bs ks cs p)
found_put bs [] cs n c x k p free within key name none = let z : None ≡ Some k = key in cc
found_put bs (l ∷ ks) [] n c x k p free within key name none = absurd (omega (arith, within))
found_put bs (l ∷ ks) (None ∷ cs) zero c x k p free within key name none =
    ap (λ m. one_sum m l c.delta p (sum_found bs ks cs p)) name
    ∙ ap (λ m. cond (same_touch p (x, m)) (Some c.delta) (sum_found bs ks cs p)) (same_Some _ _ key)
found_put bs (l ∷ ks) (Some d ∷ cs) zero c x k p free within key name none = let z : Some d ≡ None = free in cc
found_put bs (l ∷ ks) (None ∷ cs) (suc n) c x k p free within key name none =
    found_put bs ks cs n c x k p free (omega (arith, within)) key name none
found_put bs (l ∷ ks) (Some d ∷ cs) (suc n) c x k p free within key name none =
    put_under (branch_name_at bs d.branch) l d.delta c.delta p (x, k) (sum_found bs ks cs p)
    (sum_found bs ks (slice_set cs n (Some c)) p)
    (sum_found bs ks cs (x, k)) none (λ rest. found_put bs ks cs n c x k p free (omega (arith, within)) key name rest)

pub touch_is : (x y : XidName) (k l : List ℕ) → same_touch (y, l) (x, k) ≡ (xid_eq x y && key_eq k l)
touch_is x y k l = touch_same y x l k ∙ ap (λ b. xid_eq x y && b) (sym (swapped l k))
