-- The orders of names and of keys are total, and tell all apart.
use Rattle.std.specs.Prelude.{◌≡◌, ℕ, ℤ, ◌+◌, ◌-◌, replicate, true, List, ◌++◌, length, take, drop, refl}
use Rattle.std.proofs.Common.{sym, ap, ◌∙◌, subst}
use Rattle.std.specs.Ordering.{nat_cmp, int_cmp, ordering_then, eq_by_cmp, is_eq}
use Rattle.std.specs.declared.cmp.Ordering.{Ordering}
use Rattle.std.specs.declared.cmp.Ordering.TheVariants.{Less, Equal, Greater}
use Rattle.std.specs.Cmp.{IsTotalOrder, tied_itself, nat_cmp_total, int_cmp_total}
use Rattle.std.specs.Cmp.Lexicographic.{slice_cmp, nat_list_cmp_total}
use Rattle.std.specs.FinMap.{IsAntisymmetric, slice_cmp-IsAntisymmetric, nat_cmp-IsAntisymmetric}
use Rattle.std.proofs.lemmas.Cmp.{then_total, on_total}
use Rattle.std.proofs.lemmas.Map.Lookups.{exact_pairs, exact_unsigned, exact_signed, exact_bytes}
use Rattle.std.proofs.Math.Seq.{take-append_seam, drop-append_seam}
use Rattle.std.specs.Bool.{Decides}
use Rattle.std.proofs.lemmas.Bool.Decides.{Decides-and, Decides-eqb, Decides-int_eq, same_from_decides}
use Rattle.std.proofs.lemmas.Slice.Eq.{slice_eq-Decides}
pub use Rattle.xa_words.specs.Key.{key_cmp}
use Rattle.xa_words.specs.Key.{key_eq, padded_key}
use Rattle.xa_words.specs.Xid.{XidName, xid_cmp, xid_eq, bytes_of}

-- the order of branch names is total
pub xid_cmp_total : IsTotalOrder xid_cmp
xid_cmp_total =
    then_total (on_total (λ x. x.format) int_cmp_total)
    (then_total (on_total (λ x. length x.gtrid) nat_cmp_total)
    (then_total (on_total (λ x. length x.bqual) nat_cmp_total) (on_total bytes_of nat_list_cmp_total)))

-- what the order compares, one after another
abbrev Parts : Type 0
Parts = ℤ × (ℕ × (ℕ × List ℕ))

-- what it compares of a name
abbrev parts_of : XidName → Parts
parts_of x = (x.format, (length x.gtrid, (length x.bqual, bytes_of x)))

-- the name, read back
abbrev name_of : Parts → XidName
name_of p = record { format = p.0; gtrid = take p.1.0 p.1.1.1; bqual = take p.1.1.0 (drop p.1.0 p.1.1.1) }

-- a name comes back from what is compared of it
name_again : (x : XidName) → name_of (parts_of x) ≡ x
name_again x =
    let z : List ℕ = replicate (128 - (length x.gtrid + length x.bqual)) 0 in
    let g : take (length x.gtrid) (x.gtrid ++ (x.bqual ++ z)) ≡ x.gtrid = take-append_seam x.gtrid (x.bqual ++ z) in
    let d : drop (length x.gtrid) (x.gtrid ++ (x.bqual ++ z)) ≡ x.bqual ++ z =
    drop-append_seam x.gtrid (x.bqual ++ z) in
    let b : take (length x.bqual) (drop (length x.gtrid) (x.gtrid ++ (x.bqual ++ z))) ≡ x.bqual =
    ap (take (length x.bqual)) d ∙ take-append_seam x.bqual z in
    λ i. record { format = x.format; gtrid = g i; bqual = b i }

-- names of which the same is compared are one
same_name : (x y : XidName) → parts_of x ≡ parts_of y → x ≡ y
same_name x y e = sym (name_again x) ∙ ap name_of e ∙ name_again y

-- of tied names the same is compared
exact_parts : (x y : XidName) → xid_cmp x y ≡ Equal → parts_of x ≡ parts_of y
exact_parts x y e =
    exact_pairs int_cmp
    (λ (p q : ℕ × (ℕ × List ℕ)).
    ordering_then (nat_cmp p.0 q.0) (ordering_then (nat_cmp p.1.0 q.1.0) (slice_cmp nat_cmp p.1.1 q.1.1)))
    exact_signed
    (exact_pairs nat_cmp (λ (p q : ℕ × List ℕ). ordering_then (nat_cmp p.0 q.0) (slice_cmp nat_cmp p.1 q.1))
    exact_unsigned
    (exact_pairs nat_cmp (slice_cmp nat_cmp) exact_unsigned exact_bytes)) (parts_of x) (parts_of y) e

-- no other answer is one of equality
is_equal : (r : Ordering) → is_eq r ≡ true → r ≡ Equal
is_equal Less t = cc
is_equal Equal t = refl
is_equal Greater t = cc

-- tied names are one
pub xid_cmp-IsAntisymmetric : IsAntisymmetric xid_cmp
xid_cmp-IsAntisymmetric x y e = same_name x y (exact_parts x y e)

-- the order of keys is total
pub key_cmp_total : IsTotalOrder key_cmp
key_cmp_total = nat_list_cmp_total

-- tied keys are one
pub key_cmp-IsAntisymmetric : IsAntisymmetric key_cmp
key_cmp-IsAntisymmetric = slice_cmp-IsAntisymmetric nat_cmp-IsAntisymmetric

-- the parts of a name come back from their bytes
gtrid_again : (x : XidName) → take (length x.gtrid) (x.gtrid ++ x.bqual) ≡ x.gtrid
gtrid_again x = take-append_seam x.gtrid x.bqual

bqual_again : (x : XidName) → drop (length x.gtrid) (x.gtrid ++ x.bqual) ≡ x.bqual
bqual_again x = drop-append_seam x.gtrid x.bqual

-- names of one format that part the same bytes at the same place are one
same_parts : (x y : XidName) → x.format ≡ y.format → length x.gtrid ≡ length y.gtrid
    → x.gtrid ++ x.bqual ≡ y.gtrid ++ y.bqual
    → x ≡ y
same_parts x y f l u =
    let g : x.gtrid ≡ y.gtrid = sym (gtrid_again x) ∙ (λ i. take (l i) (u i)) ∙ gtrid_again y in
    let b : x.bqual ≡ y.bqual = sym (bqual_again x) ∙ (λ i. drop (l i) (u i)) ∙ bqual_again y in
    λ i. record { format = f i; gtrid = g i; bqual = b i }

-- `==` of branch names is true exactly of one name
pub Decides-xid_eq : (x y : XidName) → Decides (xid_eq x y) (x ≡ y)
Decides-xid_eq x y =
    let d =
    Decides-and _ _ (Decides-int_eq x.format y.format)
    (Decides-and _ _ (Decides-eqb (length x.gtrid) (length y.gtrid))
    (slice_eq-Decides Decides-eqb (x.gtrid ++ x.bqual) (y.gtrid ++ y.bqual) _ refl)) in (
      λ t. let e = d.0 t in same_parts x y e.0 e.1.0 e.1.1,
      λ e. d.1 (ap (λ n. n.format) e, (ap (λ n. length n.gtrid) e, ap (λ n. n.gtrid ++ n.bqual) e)),
    )

-- a total order whose tied values are one answers `Equal` exactly of one value
Decides-by_cmp : {K : Type 0} (R : K → K → Ordering) → IsTotalOrder R → IsAntisymmetric R → (x y : K)
    → Decides (eq_by_cmp R x y) (x ≡ y)
Decides-by_cmp {K} R o same x y =
    (λ t. same x y (is_equal (R x y) t), λ e. subst (λ (z : K). eq_by_cmp R x z ≡ true) e (ap is_eq (tied_itself o x)))

-- `==` of branch names is true exactly where their order answers `Equal`
pub xid_eq-by_cmp : (x y : XidName) → xid_eq x y ≡ eq_by_cmp xid_cmp x y
xid_eq-by_cmp x y =
    same_from_decides _ _ (Decides-xid_eq x y) (Decides-by_cmp xid_cmp xid_cmp_total xid_cmp-IsAntisymmetric x y)

-- a key comes back from its padded bytes
key_again : (k : List ℕ) → take (length k) (padded_key k) ≡ k
key_again k = take-append_seam k (replicate (16 - length k) 0)

-- `==` of keys is true exactly of one key
pub Decides-key_eq : (k l : List ℕ) → Decides (key_eq k l) (k ≡ l)
Decides-key_eq k l =
    let d =
    Decides-and _ _ (slice_eq-Decides Decides-eqb (padded_key k) (padded_key l) _ refl)
    (Decides-eqb (length k) (length l)) in (
      λ t. let e = d.0 t in sym (key_again k) ∙ (λ i. take (e.1 i) (e.0 i)) ∙ key_again l,
      λ e. d.1 (ap padded_key e, ap length e),
    )

-- `==` of keys is true exactly where their order answers `Equal`
pub key_eq-by_cmp : (k l : List ℕ) → key_eq k l ≡ eq_by_cmp key_cmp k l
key_eq-by_cmp k l =
    same_from_decides _ _ (Decides-key_eq k l) (Decides-by_cmp key_cmp key_cmp_total key_cmp-IsAntisymmetric k l)
