-- Where scans stand.
use Rattle.xa_base.proofs.{◌≡◌, ℕ, zero, suc, ◌-◌, ◌≤◌, inl, inr, ◌==◌, Option, Some, None, IfSome, List, [], ◌∷◌}
use Rattle.xa_base.proofs.{length, get_or, set, slice_index_or, slice_set, refl, sym, ap, ◌∙◌, subst, arith, ◌⊎◌, Vec}
use Rattle.xa_base.proofs.{cases_Bool, eqb-true, eqb-false, get_or-map, get_or-set_other, arc_value}
use Rattle.std.specs.declared.sync.Arc.{Arc}
use Rattle.xa_words.specs.{XidName}
use Rattle.xa_scan.specs.{ScanView, IsScan, scan_of, lists_in, left_at, place_at}

-- what was left at manager m stands at place m - 1
left_there : (z : ScanView) (m : ℕ) → 1 ≤ m → left_at z m ≡ slice_index_or z.left (m - 1) []
left_there z zero low = absurd (omega (arith, low))
left_there z (suc k) low = ap (λ i. slice_index_or z.left i []) (let e : k ≡ suc k - 1 = omega arith in e)

-- so it is the vector there
pub left_is : {Z : Type 0} (lists : Option (Arc (Vec (Vec XidName Z) Z) Z)) (places : List (Option ℕ))
    (v : Arc (Vec (Vec XidName Z) Z) Z) (xs : Vec XidName Z) (m : ℕ)
    → lists ≡ Some v → 1 ≤ m
    → m ≤ length (arc_value v).items → xs ≡ slice_index_or (arc_value v).items (m - 1) xs
    → left_at (scan_of lists places) m ≡ xs.items
left_is lists places v xs m is low high there =
    left_there (scan_of lists places) m low ∙ ap (λ o. slice_index_or (lists_in o) (m - 1) []) is
    ∙ get_or-map (λ x. x.items) (arc_value v).items (m - 1) xs [] (omega (arith, low, high))
    ∙ ap (λ x. x.items) (sym there)

-- a scan stands within what was left
pub stands_within : (z : ScanView) → IsScan z → (m : ℕ) → 1 ≤ m
    → IfSome (slice_index_or z.places (m - 1) None) (λ k. k ≤ length (left_at z m))
stands_within z is zero low = absurd (omega (arith, low))
stands_within z is (suc j) low =
    subst (λ i. IfSome (slice_index_or z.places i None) (λ k. k ≤ length (left_at z (suc j))))
    (let e : j ≡ suc j - 1 = omega arith in e)
    (elim (slice_index_or z.places j None) as
    (λ o. slice_index_or z.places j None ≡ o → IfSome o (λ k. k ≤ length (left_at z (suc j))))
    [ None ↦ λ e. tt | Some k ↦ λ e. is.within (suc j) k e ] refl)

-- a place that was set has what was set, if it is there
set_or : {A : Type 0} (xs : List A) (i : ℕ) (y d : A) → (get_or (set xs i y) i d ≡ y) ⊎ (get_or (set xs i y) i d ≡ d)
set_or [] i y d = inr refl
set_or (x ∷ xs) zero y d = inl refl
set_or (x ∷ xs) (suc i) y d = set_or xs i y d

-- and so it does where one scan is put within it
pub still_within : (z : ScanView) (m : ℕ) (o : Option ℕ) → 1 ≤ m → IfSome o (λ k. k ≤ length (left_at z m)) → IsScan z
    → IsScan (record z { places = slice_set z.places (m - 1) o })
still_within z zero o low fits is = absurd (omega (arith, low))
still_within z (suc i) o low fits is =
    subst (λ j. IsScan (record z { places = slice_set z.places j o })) (let e : i ≡ suc i - 1 = omega arith in e)
    (record { within = stood })
  where
    z' : ScanView
    z' = record z { places = slice_set z.places i o }

    there : (k : ℕ) → slice_index_or (slice_set z.places i o) i None ≡ Some k → k ≤ length (left_at z (suc i))
    there k e = elim (set_or z.places i o None) [
      | inl new ↦ subst (λ p. IfSome p (λ k. k ≤ length (left_at z (suc i)))) (sym new ∙ e) fits
      | inr none ↦ absurd (let no : None ≡ Some k = sym none ∙ e in cc)
    ]

    stood : (n k : ℕ) → place_at z' n ≡ Some k → k ≤ length (left_at z' n)
    stood zero k e = cc
    stood (suc j) k e = elim (cases_Bool (j == i)) [
      | inl same ↦
          rw (eqb-true j i same)
          (there k (ap (λ n. slice_index_or (slice_set z.places i o) n None) (sym (eqb-true j i same)) ∙ e))
      | inr other ↦ is.within (suc j) k (sym (get_or-set_other z.places i j o None (eqb-false j i other)) ∙ e)
    ]
