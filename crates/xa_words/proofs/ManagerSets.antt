-- A set of managers by a test, and one with one more.
use Rattle.xa_base.proofs.{◌≡◌, ℕ, zero, suc, ◌+◌, ◌-◌, ◌<◌, ◌≤◌, ◌==◌, ◌||◌, Bool, true, false, cond, List, [], ◌∷◌}
use Rattle.xa_base.proofs.{length, filter, range_with_len, slice_set, get_or, refl, sym, ap, ◌∙◌, arith, or-false}
use Rattle.xa_base.proofs.{or-true, eqb-true, cases_eq, inl, inr, get_or-set_same, get_or-set_other, length-set}
use Rattle.xa_base.specs.{MOST_MANAGERS, IsUpTo}
use Rattle.xa_words.specs.{is_in, managers_above, set_of, with_manager}

-- the set of the managers that a test tells of has just these
pub in_set_of : (test : ℕ → Bool) (m : ℕ) → IsUpTo MOST_MANAGERS m → is_in (set_of test) m ≡ test m
in_set_of test zero up = absurd (omega (arith, up.0))
in_set_of test (suc zero) up = refl
in_set_of test (suc (suc zero)) up = refl
in_set_of test (suc (suc (suc zero))) up = refl
in_set_of test (suc (suc (suc (suc zero)))) up = refl
in_set_of test (suc (suc (suc (suc (suc zero))))) up = refl
in_set_of test (suc (suc (suc (suc (suc (suc zero)))))) up = refl
in_set_of test (suc (suc (suc (suc (suc (suc (suc zero))))))) up = refl
in_set_of test (suc (suc (suc (suc (suc (suc (suc (suc zero)))))))) up = refl
in_set_of test (suc (suc (suc (suc (suc (suc (suc (suc (suc k))))))))) up =
    absurd (let high = up.1 in omega (arith, high))

-- a list of eight is told by its places
pub eight : (set : List Bool) → length set ≡ 8 → set ≡ set_of (is_in set)
eight (a ∷ b ∷ c ∷ d ∷ e ∷ f ∷ g ∷ h ∷ []) long = refl
eight set long = absurd (let no : ⊥ = omega (arith, long) in no)

-- the place of manager k + 1 once manager m is put in
place_with : (set : List Bool) (m k : ℕ) → 1 ≤ m → k < length set
    → get_or (slice_set set (m - 1) true) k false ≡ (get_or set k false || (m == (k + 1)))
place_with set m k low within =
    elim (m == (k + 1)) as
    (λ b. (m == (k + 1)) ≡ b → get_or (slice_set set (m - 1) true) k false ≡ (get_or set k false || b)) [
      | true ↦ λ t.
          let same : m ≡ k + 1 = eqb-true m (k + 1) t in
          let here : k ≡ m - 1 = omega (arith, same) in
          rw (← here) (get_or-set_same set k true false within ∙ sym (or-true (get_or set k false)))
      | false ↦ λ f. get_or-set_other set (m - 1) k true false
          (λ same. let t : (m == (k + 1)) ≡ true = grind (arith, same, low) in let no : ⊥ = cc in no)
          ∙ sym (or-false (get_or set k false))
    ] refl

-- the set with manager m
pub set_with : (set : List Bool) (m : ℕ) → length set ≡ 8 → 1 ≤ m → slice_set set (m - 1) true ≡ with_manager m set
set_with set m long low =
    eight (slice_set set (m - 1) true) (length-set set (m - 1) true ∙ long)
    ∙ (λ i. at 0 (omega (arith, long)) i ∷ at 1 (omega (arith, long)) i ∷ at 2 (omega (arith, long)) i ∷ at 3
    (omega (arith, long)) i
    ∷ at 4 (omega (arith, long)) i ∷ at 5 (omega (arith, long)) i ∷ at 6 (omega (arith, long)) i ∷ at 7
    (omega (arith, long)) i ∷ [])
  where
    at : (k : ℕ) → k < length set → get_or (slice_set set (m - 1) true) k false ≡ (get_or set k false || (m == (k + 1)))
    at k within = place_with set m k low within

-- what holds of each manager that was asked about, with one more
pub one_more : (P : ℕ → Bool → Type 0) (places : List Bool) (n : ℕ) (b : Bool) → n < length places → P (n + 1) b
    → ((k : ℕ) → k < n → P (k + 1) (get_or places k false)) → (k : ℕ) → k < n + 1
    → P (k + 1) (get_or (slice_set places n b) k false)
one_more P places n b within here before k below =
    elim (cases_eq k n) [
      | inl same ↦ rw same (rw (get_or-set_same places n b false within) here)
      | inr differs ↦ rw (get_or-set_other places n k b false differs) (before k (omega (arith, below, differs)))
    ]

-- and of all
pub all_asked : (P : ℕ → Bool → Type 0) (places : List Bool) → ((k : ℕ) → k < 8 → P (k + 1) (get_or places k false))
    → (m : ℕ) → IsUpTo MOST_MANAGERS m → P m (is_in places m)
all_asked P places asked zero up = absurd (omega (arith, up.0))
all_asked P places asked (suc k) up = let next : suc k ≡ k + 1 = omega arith in rw next (asked k (omega (arith, up.1)))

-- a set is told by what holds of its managers
pub set_by : (set : List Bool) (test : ℕ → Bool) → set ≡ set_of (is_in set)
    → ((m : ℕ) → IsUpTo MOST_MANAGERS m → is_in set m ≡ test m)
    → set ≡ set_of test
set_by set test whole same =
    whole
    ∙ (λ i. at 1 (omega arith) (omega arith) i ∷ at 2 (omega arith) (omega arith) i ∷ at 3 (omega arith) (omega arith) i
    ∷ at 4 (omega arith) (omega arith) i ∷ at 5 (omega arith) (omega arith) i ∷ at 6 (omega arith) (omega arith) i
    ∷ at 7 (omega arith) (omega arith) i ∷ at 8 (omega arith) (omega arith) i ∷ [])
  where
    at : (m : ℕ) → 1 ≤ m → m ≤ 8 → is_in set m ≡ test m
    at m low high = same m (low, high)

-- the managers above m are m + 1, if it is in the set, and those above that
pub managers_next : (m : ℕ) (set : List Bool) → m < MOST_MANAGERS
    → managers_above m set ≡ cond (is_in set (m + 1)) ((m + 1) ∷ managers_above (m + 1) set)
    (managers_above (m + 1) set)
managers_next m set low =
    let rest : MOST_MANAGERS - m ≡ suc (MOST_MANAGERS - (m + 1)) = omega (arith, low) in
    ap (λ n. filter (is_in set) (range_with_len (m + 1) n)) rest
