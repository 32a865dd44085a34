-- The answers that a thread is owed are numbered from 0 on; and what it has collected once it has collected them all.
use Rattle.xa_base.proofs.{◌≡◌, ℕ, zero, suc, ◌<◌, ◌≤◌, Bool, true, false, cond, not, ◌==◌, ◌||◌, nat_eq, List, [], ◌∷◌}
use Rattle.xa_base.proofs.{◌++◌, Some, map, filter, length, slice_get, sym, refl, ap, ◌∙◌, arith, by_bool, All}
use Rattle.xa_base.proofs.{All-append, All-filter, All-head, All-tail, AllByRecursion, all_from, IsDistinct}
use Rattle.xa_base.proofs.{IsDistinct-head, IsDistinct-tail, eqb-true, eq-eqb, false_from_ne_true, got, filter-map}
use Rattle.xa_base.proofs.{list_any, list_any-append, map-append, none_twice, or-true, slice_get_within, both_ways}
use Rattle.xa_base.proofs.{ne_eqb, ◌↔◌}
use Rattle.std.proofs.lemmas.Map.Keys.{IsDistinct-cons}
use Rattle.xa_words.specs.{Code, Op, Request}
use Rattle.xa_desk.specs.{numbered}
use Rattle.xa_tables.specs.{of_thread}
use Rattle.xa_worker.specs.{Entry, requests}
use Rattle.xa_switch.specs.{HasNumber, answers}
use Rattle.laws_kill.proofs.Numbered.{AreNumberedFrom, number_at}

-- an answer
abbrev pub Pair : Type 0
Pair = ℕ × Code

abbrev pub number : Pair → ℕ
number p = p.0

-- ---- answers are numbered

abbrev own : ℕ → List Entry → List Entry
own t entries = filter (λ (e : Entry). e.0.thread == t) entries

abbrev answer : Entry → Pair
answer e = (e.0.number, e.1)

own_requests : (t : ℕ) (entries : List Entry) → of_thread t (requests entries) ≡ requests (own t entries)
own_requests t entries = filter-map (λ (r : Request). r.thread == t) (λ (e : Entry). e.0) entries

numbered_own : (t k : ℕ) (ops : List Op) (es : List Entry) → requests es ≡ numbered t k ops
    → AreNumberedFrom number k (map answer es) × (length (map answer es) ≡ length ops)
numbered_own t k [] [] e = (tt, refl)
numbered_own t k (op ∷ ops) [] e = absurd (cc)
numbered_own t k [] (x ∷ es) e = absurd (cc)
numbered_own t k (op ∷ ops) (x ∷ es) e =
    let first : x.0 ≡ record { thread = t; number = k; op = op } = heads x.0 (requests es) e in
    let rest = numbered_own t (suc k) ops es (tails x.0 (requests es) e) in
    ((ap (λ (r : Request). r.number) first, rest.0), ap suc rest.1)
  where
    heads : (r : Request) (h : List Request)
        → ◌≡◌ {A = List Request} (r ∷ h) (record { thread = t; number = k; op = op } ∷ numbered t (suc k) ops)
        → r ≡ record { thread = t; number = k; op = op }
    heads r h e = cc

    tails : (r : Request) (h : List Request)
        → ◌≡◌ {A = List Request} (r ∷ h) (record { thread = t; number = k; op = op } ∷ numbered t (suc k) ops)
        → h ≡ numbered t (suc k) ops
    tails r h e = cc

-- what a journal owes a thread is numbered from 0 on, where it has just what the thread sent
pub answers_numbered : (t : ℕ) (ops : List Op) (J : List Entry) → of_thread t (requests J) ≡ numbered t 0 ops
    → AreNumberedFrom number 0 (answers t J) × (length (answers t J) ≡ length ops)
answers_numbered t ops J e = numbered_own t 0 ops (own t J) (sym (own_requests t J) ∙ e)

-- ---- lists in which no number stands twice

every_weaker : {A : Type 0} (P Q : A → Type 0) → ((x : A) → P x → Q x) → (xs : List A) → AllByRecursion P xs
    → AllByRecursion Q xs
every_weaker P Q f [] h = tt
every_weaker P Q f (x ∷ xs) h = (f x h.0, every_weaker P Q f xs h.1)

every_append : {A : Type 0} (P : A → Type 0) (xs ys : List A) → AllByRecursion P xs → AllByRecursion P ys
    → AllByRecursion P (xs ++ ys)
every_append P [] ys h k = k
every_append P (x ∷ xs) ys h k = (h.0, every_append P xs ys h.1 k)

differ : (x y : ℕ) (f : ℕ → Bool) → f x ≡ true → f y ≡ false → nat_eq x y ≡ false
differ x y f here there = false_from_ne_true (nat_eq x y) (λ e. both_ways (f x) (ap f (eqb-true x y e) ∙ there) here)

-- those of the first list pass a test that those of the second fail
distinct_both : (f : ℕ → Bool) (xs ys : List ℕ) → IsDistinct nat_eq xs → IsDistinct nat_eq ys
    → AllByRecursion (λ x. f x ≡ true) xs → AllByRecursion (λ y. f y ≡ false) ys → IsDistinct nat_eq (xs ++ ys)
distinct_both f [] ys d e pass fail = e
distinct_both f (x ∷ xs) ys d e pass fail =
    IsDistinct-cons nat_eq x (xs ++ ys)
    (every_append (λ y. nat_eq x y ≡ false) xs ys (IsDistinct-head nat_eq x xs d)
    (every_weaker (λ y. f y ≡ false) (λ y. nat_eq x y ≡ false) (λ y. differ x y f pass.0) ys fail))
    (distinct_both f xs ys (IsDistinct-tail nat_eq x xs d) e pass.1 fail)

among_more : (x : ℕ) (xs ys : List ℕ) → AllByRecursion (λ y. list_any (nat_eq y) xs ≡ true) ys
    → AllByRecursion (λ y. list_any (nat_eq y) (x ∷ xs) ≡ true) ys
among_more x xs ys h =
    every_weaker (λ y. list_any (nat_eq y) xs ≡ true) (λ y. list_any (nat_eq y) (x ∷ xs) ≡ true)
    (λ y e. ap (λ b. nat_eq y x || b) e ∙ or-true (nat_eq y x)) ys h

-- each is among them
among : (xs : List ℕ) → AllByRecursion (λ x. list_any (nat_eq x) xs ≡ true) xs
among [] = tt
among (x ∷ xs) = (ap (λ b. b || list_any (nat_eq x) xs) (eq-eqb x x refl), among_more x xs xs (among xs))

-- ---- those of a numbered list that pass a test

-- none of them is below the first number, and none stands twice
kept_distinct : (p : Pair → Bool) (k : ℕ) (ps : List Pair) → AreNumberedFrom number k ps
    → IsDistinct nat_eq (map number (filter p ps)) × AllByRecursion (λ n. k ≤ n) (map number (filter p ps))
kept_distinct p k [] from = (none_twice nat_eq, tt)
kept_distinct p k (x ∷ ps) from =
    let rest = kept_distinct p (suc k) ps from.1 in
    let above = every_weaker (λ n. suc k ≤ n) (λ n. k ≤ n) (λ n low. omega (arith, low)) (map number (filter p ps))
    rest.1 in
    let first = from.0 in
    by_bool
    (λ b. IsDistinct nat_eq (map number (cond b (x ∷ filter p ps) (filter p ps)))
    × AllByRecursion (λ n. k ≤ n) (map number (cond b (x ∷ filter p ps) (filter p ps))))
    (p x)
    (λ _. (
      IsDistinct-cons nat_eq (number x) (map number (filter p ps))
          (every_weaker (λ n. suc k ≤ n) (λ n. nat_eq (number x) n ≡ false)
          (λ n low. ne_eqb (number x) n (λ e. omega (arith, e, low, first))) (map number (filter p ps)) rest.1)
          rest.0,
      (omega (arith, first), above),
    ))
    (λ _. (rest.0, above))

-- what fails a test by its number has a number that fails it
failed : (f : ℕ → Bool) (ps : List Pair)
    → AllByRecursion (λ n. f n ≡ false) (map number (filter (λ p. not (f (number p))) ps))
failed f [] = tt
failed f (x ∷ ps) =
    by_bool
    (λ b. f (number x) ≡ b
    → AllByRecursion (λ n. f n ≡ false)
    (map number (cond (not b) (x ∷ filter (λ p. not (f (number p))) ps) (filter (λ p. not (f (number p))) ps))))
    (f (number x)) (λ _ _. failed f ps) (λ _ fails. (fails, failed f ps)) refl

-- ---- all is collected

-- the number is that of one of these, of which each is so
numbered_one : (P : Pair → Type 0) (n : ℕ) (ps : List Pair) → All P ps → HasNumber n ps
    → (p : Pair) × (P p × (number p ≡ n))
numbered_one P n [] all has = absurd (let z : false ≡ true = has in cc)
numbered_one P n (x ∷ ps) all has =
    by_bool
    (λ b. nat_eq n (number x) ≡ b → (b || list_any (nat_eq n) (map number ps)) ≡ true
    → (p : Pair) × (P p × (number p ≡ n)))
    (nat_eq n (number x)) (λ _ is _. (x, (All-head P x ps all, sym (eqb-true n (number x) is))))
    (λ _ _ rest. numbered_one P n ps (All-tail P x ps all) rest) refl has

-- one that stands in a list and passes has its number among those that pass
has_number_of : (q : Pair → Bool) (ps : List Pair) (k : ℕ) (p : Pair) → slice_get ps k ≡ Some p → q p ≡ true
    → HasNumber (number p) (filter q ps)
has_number_of q [] k p at pass = absurd (cc)
has_number_of q (x ∷ ps) zero p at pass =
    let same : x ≡ p = same_some x p at in
    ap (λ b. list_any (nat_eq (number p)) (map number (cond b (x ∷ filter q ps) (filter q ps)))) (ap q same ∙ pass)
    ∙ ap (λ b. b || list_any (nat_eq (number p)) (map number (filter q ps)))
    (eq-eqb (number p) (number x) (ap number (sym same)))
  where
    same_some : (x p : Pair) → Some x ≡ Some p → x ≡ p
    same_some x p e = cc
has_number_of q (x ∷ ps) (suc k) p at pass =
    let there = has_number_of q ps k p at pass in
    by_bool (λ b. list_any (nat_eq (number p)) (map number (cond b (x ∷ filter q ps) (filter q ps))) ≡ true) (q x)
    (λ _. ap (λ b. nat_eq (number p) (number x) || b) there ∙ or-true (nat_eq (number p) (number x))) (λ _. there)

module _ (ans : List Pair) (from : AreNumberedFrom number 0 ans) (pairs : List Pair)
    (once : IsDistinct nat_eq (map number pairs)) (told : All (λ p. slice_get ans (number p) ≡ Some p) pairs) where
  abbrev is_told : ℕ → Bool
  is_told n = list_any (nat_eq n) (map number pairs)

  abbrev rest : List Pair
  rest = filter (λ p. not (is_told (number p))) ans

  abbrev IsAt : Pair → Type 0
  IsAt p = slice_get ans (number p) ≡ Some p

  at_number : (k : ℕ) (p : Pair) → slice_get ans k ≡ Some p → number p ≡ k
  at_number k p at = let e = number_at number 0 k ans p from at in omega (arith, e)

  pub all_coded : All IsAt (pairs ++ rest)
  all_coded =
      All-append IsAt pairs rest told
      (All-filter (λ p. not (is_told (number p))) IsAt ans
      (all_from IsAt ans (λ k p at. ap (slice_get ans) (at_number k p at) ∙ at)))

  numbers_both : map number (pairs ++ rest) ≡ map number pairs ++ map number rest
  numbers_both = map-append number pairs rest

  pub all_once : IsDistinct nat_eq (map number (pairs ++ rest))
  all_once =
      rw numbers_both
      (distinct_both is_told (map number pairs) (map number rest) once
      (kept_distinct (λ p. not (is_told (number p))) 0 ans from).0 (among (map number pairs)) (failed is_told ans))

  has_both : (n : ℕ) → list_any (nat_eq n) (map number (pairs ++ rest))
      ≡ (is_told n || list_any (nat_eq n) (map number rest))
  has_both n = ap (list_any (nat_eq n)) numbers_both ∙ list_any-append (nat_eq n) (map number pairs) (map number rest)

  pub all_each : (n : ℕ) → n < length ans ↔ HasNumber n (pairs ++ rest)
  all_each n = (there, within)
    where
      there : n < length ans → HasNumber n (pairs ++ rest)
      there below =
          let (p, at) = got ans n below in
          let is = at_number n p at in
          has_both n
          ∙ by_bool (λ b. is_told n ≡ b → (b || list_any (nat_eq n) (map number rest)) ≡ true) (is_told n) (λ _ _. refl)
          (λ _ fails. rw is at
          (has_number_of (λ q. not (is_told (number q))) ans n p at (ap (λ k. not (is_told k)) is ∙ ap not fails))) refl

      within : HasNumber n (pairs ++ rest) → n < length ans
      within has =
          let (p, (at, is)) = numbered_one IsAt n (pairs ++ rest) all_coded has in
          rw is at (slice_get_within ans (number p) p at)
