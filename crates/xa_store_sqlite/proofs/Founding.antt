-- The look-ups of a new copy: where branches and accounts stand in it.
use Rattle.xa_base.proofs.{◌≡◌, ℕ, zero, suc, ◌+◌, ◌<◌, Bool, true, false, cond, if◌then◌else◌, List, [], ◌∷◌, ◌++◌}
use Rattle.xa_base.proofs.{length, take, get_or, Option, None, Some, AllByRecursion, IsDistinct, IsDistinct-head}
use Rattle.xa_base.proofs.{IsDistinct-tail, get_or_read, subst, option_or, refl, ap, sym, ◌∙◌, arith, by_bool, one_more}
use Rattle.xa_base.proofs.{length-take-le, take_all}
use Rattle.xa_words.specs.{XidName, key_eq, Decides-key_eq}
use Rattle.xa_store_sqlite.specs.{NoBranchTwice, StoredBranch, is_of_branch, item_at, keys_of_accounts}
use Rattle.xa_store_sqlite.specs.{first_place_from}
use Rattle.xa_store_sqlite.proofs.Branches.{item_is, place_none}
use Rattle.xa_store_sqlite.proofs.Putting.{swap_key}

-- the place of the first item that passes, with one item more
place_push : {A : Type 0} (test : A → Bool) (n : ℕ) (xs : List A) (x : A)
    → first_place_from test n (xs ++ x ∷ []) ≡ option_or (first_place_from test n xs)
    (if test x then Some (n + length xs) else None)
place_push test n [] x = ap (λ (m : ℕ). if test x then Some m else None) (omega arith)
place_push test n (y ∷ xs) x =
    by_bool (λ b. (if b then Some n else first_place_from test (suc n) (xs ++ x ∷ []))
    ≡ option_or (if b then Some n else first_place_from test (suc n) xs)
    (if test x then Some (n + length (y ∷ xs)) else None)) (test y)
    (λ _. refl)
    (λ _. place_push test (suc n) xs x
    ∙ ap (λ (m : ℕ). option_or (first_place_from test (suc n) xs) (if test x then Some m else None)) (omega arith))

-- so many items, of which the next doesn't pass
pub place_passed : {A : Type 0} (test : A → Bool) (xs : List A) (n : ℕ) (x : A) → n < length xs → x ≡ get_or xs n x
    → test x ≡ false
    → first_place_from test 0 (take (n + 1) xs) ≡ first_place_from test 0 (take n xs)
place_passed test xs n x within is off =
    ap (first_place_from test 0) (one_more xs n x within is) ∙ place_push test 0 (take n xs) x
    ∙ ap (λ b. option_or (first_place_from test 0 (take n xs)) (if b then Some (0 + length (take n xs)) else None)) off
    ∙ or_none (first_place_from test 0 (take n xs))
  where
    or_none : (o : Option ℕ) → option_or o None ≡ o
    or_none None = refl
    or_none (Some v) = refl

-- so many items, of which the next is the first that passes
pub place_first : {A : Type 0} (test : A → Bool) (xs : List A) (n : ℕ) (x : A) → n < length xs → x ≡ get_or xs n x
    → test x ≡ true
    → first_place_from test 0 (take n xs) ≡ None → first_place_from test 0 (take (n + 1) xs) ≡ Some n
place_first test xs n x within is on none =
    let long : length (take n xs) ≡ n = length-take-le n xs (omega (arith, within)) in
    let last : 0 + length (take n xs) ≡ n = omega (arith, long) in
    ap (first_place_from test 0) (one_more xs n x within is) ∙ place_push test 0 (take n xs) x
    ∙ ap (λ o. option_or o (if test x then Some (0 + length (take n xs)) else None)) none
    ∙ ap (λ b. if b then Some (0 + length (take n xs)) else None) on ∙ ap (λ (m : ℕ). Some m) last

-- ---- branches

item_taken : (n : ℕ) (bs : List (Option StoredBranch)) (k : ℕ) (x : XidName)
    → is_of_branch x (item_at (take n bs) k) ≡ true
    → (k < n) × (is_of_branch x (item_at bs k) ≡ true)
item_taken zero bs k x on = let z : false ≡ true = on in cc
item_taken (suc n) [] k x on = let z : false ≡ true = on in cc
item_taken (suc n) (b ∷ bs) zero x on = (omega arith, on)
item_taken (suc n) (b ∷ bs) (suc k) x on =
    let rest = item_taken n bs k x on in
    let less : k < n = rest.0 in
    (omega (arith, less), rest.1)

-- a branch that stands in a slot stands in none before it
none_taken : (bs : List (Option StoredBranch)) (n : ℕ) (x : XidName) → NoBranchTwice bs
    → is_of_branch x (item_at bs n) ≡ true
    → first_place_from (is_of_branch x) 0 (take n bs) ≡ None
none_taken bs n x apart on =
    place_none (is_of_branch x) 0 (take n bs) (λ k.
    by_bool (λ b. is_of_branch x (item_at (take n bs) k) ≡ b → is_of_branch x (item_at (take n bs) k) ≡ false)
    (is_of_branch x (item_at (take n bs) k))
    (λ _ at.
    let was = item_taken n bs k x at in
    let same : k ≡ n = apart k n x was.1 on in
    let less : k < n = was.0 in
    absurd (omega (arith, same, less)))
    (λ _ off. off) refl)

pub next_slot : (bs : List (Option StoredBranch)) (n : ℕ) (b : Option StoredBranch) (x : XidName)
    (before after : Option ℕ)
    → NoBranchTwice bs → n < length bs
    → b ≡ get_or bs n b
    → before ≡ first_place_from (is_of_branch x) 0 (take n bs) → after ≡ (if is_of_branch x b then Some n else before)
    → after ≡ first_place_from (is_of_branch x) 0 (take (n + 1) bs)
next_slot bs n b x before after apart within is so made =
    by_bool (λ t. is_of_branch x b ≡ t → after ≡ first_place_from (is_of_branch x) 0 (take (n + 1) bs))
    (is_of_branch x b)
    (λ _ on.
    let there : item_at bs n ≡ b = item_is bs n ∙ sym (get_or_read bs n b within is None) in
    made ∙ ap (λ t. if t then Some n else before) on
    ∙ sym (place_first (is_of_branch x) bs n b within is on (none_taken bs n x apart (ap (is_of_branch x) there ∙ on))))
    (λ _ off. made ∙ ap (λ t. if t then Some n else before) off ∙ so
    ∙ sym (place_passed (is_of_branch x) bs n b within is off)) refl

-- ---- accounts

abbrev Account : Type 0
Account = List ℕ × ℕ

there_each : (P : List ℕ → Type 0) (us : List Account) (n : ℕ) (a : Account) → AllByRecursion P (keys_of_accounts us)
    → n < length us → a ≡ get_or us n a → P a.0
there_each P [] n a all within is = absurd (omega (arith, within))
there_each P (u ∷ us) zero a all within is = subst (λ (d : Account). P d.0) (sym is) all.0
there_each P (u ∷ us) (suc n) a all within is = there_each P us n a all.1 (omega (arith, within)) is

key_not_yet : (m : ℕ) (us : List Account) (n : ℕ) (a : Account) (k : List ℕ) → k ≡ a.0
    → IsDistinct key_eq (keys_of_accounts us)
    → n < length us → a ≡ get_or us n a
    → first_place_from (λ (b : Account). key_eq k b.0) m (take n us) ≡ None
key_not_yet m [] n a k same apart within is = absurd (omega (arith, within))
key_not_yet m (u ∷ us) zero a k same apart within is = refl
key_not_yet m (u ∷ us) (suc n) a k same apart within is =
    let head =
    there_each (λ l. key_eq u.0 l ≡ false) us n a (IsDistinct-head key_eq u.0 (keys_of_accounts us) apart)
    (omega (arith, within)) is in
    ap (λ b. if b then Some m else first_place_from (λ (c : Account). key_eq k c.0) (suc m) (take n us))
    (ap (λ l. key_eq l u.0) same ∙ swap_key a.0 u.0 ∙ head)
    ∙ key_not_yet (suc m) us n a k same (IsDistinct-tail key_eq u.0 (keys_of_accounts us) apart) (omega (arith, within))
    is

pub next_place : (us : List Account) (n : ℕ) (a : Account) (k : List ℕ) (before after : Option ℕ)
    → IsDistinct key_eq (keys_of_accounts us) → n < length us
    → a ≡ get_or us n a
    → before ≡ first_place_from (λ (b : Account). key_eq k b.0) 0 (take n us)
    → after ≡ cond (key_eq a.0 k) (Some n) before
    → after ≡ first_place_from (λ (b : Account). key_eq k b.0) 0 (take (n + 1) us)
next_place us n a k before after apart within is so made =
    by_bool (λ t. key_eq k a.0 ≡ t → after ≡ first_place_from (λ (b : Account). key_eq k b.0) 0 (take (n + 1) us))
    (key_eq k a.0)
    (λ _ on.
    made ∙ ap (λ t. cond t (Some n) before) (swap_key a.0 k ∙ on)
    ∙ sym
    (place_first (λ (b : Account). key_eq k b.0) us n a within is on
    (key_not_yet 0 us n a k ((Decides-key_eq k a.0).0 on) apart within is)))
    (λ _ off. made ∙ ap (λ t. cond t (Some n) before) (swap_key a.0 k ∙ off) ∙ so
    ∙ sym (place_passed (λ (b : Account). key_eq k b.0) us n a within is off)) refl

-- all of them
pub all_places : {A : Type 0} (test : A → Bool) (xs : List A) (n : ℕ) → n ≡ length xs
    → first_place_from test 0 (take n xs) ≡ first_place_from test 0 xs
all_places test xs n count =
    ap (λ (m : ℕ). first_place_from test 0 (take m xs)) count
    ∙ ap (first_place_from test 0) (take_all (length xs) xs (omega arith))
