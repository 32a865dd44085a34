-- What an opening takes from the copy of a file.
use Rattle.xa_base.proofs.{◌≡◌, ℕ, zero, suc, ℤ, ◌+◌, ◌<◌, List, [], ◌∷◌, ◌++◌, length, take, get_or, Option, None}
use Rattle.xa_base.proofs.{Some, refl, ap, sym, ◌∙◌, arith, one_more, option_map, slice_get, slice_get_past, Bor}
use Rattle.std.specs.Slice.{IsItemAt}
use Rattle.xa_words.specs.{XidName}
use Rattle.xa_tables.specs.{State, Sum}
use Rattle.xa_store_sqlite.specs.{StoredBranch, Change, item_at, left_in_slots, branch_name_at, state_of_left, sums_of}
use Rattle.xa_store_sqlite.specs.{with_sum}
use Rattle.xa_store_sqlite.specs.Files.{sum_of_change}
use Rattle.xa_store_sqlite.proofs.Branches.{name_is}

left_push : (bs : List (Option StoredBranch)) (b : Option StoredBranch)
    → left_in_slots (bs ++ b ∷ []) ≡ left_in_slots bs ++ left_in_slots (b ∷ [])
left_push [] b = refl
left_push (None ∷ bs) b = left_push bs b
left_push (Some c ∷ bs) b = ap (λ (l : List (XidName × State)). (c.0, state_of_left c.1) ∷ l) (left_push bs b)

pub next_left : (bs : List (Option StoredBranch)) (n : ℕ) (b : Option StoredBranch) (old new : List (XidName × State))
    → n < length bs → b ≡ get_or bs n b
    → old ≡ left_in_slots (take n bs) → new ≡ old ++ left_in_slots (b ∷ []) → new ≡ left_in_slots (take (n + 1) bs)
next_left bs n b old new within is so made =
    made ∙ ap (λ l. l ++ left_in_slots (b ∷ [])) so ∙ sym (left_push (take n bs) b)
    ∙ ap left_in_slots (sym (one_more bs n b within is))

pub name_from : (bs : List (Option StoredBranch)) (slot : ℕ) (o : Option StoredBranch) → item_at bs slot ≡ o
    → option_map (λ b. b.0) o ≡ branch_name_at bs slot
name_from bs slot o is = sym (name_is bs slot ∙ ap (λ (p : Option StoredBranch). option_map (λ b. b.0) p) is)

-- ---- sums

abbrev Account : Type 0
Account = List ℕ × ℕ

pub sums_nothing : (bs : List (Option StoredBranch)) (us : List Account) → sums_of bs us [] ≡ []
sums_nothing bs [] = refl
sums_nothing bs (a ∷ us) = refl

with_more : (key : List ℕ) (d : ℤ) (name : Option XidName) (xs ys : List Sum)
    → with_sum key d name (xs ++ ys) ≡ with_sum key d name xs ++ ys
with_more key d None xs ys = refl
with_more key d (Some x) xs ys = refl

sum_push : (bs : List (Option StoredBranch)) (us : List Account) (cs : List (Option Change)) (n : ℕ) (c : Option Change)
    → n < length cs → c ≡ get_or cs n c
    → sums_of bs us (take (suc n) cs) ≡ sums_of bs us (take n cs) ++ sum_of_change bs (slice_get us n) c
sum_push bs [] cs n c within is = refl
sum_push bs (a ∷ us) [] n c within is = absurd (omega (arith, within))
sum_push bs (a ∷ us) (None ∷ cs) zero c within is = sums_nothing bs us ∙ ap (sum_of_change bs (Some a)) (sym is)
sum_push bs (a ∷ us) (Some d ∷ cs) zero c within is =
    ap (with_sum a.0 d.delta (branch_name_at bs d.branch)) (sums_nothing bs us)
    ∙ ap (sum_of_change bs (Some a)) (sym is)
sum_push bs (a ∷ us) (None ∷ cs) (suc n) c within is = sum_push bs us cs n c (omega (arith, within)) is
sum_push bs (a ∷ us) (Some d ∷ cs) (suc n) c within is =
    ap (with_sum a.0 d.delta (branch_name_at bs d.branch)) (sum_push bs us cs n c (omega (arith, within)) is)
    ∙ with_more a.0 d.delta (branch_name_at bs d.branch) (sums_of bs us (take n cs))
    (sum_of_change bs (slice_get us n) c)

pub next_sum : (bs : List (Option StoredBranch)) (us : List Account) (cs : List (Option Change)) (n : ℕ)
    (c : Option Change)
    (old new : List Sum)
    → n < length cs
    → c ≡ get_or cs n c → old ≡ sums_of bs us (take n cs) → new ≡ old ++ sum_of_change bs (slice_get us n) c
    → new ≡ sums_of bs us (take (n + 1) cs)
next_sum bs us cs n c old new within is so made =
    let one : suc n ≡ n + 1 = omega arith in
    made ∙ ap (λ l. l ++ sum_of_change bs (slice_get us n) c) so ∙ sym (sum_push bs us cs n c within is)
    ∙ ap (λ (m : ℕ). sums_of bs us (take m cs)) one

-- no account was read at a place
pub read_no_account : (items got : List Account) (k : ℕ) (r : Option (Bor Account)) → got ≡ items → IsItemAt got k r
    → option_map (λ (x : Bor Account). x.now) r ≡ None → slice_get items k ≡ None
read_no_account items got k None same lookup is = ap (λ xs. slice_get xs k) (sym same) ∙ slice_get_past got k lookup.3
read_no_account items got k (Some b) same lookup is = let z : Some b.now ≡ None = is in cc
