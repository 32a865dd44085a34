-- Rows stand for one image at most, but for free slots at its end, and so for the same tables.
use Rattle.xa_base.proofs.{◌≡◌, ℕ, zero, suc, ◌+◌, ◌≤◌, ℤ, pos, List, [], ◌∷◌, length, map, Option, None, Some}
use Rattle.xa_base.proofs.{option_map, refl, ap, sym, ◌∙◌, arith, same_Some}
use Rattle.sqlite_value.specs.declared.value.Value.TheVariants.{Int, Text, Blob}
use Rattle.sqlite_value.specs.Order.{Row}
use Rattle.sqlite_trees.specs.Tree.{Trees}
use Rattle.xa_words.specs.{XidName}
use Rattle.xa_tables.specs.{stored, restored, Commit, Rollback}
use Rattle.xa_slots.specs.{Slot, rows_from}
use Rattle.xa_store_sqlite.specs.declared.mirror.Left.TheVariants.{Prepared, Completed}
use Rattle.xa_store_sqlite.specs.{StoredBranch, Change, HasImage, Image, Left, account_cells, branch_cells}
use Rattle.xa_store_sqlite.specs.{change_cells, left_in_slots, branch_name_at, state_of_left, item_at as at, state_text}
use Rattle.xa_store_sqlite.specs.{sums_of, tables_of_image, with_sum}

-- ---- rows of slots

abbrev rowid_in : Row → ℕ
rowid_in (Int (pos n) ∷ cells) = n
rowid_in _ = 0

abbrev cells_in : Row → Row
cells_in [] = []
cells_in (id ∷ cells) = cells

abbrev first_of : List Row → Row
first_of [] = []
first_of (row ∷ rows) = row

abbrev later_of : List Row → List Row
later_of [] = []
later_of (row ∷ rows) = rows

none_there : (row : Row) (rows : List Row) → [] ≡ row ∷ rows → ⊥
none_there row rows e = let z : 0 ≡ suc (length rows) = ap length e in omega (arith, z)

-- each row is that of the first slot or of a later one
above : (n : ℕ) (xs : List Slot) (row : Row) (rest : List Row) → rows_from n xs ≡ row ∷ rest → n ≤ rowid_in row
above n [] row rest e = absurd (none_there row rest e)
above n (None ∷ xs) row rest e = let le : suc n ≤ rowid_in row = above (suc n) xs row rest e in omega (arith, le)
above n (Some cells ∷ xs) row rest e =
    let same : n ≡ rowid_in row = ap (λ (rows : List Row). rowid_in (first_of rows)) e in omega (arith, same)

not_later : (n : ℕ) (xs : List Slot) (cells : Row) (rest : List Row)
    → rows_from (suc n) xs ≡ (Int (pos n) ∷ cells) ∷ rest → ⊥
not_later n xs cells rest e = let le : suc n ≤ n = above (suc n) xs (Int (pos n) ∷ cells) rest e in omega (arith, le)

pub same_slots : (n : ℕ) (xs ys : List Slot) → rows_from n xs ≡ rows_from n ys → (k : ℕ) → at xs k ≡ at ys k
same_slots n [] [] e k = refl
same_slots n [] (None ∷ ys) e zero = refl
same_slots n [] (None ∷ ys) e (suc k) = same_slots (suc n) [] ys e k
same_slots n [] (Some d ∷ ys) e k = absurd (none_there (Int (pos n) ∷ d) (rows_from (suc n) ys) e)
same_slots n (None ∷ xs) [] e zero = refl
same_slots n (None ∷ xs) [] e (suc k) = same_slots (suc n) xs [] e k
same_slots n (Some c ∷ xs) [] e k = absurd (none_there (Int (pos n) ∷ c) (rows_from (suc n) xs) (sym e))
same_slots n (None ∷ xs) (None ∷ ys) e zero = refl
same_slots n (None ∷ xs) (None ∷ ys) e (suc k) = same_slots (suc n) xs ys e k
same_slots n (None ∷ xs) (Some d ∷ ys) e k = absurd (not_later n xs d (rows_from (suc n) ys) e)
same_slots n (Some c ∷ xs) (None ∷ ys) e k = absurd (not_later n ys c (rows_from (suc n) xs) (sym e))
same_slots n (Some c ∷ xs) (Some d ∷ ys) e zero = ap (λ (rows : List Row). Some (cells_in (first_of rows))) e
same_slots n (Some c ∷ xs) (Some d ∷ ys) e (suc k) = same_slots (suc n) xs ys (ap later_of e) k

-- ---- rows of values

abbrev text_first : Row → List ℕ
text_first (id ∷ Text t ∷ more) = t
text_first _ = []

abbrev number_second : Row → ℕ
number_second (id ∷ name ∷ Int (pos v) ∷ more) = v
number_second _ = 0

pub account_same : (a b : List ℕ × ℕ) → account_cells a ≡ account_cells b → a ≡ b
account_same a b e = ap (λ k. (k, a.1)) (ap text_first e) ∙ ap (λ v. (b.0, v)) (ap number_second e)

abbrev int_first : Row → ℤ
int_first (id ∷ Int n ∷ more) = n
int_first _ = pos 0

abbrev int_second : Row → ℤ
int_second (id ∷ a ∷ Int n ∷ more) = n
int_second _ = pos 0

abbrev blob_second : Row → List ℕ
blob_second (id ∷ a ∷ Blob b ∷ more) = b
blob_second _ = []

abbrev blob_third : Row → List ℕ
blob_third (id ∷ a ∷ b ∷ Blob c ∷ more) = c
blob_third _ = []

abbrev text_fourth : Row → List ℕ
text_fourth (id ∷ a ∷ b ∷ c ∷ Text t ∷ more) = t
text_fourth _ = []

pub state_same : (s t : Left) → state_text s ≡ state_text t → s ≡ t
state_same Prepared Prepared e = refl
state_same Prepared (Completed Commit) e = let z : 8 ≡ 23 = ap length e in absurd (omega (arith, z))
state_same Prepared (Completed Rollback) e = let z : 8 ≡ 25 = ap length e in absurd (omega (arith, z))
state_same (Completed Commit) Prepared e = let z : 23 ≡ 8 = ap length e in absurd (omega (arith, z))
state_same (Completed Commit) (Completed Commit) e = refl
state_same (Completed Commit) (Completed Rollback) e = let z : 23 ≡ 25 = ap length e in absurd (omega (arith, z))
state_same (Completed Rollback) Prepared e = let z : 25 ≡ 8 = ap length e in absurd (omega (arith, z))
state_same (Completed Rollback) (Completed Commit) e = let z : 25 ≡ 23 = ap length e in absurd (omega (arith, z))
state_same (Completed Rollback) (Completed Rollback) e = refl

abbrev name_of : ℤ → List ℕ → List ℕ → XidName
name_of format gtrid bqual = record { format = format; gtrid = gtrid; bqual = bqual }

pub branch_same : (a b : StoredBranch) → branch_cells a ≡ branch_cells b → a ≡ b
branch_same a b e =
    ap (λ f. (name_of f a.0.gtrid a.0.bqual, a.1)) (ap int_first e)
    ∙ ap (λ g. (name_of b.0.format g a.0.bqual, a.1)) (ap blob_second e)
    ∙ ap (λ q. (name_of b.0.format b.0.gtrid q, a.1)) (ap blob_third e)
    ∙ ap (λ s. (b.0, s)) (state_same a.1 b.1 (ap text_fourth e))

abbrev nat_first : Row → ℕ
nat_first (id ∷ Int (pos n) ∷ more) = n
nat_first _ = 0

abbrev change_of : ℕ → ℤ → Change
change_of branch delta = record { branch = branch; delta = delta }

pub change_same : (a b : Change) → change_cells a ≡ change_cells b → a ≡ b
change_same a b e =
    let ids : a.branch + 1 ≡ b.branch + 1 = ap nat_first e in
    let slots : a.branch ≡ b.branch = omega (arith, ids) in
    ap (λ s. change_of s a.delta) slots ∙ ap (λ d. change_of b.branch d) (ap int_second e)

-- ---- lists of slots

module _ {A : Type 0} (cells : A → Row) (same : (a b : A) → cells a ≡ cells b → a ≡ b) where
  at_map : (xs : List (Option A)) (k : ℕ) → at (map (λ x. option_map cells x) xs) k ≡ option_map cells (at xs k)
  at_map [] k = refl
  at_map (x ∷ xs) zero = refl
  at_map (x ∷ xs) (suc k) = at_map xs k

  same_option : (x y : Option A) → option_map cells x ≡ option_map cells y → x ≡ y
  same_option None None e = refl
  same_option None (Some b) e = let z : None ≡ Some (cells b) = e in cc
  same_option (Some a) None e = let z : Some (cells a) ≡ None = e in cc
  same_option (Some a) (Some b) e = ap Some (same a b (same_Some _ _ e))

  pub options_same : (xs ys : List (Option A))
      → rows_from 1 (map (λ x. option_map cells x) xs) ≡ rows_from 1 (map (λ y. option_map cells y) ys) → (k : ℕ)
      → at xs k ≡ at ys k
  options_same xs ys e k =
      same_option (at xs k) (at ys k) (sym (at_map xs k) ∙ same_slots 1 _ _ e k ∙ at_map ys k)

accounts_by : (us bs : List (List ℕ × ℕ))
    → ((k : ℕ) → at (map (λ a. Some (account_cells a)) us) k ≡ at (map (λ b. Some (account_cells b)) bs) k) → us ≡ bs
accounts_by [] [] e = refl
accounts_by [] (b ∷ bs) e = let z : None ≡ Some (account_cells b) = e 0 in cc
accounts_by (a ∷ us) [] e = let z : Some (account_cells a) ≡ None = e 0 in cc
accounts_by (a ∷ us) (b ∷ bs) e =
    ap (λ x. x ∷ us) (account_same a b (same_Some _ _ (e 0))) ∙ ap (λ xs. b ∷ xs) (accounts_by us bs (λ k. e (suc k)))

-- ---- what stands for the manager

left_none : (ys : List (Option StoredBranch)) → ((k : ℕ) → None ≡ at ys k) → [] ≡ left_in_slots ys
left_none [] e = refl
left_none (None ∷ ys) e = left_none ys (λ k. e (suc k))
left_none (Some b ∷ ys) e = let z : None ≡ Some b = e 0 in cc

left_same : (xs ys : List (Option StoredBranch)) → ((k : ℕ) → at xs k ≡ at ys k) → left_in_slots xs ≡ left_in_slots ys
left_same [] ys e = left_none ys e
left_same (x ∷ xs) [] e = sym (left_none (x ∷ xs) (λ k. sym (e k)))
left_same (None ∷ xs) (None ∷ ys) e = left_same xs ys (λ k. e (suc k))
left_same (None ∷ xs) (Some b ∷ ys) e = let z : None ≡ Some b = e 0 in cc
left_same (Some a ∷ xs) (None ∷ ys) e = let z : Some a ≡ None = e 0 in cc
left_same (Some a ∷ xs) (Some b ∷ ys) e =
    ap (λ s. left_in_slots (s ∷ xs)) (e 0)
    ∙ ap (λ rest. (b.0, state_of_left b.1) ∷ rest) (left_same xs ys (λ k. e (suc k)))

name_is : (xs : List (Option StoredBranch)) (k : ℕ) → branch_name_at xs k ≡ option_map (λ b. b.0) (at xs k)
name_is [] k = refl
name_is (x ∷ xs) zero = refl
name_is (x ∷ xs) (suc k) = name_is xs k

name_same : (xs ys : List (Option StoredBranch)) → ((k : ℕ) → at xs k ≡ at ys k) → (k : ℕ)
    → branch_name_at xs k ≡ branch_name_at ys k
name_same xs ys e k = name_is xs k ∙ ap (λ b. option_map (λ (b : StoredBranch). b.0) b) (e k) ∙ sym (name_is ys k)

module _ (xs ys : List (Option StoredBranch)) (e : (k : ℕ) → at xs k ≡ at ys k) where
  sums_none : (us : List (List ℕ × ℕ)) (ds : List (Option Change)) → ((k : ℕ) → None ≡ at ds k) → [] ≡ sums_of ys us ds
  sums_none [] ds f = refl
  sums_none (a ∷ us) [] f = refl
  sums_none (a ∷ us) (None ∷ ds) f = sums_none us ds (λ k. f (suc k))
  sums_none (a ∷ us) (Some d ∷ ds) f = let z : None ≡ Some d = f 0 in cc

  nones_sum : (us : List (List ℕ × ℕ)) (ds : List (Option Change)) → ((k : ℕ) → None ≡ at ds k) → sums_of xs us ds ≡ []
  nones_sum [] ds f = refl
  nones_sum (a ∷ us) [] f = refl
  nones_sum (a ∷ us) (None ∷ ds) f = nones_sum us ds (λ k. f (suc k))
  nones_sum (a ∷ us) (Some d ∷ ds) f = let z : None ≡ Some d = f 0 in cc

  sums_same : (us : List (List ℕ × ℕ)) (cs ds : List (Option Change)) → ((k : ℕ) → at cs k ≡ at ds k)
      → sums_of xs us cs ≡ sums_of ys us ds
  sums_same [] cs ds f = refl
  sums_same (a ∷ us) [] ds f = sums_none (a ∷ us) ds f
  sums_same (a ∷ us) (c ∷ cs) [] f = nones_sum (a ∷ us) (c ∷ cs) (λ k. sym (f k))
  sums_same (a ∷ us) (None ∷ cs) (None ∷ ds) f = sums_same us cs ds (λ k. f (suc k))
  sums_same (a ∷ us) (None ∷ cs) (Some d ∷ ds) f = let z : None ≡ Some d = f 0 in cc
  sums_same (a ∷ us) (Some c ∷ cs) (None ∷ ds) f = let z : Some c ≡ None = f 0 in cc
  sums_same (a ∷ us) (Some c ∷ cs) (Some d ∷ ds) f =
      ap (λ x. sums_of xs (a ∷ us) (x ∷ cs)) (f 0)
      ∙ ap (λ name. with_sum a.0 d.delta name (sums_of xs us cs)) (name_same xs ys e d.branch)
      ∙ ap (λ rest. with_sum a.0 d.delta (branch_name_at ys d.branch) rest) (sums_same us cs ds (λ k. f (suc k)))

pub same_tables : (i j : Image) (trees : Trees) → HasImage i trees → HasImage j trees
    → tables_of_image i ≡ tables_of_image j
same_tables i j trees a b =
    let accounts = accounts_by i.accounts j.accounts (same_slots 1 _ _ (sym (a 0 (omega arith)) ∙ b 0 (omega arith))) in
    let branches =
    options_same branch_cells branch_same i.branches j.branches (sym (a 1 (omega arith)) ∙ b 1 (omega arith)) in
    let changes =
    options_same change_cells change_same i.changes j.changes (sym (a 2 (omega arith)) ∙ b 2 (omega arith)) in
    ap (λ us. restored (stored us (left_in_slots i.branches) (sums_of i.branches us i.changes))) accounts
    ∙ ap (λ left. restored (stored j.accounts left (sums_of i.branches j.accounts i.changes)))
    (left_same i.branches j.branches branches)
    ∙ ap (λ sums. restored (stored j.accounts (left_in_slots j.branches) sums))
    (sums_same i.branches j.branches branches j.accounts i.changes j.changes changes)
