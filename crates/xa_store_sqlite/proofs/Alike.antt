-- Two images with the rows of one file stand for the same.
use Rattle.xa_base.proofs.{◌≡◌, ℕ, zero, suc, pos, ◌+◌, List, [], ◌∷◌, ◌++◌, map, Option, None, Some, option_map, refl}
use Rattle.xa_base.proofs.{sym, ap, subst, ◌∙◌, arith}
use Rattle.sqlite_value.specs.declared.value.Value.TheVariants.{Int}
use Rattle.sqlite_value.specs.Order.{Row}
use Rattle.sqlite_trees.specs.Tree.{Trees}
use Rattle.xa_words.specs.{XidName}
use Rattle.xa_tables.specs.{stored, Sum}
use Rattle.xa_slots.specs.{Slot, rows_from}
use Rattle.xa_store_sqlite.specs.{StoredBranch, Change, HasCells, HasImage, Image, account_cells, branch_cells}
use Rattle.xa_store_sqlite.specs.{change_cells, item_at, left_in_slots, branch_name_at, slots_of, stored_of, sums_of}
use Rattle.xa_store_sqlite.specs.{with_sum}
use Rattle.xa_store_sqlite.proofs.Readback.{branch_same, change_same}
use Rattle.xa_store_sqlite.proofs.Refused.{cells_found, cells_there, item_mapped}

-- ---- slots with the same rows

same_slot : (xs ys : List Slot) → rows_from 1 xs ≡ rows_from 1 ys → (k : ℕ) (x y : Slot) → item_at xs k ≡ x
    → item_at ys k ≡ y → x ≡ y
same_slot xs ys rows k (Some a) y here there =
    sym (cells_found ys k a (subst (λ (rs : List Row). HasCells rs k a) rows (cells_there xs k a here))) ∙ there
same_slot xs ys rows k None None here there = refl
same_slot xs ys rows k None (Some b) here there =
    sym here ∙ cells_found xs k b (subst (λ (rs : List Row). HasCells rs k b) (sym rows) (cells_there ys k b there))

same_item : {A : Type 0} (f : A → Row) → ((a b : A) → f a ≡ f b → a ≡ b) → (x y : Option A)
    → option_map f x ≡ option_map f y → x ≡ y
same_item f one None None is = refl
same_item f one None (Some b) is = let z : None ≡ Some (f b) = is in cc
same_item f one (Some a) None is = let z : Some (f a) ≡ None = is in cc
same_item f one (Some a) (Some b) is = let same : f a ≡ f b = cc in ap (λ c. Some c) (one a b same)

same_items : {A : Type 0} (f : A → Row) → ((a b : A) → f a ≡ f b → a ≡ b) → (xs ys : List (Option A))
    → rows_from 1 (map (λ x. option_map f x) xs) ≡ rows_from 1 (map (λ x. option_map f x) ys) → (k : ℕ)
    → item_at xs k ≡ item_at ys k
same_items f one xs ys rows k =
    same_item f one (item_at xs k) (item_at ys k)
    (sym (item_mapped f xs k)
    ∙ same_slot (map (λ x. option_map f x) xs) (map (λ x. option_map f x) ys) rows k
    (item_at (map (λ x. option_map f x) xs) k) (item_at (map (λ x. option_map f x) ys) k)
    refl refl ∙ item_mapped f ys k)

-- ---- accounts

abbrev Account : Type 0
Account = List ℕ × ℕ

abbrev slots_in : List Account → List Slot
slots_in accounts = map (λ a. Some (account_cells a)) accounts

one_account : (a b : Account) → a.0 ≡ b.0 → a.1 ≡ b.1 → a ≡ b
one_account a b key value = ap (λ (k : List ℕ). (k, a.1)) key ∙ ap (λ (v : ℕ). (b.0, v)) value

more_accounts : (a b : Account) (xs ys : List Account) → a ≡ b → xs ≡ ys → a ∷ xs ≡ b ∷ ys
more_accounts a b xs ys own rest = ap (λ (c : Account). c ∷ xs) own ∙ ap (λ (l : List Account). b ∷ l) rest

same_accounts : (n : ℕ) (xs ys : List Account) → rows_from n (slots_in xs) ≡ rows_from n (slots_in ys) → xs ≡ ys
same_accounts n [] [] is = refl
same_accounts n [] (b ∷ ys) is =
    let z : [] ≡ (Int (pos n) ∷ account_cells b) ∷ rows_from (suc n) (slots_in ys) = is in cc
same_accounts n (a ∷ xs) [] is =
    let z : (Int (pos n) ∷ account_cells a) ∷ rows_from (suc n) (slots_in xs) ≡ [] = is in cc
same_accounts n (a ∷ xs) (b ∷ ys) is =
    let key : a.0 ≡ b.0 = cc in
    let value : a.1 ≡ b.1 = cc in
    let rest : rows_from (suc n) (slots_in xs) ≡ rows_from (suc n) (slots_in ys) = cc in
    more_accounts a b xs ys (one_account a b key value) (same_accounts (suc n) xs ys rest)

-- ---- what they stand for

same_left : (bs cs : List (Option StoredBranch)) → ((k : ℕ) → item_at bs k ≡ item_at cs k)
    → left_in_slots bs ≡ left_in_slots cs
same_left [] [] same = refl
same_left [] (None ∷ cs) same = same_left [] cs (λ k. same (suc k))
same_left [] (Some c ∷ cs) same = let z : None ≡ Some c = same 0 in cc
same_left (None ∷ bs) [] same = same_left bs [] (λ k. same (suc k))
same_left (Some b ∷ bs) [] same = let z : Some b ≡ None = same 0 in cc
same_left (None ∷ bs) (None ∷ cs) same = same_left bs cs (λ k. same (suc k))
same_left (None ∷ bs) (Some c ∷ cs) same = let z : None ≡ Some c = same 0 in cc
same_left (Some b ∷ bs) (None ∷ cs) same = let z : Some b ≡ None = same 0 in cc
same_left (Some b ∷ bs) (Some c ∷ cs) same =
    let own : Some b ≡ Some c = same 0 in
    let is : b ≡ c = cc in
    ap (λ (d : StoredBranch). left_in_slots (Some d ∷ bs)) is
    ∙ ap (λ l. left_in_slots (Some c ∷ []) ++ l) (same_left bs cs (λ k. same (suc k)))

name_of : (bs : List (Option StoredBranch)) (k : ℕ)
    → branch_name_at bs k ≡ option_map (λ (b : StoredBranch). b.0) (item_at bs k)
name_of [] k = refl
name_of (b ∷ bs) zero = refl
name_of (b ∷ bs) (suc k) = name_of bs k

same_name : (bs cs : List (Option StoredBranch)) → ((k : ℕ) → item_at bs k ≡ item_at cs k) → (k : ℕ)
    → branch_name_at bs k ≡ branch_name_at cs k
same_name bs cs same k =
    name_of bs k ∙ ap (λ (o : Option StoredBranch). option_map (λ (b : StoredBranch). b.0) o) (same k)
    ∙ sym (name_of cs k)

module _ (bs cs : List (Option StoredBranch)) (same : (k : ℕ) → item_at bs k ≡ item_at cs k) where
  no_sums : (xs : List Account) (es : List (Option Change)) → ((k : ℕ) → item_at es k ≡ None) → [] ≡ sums_of cs xs es
  no_sums [] es none = refl
  no_sums (a ∷ xs) [] none = refl
  no_sums (a ∷ xs) (None ∷ es) none = no_sums xs es (λ k. none (suc k))
  no_sums (a ∷ xs) (Some e ∷ es) none = let z : Some e ≡ None = none 0 in cc

  same_sums : (xs : List Account) (ds es : List (Option Change)) → ((k : ℕ) → item_at ds k ≡ item_at es k)
      → sums_of bs xs ds ≡ sums_of cs xs es
  same_sums [] ds es alike = refl
  same_sums (a ∷ xs) [] [] alike = refl
  same_sums (a ∷ xs) [] (None ∷ es) alike = no_sums xs es (λ k. sym (alike (suc k)))
  same_sums (a ∷ xs) [] (Some e ∷ es) alike = let z : None ≡ Some e = alike 0 in cc
  same_sums (a ∷ xs) (None ∷ ds) [] alike = same_sums xs ds [] (λ k. alike (suc k)) ∙ sym (no_sums xs [] (λ k. refl))
  same_sums (a ∷ xs) (Some d ∷ ds) [] alike = let z : Some d ≡ None = alike 0 in cc
  same_sums (a ∷ xs) (None ∷ ds) (None ∷ es) alike = same_sums xs ds es (λ k. alike (suc k))
  same_sums (a ∷ xs) (None ∷ ds) (Some e ∷ es) alike = let z : None ≡ Some e = alike 0 in cc
  same_sums (a ∷ xs) (Some d ∷ ds) (None ∷ es) alike = let z : Some d ≡ None = alike 0 in cc
  same_sums (a ∷ xs) (Some d ∷ ds) (Some e ∷ es) alike =
      let own : Some d ≡ Some e = alike 0 in
      let is : d ≡ e = cc in
      ap (λ (c : Change). with_sum a.0 c.delta (branch_name_at bs c.branch) (sums_of bs xs ds)) is
      ∙ ap (λ (o : Option XidName). with_sum a.0 e.delta o (sums_of bs xs ds)) (same_name bs cs same e.branch)
      ∙ ap (λ (l : List Sum). with_sum a.0 e.delta (branch_name_at cs e.branch) l)
      (same_sums xs ds es (λ k. alike (suc k)))

pub same_stored : (i j : Image) (trees : Trees) → trees 0 ≡ rows_from 1 (slots_of i 0)
    → trees 1 ≡ rows_from 1 (slots_of i 1)
    → trees 2 ≡ rows_from 1 (slots_of i 2) → HasImage j trees → stored_of i ≡ stored_of j
same_stored i j trees zeroth first second also =
    let accounts = same_accounts 1 i.accounts j.accounts (sym zeroth ∙ also 0 (omega arith)) in
    let branches = same_items branch_cells branch_same i.branches j.branches (sym first ∙ also 1 (omega arith)) in
    let changes = same_items change_cells change_same i.changes j.changes (sym second ∙ also 2 (omega arith)) in
    ap (λ (l : List Account). stored l (left_in_slots i.branches) (sums_of i.branches l i.changes)) accounts
    ∙ ap (λ l. stored j.accounts l (sums_of i.branches j.accounts i.changes)) (same_left i.branches j.branches branches)
    ∙ ap (λ (l : List Sum). stored j.accounts (left_in_slots j.branches) l)
    (same_sums i.branches j.branches branches j.accounts i.changes j.changes changes)
