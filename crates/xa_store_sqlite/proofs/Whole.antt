-- A file that a store wrote is refused for want of memory, of room or of a disk alone.
use Rattle.xa_base.proofs.{◌≡◌, ℕ, zero, suc, ℤ, pos, ◌+◌, ◌<◌, ◌≤◌, Bool, true, false, List, [], ◌∷◌, length, map}
use Rattle.xa_base.proofs.{take, Option, None, Some, is_some, option_map, All, All-head, All-tail, refl, sym, ap, subst}
use Rattle.xa_base.proofs.{◌∙◌, arith, length-map, IfErr, Result, IfErr-weaker}
use Rattle.sqlite_value.specs.declared.value.Value.TheVariants.{Int}
use Rattle.sqlite_value.specs.Order.{Row}
use Rattle.sqlite_trees.specs.Tree.{Trees}
use Rattle.xa_base.specs.declared.limits.TheConstants.{MOST_KEYS, MOST_VALUE}
use Rattle.xa_words.specs.{is_key}
use Rattle.xa_slots.specs.{Slot, rows_from}
use Rattle.xa_store_sqlite.specs.declared.fault.Table.TheVariants.{Accounts, Branches, Changes, Store}
use Rattle.xa_store_sqlite.specs.declared.fault.RowFault.{RowFault}
use Rattle.xa_store_sqlite.specs.declared.fault.RowFault.TheVariants.{Form, Name, Limit, State, Unknown, Gap}
use Rattle.xa_store_sqlite.specs.declared.fault.StoreOpenFault.{StoreOpenFault}
use Rattle.xa_store_sqlite.specs.declared.fault.StoreOpenFault.TheVariants.{NoMemory, Failed, NoRoom, NotADatabase}
use Rattle.xa_store_sqlite.specs.declared.fault.StoreOpenFault.TheVariants.{OtherTables, Damaged, NotAStore}
use Rattle.xa_store_sqlite.specs.declared.fault.StoreOpenFault.TheVariants.{OtherVersion, OtherNumber, TooMany, BadRow}
use Rattle.xa_store_sqlite.specs.declared.fault.StoreOpenFault.TheVariants.{NotRestored}
use Rattle.xa_store_sqlite.specs.{HasCells, HasGap, HasImage, Image, IsAccount, IsBranchRow, IsChangeOf, IsNoChangeFor}
use Rattle.xa_store_sqlite.specs.{IsRefusedFor, IsStoreRow, MayBeOfStore, account_cells, branch_cells, change_cells}
use Rattle.xa_store_sqlite.specs.{is_of_device, item_at, slots_of, store_cells, store_row}
use Rattle.xa_store_sqlite.proofs.Refused.{cells_found, cells_there, item_mapped, item_within, none_fewer}

-- ---- rows of slots up to the last that is taken

rows_none : (slots : List Slot) (n : ℕ) → ((slot : ℕ) → item_at slots slot ≡ None) → rows_from n slots ≡ []
rows_none [] n free = refl
rows_none (None ∷ slots) n free = rows_none slots (suc n) (λ k. free (suc k))
rows_none (Some own ∷ slots) n free = let z : Some own ≡ None = free 0 in cc

rows_taken : (slots : List Slot) (n taken : ℕ) → ((slot : ℕ) → taken ≤ slot → item_at slots slot ≡ None)
    → rows_from n (take taken slots) ≡ rows_from n slots
rows_taken [] n zero free = refl
rows_taken [] n (suc taken) free = refl
rows_taken (own ∷ slots) n zero free = sym (rows_none (own ∷ slots) n (λ k. free k (omega arith)))
rows_taken (None ∷ slots) n (suc taken) free = rows_taken slots (suc n) taken (λ k le. free (suc k) (omega (arith, le)))
rows_taken (Some own ∷ slots) n (suc taken) free =
    ap (λ (rows : List Row). (Int (pos n) ∷ own) ∷ rows)
    (rows_taken slots (suc n) taken (λ k le. free (suc k) (omega (arith, le))))

few_taken : (slots : List Slot) (taken : ℕ) → length (take taken slots) ≤ taken
few_taken [] zero = omega arith
few_taken [] (suc taken) = omega arith
few_taken (own ∷ slots) zero = omega arith
few_taken (own ∷ slots) (suc taken) =
    let few : length (take taken slots) ≤ taken = few_taken slots taken in omega (arith, few)

-- ---- its rows are right

abbrev Account : Type 0
Account = List ℕ × ℕ

abbrev slots_in : List Account → List Slot
slots_in accounts = map (λ a. Some (account_cells a)) accounts

length_rows : (accounts : List Account) (n : ℕ) → length (rows_from n (slots_in accounts)) ≡ length accounts
length_rows [] n = refl
length_rows (a ∷ accounts) n = ap (λ (m : ℕ). suc m) (length_rows accounts (suc n))

pub count_rows : (accounts : List Account) → length (rows_from 1 (slots_in accounts)) ≡ length accounts
count_rows accounts = length_rows accounts 1

record HasAccount (accounts : List Account) (k : ℕ) : Type 0 where
  account : Account
  has : item_at (slots_in accounts) k ≡ Some (account_cells account)

account_there : (accounts : List Account) (k : ℕ) → k < length accounts → HasAccount accounts k
account_there [] k below = absurd (omega (arith, below))
account_there (a ∷ accounts) zero below = record { account = a; has = refl }
account_there (a ∷ accounts) (suc k) below =
    let more = account_there accounts k (omega (arith, below)) in record { account = more.account; has = more.has }

account_right : (accounts : List Account) (k : ℕ) (cells : Row) → All (λ a. is_key a.0 ≡ true) accounts
    → All (λ a. a.1 ≤ MOST_VALUE) accounts
    → item_at (slots_in accounts) k ≡ Some cells → IsAccount cells
account_right [] k cells keys small is = let z : None ≡ Some cells = is in cc
account_right (a ∷ accounts) zero cells keys small is =
    let same : account_cells a ≡ cells = cc in
    record {
      key = a.0;
      value = a.1;
      is_named = All-head (λ (b : Account). is_key b.0 ≡ true) a accounts keys;
      small = All-head (λ (b : Account). b.1 ≤ MOST_VALUE) a accounts small;
      row_is = sym same;
    }
account_right (a ∷ accounts) (suc k) cells keys small is =
    account_right accounts k cells (All-tail (λ (b : Account). is_key b.0 ≡ true) a accounts keys)
    (All-tail (λ (b : Account). b.1 ≤ MOST_VALUE) a accounts small) is

record IsOf {A B : Type 0} (f : A → B) (o : Option A) (y : B) : Type 0 where
  value : A
  is : o ≡ Some value
  gives : f value ≡ y

of_mapped : {A B : Type 0} (f : A → B) (o : Option A) (y : B) → option_map f o ≡ Some y → IsOf f o y
of_mapped f None y is = let z : None ≡ Some y = is in cc
of_mapped f (Some x) y is = let same : f x ≡ y = cc in record { value = x; is = refl; gives = same }

record IsTaken {A : Type 0} (o : Option A) : Type 0 where
  value : A
  is : o ≡ Some value

is_taken : {A : Type 0} (o : Option A) → is_some o ≡ true → IsTaken o
is_taken None is = let z : false ≡ true = is in cc
is_taken (Some x) is = record { value = x; is = refl }

of_taken : {A B : Type 0} (f : A → B) (o : Option A) (taken : IsTaken o) → option_map f o ≡ Some (f taken.value)
of_taken f o taken = ap (λ p. option_map f p) taken.is

record HasAny (rows : List Row) (slot : ℕ) : Type 0 where
  cells : Row
  there : HasCells rows slot cells

no_fault : (branches : List Row) (row : Row) (f : RowFault) → IsNoChangeFor branches row f → IsChangeOf branches row → ⊥
no_fault branches row Form none of = none of.is_change
no_fault branches row Name none of = none of.is_change
no_fault branches row Limit none of = none of.is_change
no_fault branches row State none of = none of.is_change
no_fault branches row Unknown none of = none of
no_fault branches row Gap none of = none of.is_change

abbrev id_in : Row → ℕ
id_in (v ∷ Int (pos n) ∷ cells) = n
id_in row = 0

store_found : (row cells : Row) (slot : ℕ) → item_at (Some row ∷ []) slot ≡ Some cells → row ≡ cells
store_found row cells zero is = cc
store_found row cells (suc slot) is = let z : None ≡ Some cells = is in cc

module _ (number : ℤ) (room : ℕ) (image : Image) (trees : Trees) (whole : MayBeOfStore number room image)
    (has : HasImage image trees) where
  cells_in : (t slot : ℕ) (cells : Row) → t < 4 → HasCells (trees t) slot cells
      → item_at (slots_of image t) slot ≡ Some cells
  cells_in t slot cells below there =
      cells_found (slots_of image t) slot cells
      (subst (λ (rows : List Row). HasCells rows slot cells) (has t below) there)

  cells_of : (t slot : ℕ) (cells : Row) → t < 4 → item_at (slots_of image t) slot ≡ Some cells
      → HasCells (trees t) slot cells
  cells_of t slot cells below is =
      subst (λ (rows : List Row). HasCells rows slot cells) (sym (has t below))
      (cells_there (slots_of image t) slot cells is)

  no_gap : (slot : ℕ) → HasGap (trees 0) slot → ⊥
  no_gap slot gap =
      let within : slot < length (slots_of image 0) =
      item_within (slots_of image 0) slot (ap is_some (cells_in 0 slot gap.cells (omega arith) gap.there)) in
      let count : length (slots_of image 0) ≡ length image.accounts =
      length-map image.accounts (λ a. Some (account_cells a)) in
      let before = gap.before in
      let there = account_there image.accounts gap.free (omega (arith, within, count, before)) in
      gap.is_free (account_cells there.account)
      (cells_of 0 gap.free (account_cells there.account) (omega arith) there.has)

  right_account : (slot : ℕ) (cells : Row) → HasCells (trees 0) slot cells → IsAccount cells
  right_account slot cells there =
      account_right image.accounts slot cells whole.are_keys whole.small (cells_in 0 slot cells (omega arith) there)

  right_branch : (slot : ℕ) (cells : Row) → HasCells (trees 1) slot cells → IsBranchRow cells
  right_branch slot cells there =
      let of = of_mapped branch_cells (item_at image.branches slot) cells
      (sym (item_mapped branch_cells image.branches slot) ∙ cells_in 1 slot cells (omega arith) there) in
      subst IsBranchRow of.gives (whole.are_branches slot of.value of.is)

  branch_there : (slot : ℕ) → is_some (item_at image.branches slot) ≡ true → HasAny (trees 1) slot
  branch_there slot is =
      let b = is_taken (item_at image.branches slot) is in
      record {
        cells = branch_cells b.value;
        there = cells_of 1 slot (branch_cells b.value) (omega arith)
            (item_mapped branch_cells image.branches slot ∙ of_taken branch_cells (item_at image.branches slot) b);
      }

  right_change : (slot : ℕ) (cells : Row) → HasCells (trees 2) slot cells → IsChangeOf (trees 1) cells
  right_change slot cells there =
      let of = of_mapped change_cells (item_at image.changes slot) cells
      (sym (item_mapped change_cells image.changes slot) ∙ cells_in 2 slot cells (omega arith) there) in
      let right = whole.are_changes slot of.value of.is in
      let ids : of.value.branch + 1 ≡ right.change.branch + 1 = ap id_in right.row_is in
      let same : of.value.branch ≡ right.change.branch = omega (arith, ids) in
      let b =
      branch_there right.change.branch
      (ap (λ (k : ℕ). is_some (item_at image.branches k)) (sym same) ∙ whole.owned slot of.value of.is) in
      subst (IsChangeOf (trees 1)) of.gives (record { is_change = right; branch = b.cells; there = b.there })

  right_store : (slot : ℕ) (cells : Row) → HasCells (trees 3) slot cells → IsStoreRow cells
  right_store slot cells there =
      let same = store_found (store_cells image.number) cells slot (cells_in 3 slot cells (omega arith) there) in
      record { version = pos 1; number = image.number; row_is = sym same }

  whole_device : (is_broken : Bool) (failed : Type 0) (f : StoreOpenFault)
      → IsRefusedFor number room trees is_broken failed f → is_of_device f ≡ true
  whole_device is_broken failed NoMemory why = refl
  whole_device is_broken failed Failed why = refl
  whole_device is_broken failed NoRoom why = refl
  whole_device is_broken failed NotADatabase why = absurd why
  whole_device is_broken failed OtherTables why = absurd why
  whole_device is_broken failed Damaged why = refl
  whole_device is_broken failed NotAStore why =
      let z : [] ≡ rows_from 1 (slots_of image 3) = sym why.unsaid ∙ has 3 (omega arith) in cc
  whole_device is_broken failed OtherVersion why =
      let same : rows_from 1 (Some (store_row why.version why.number) ∷ []) ≡ rows_from 1
      (Some (store_row (pos 1) image.number) ∷ []) =
      sym why.rows_are ∙ has 3 (omega arith) in
      let own : why.version ≡ pos 1 = cc in
      absurd (why.other own)
  whole_device is_broken failed OtherNumber why =
      let same : rows_from 1 (Some (store_row (pos 1) why.number) ∷ []) ≡ rows_from 1
      (Some (store_row (pos 1) image.number) ∷ []) =
      sym why.rows_are ∙ has 3 (omega arith) in
      let own : why.number ≡ image.number = cc in
      absurd (why.other (own ∙ whole.number_is))
  whole_device is_broken failed (TooMany Accounts) why =
      let count : length (slots_of image 0) ≡ length image.accounts =
      length-map image.accounts (λ a. Some (account_cells a)) in
      let few = whole.few in
      absurd (none_fewer MOST_KEYS (trees 0) why (slots_of image 0) (omega (arith, count, few)) (has 0 (omega arith)))
  whole_device is_broken failed (TooMany Branches) why =
      let few = few_taken (slots_of image 1) whole.taken in
      let most = whole.has_room in
      absurd (why (take whole.taken (slots_of image 1)) (omega (arith, few, most)) (has 1 (omega arith)
      ∙ sym (rows_taken (slots_of image 1) 1 whole.taken
      (λ k le. item_mapped branch_cells image.branches k ∙ ap (option_map branch_cells) (whole.free k le)))))
  whole_device is_broken failed (TooMany Changes) why =
      absurd
      (why (slots_of image 2)
      (length-map image.changes (λ c. option_map change_cells c) ∙ whole.paired
      ∙ sym (count_rows image.accounts)
      ∙ ap length (sym (has 0 (omega arith)))) (has 2 (omega arith)))
  whole_device is_broken failed (TooMany Store) why = absurd (why (slots_of image 3) refl (has 3 (omega arith)))
  whole_device is_broken failed (BadRow Accounts slot Gap) why = absurd (no_gap slot why)
  whole_device is_broken failed (BadRow Accounts slot Form) why =
      absurd (why.is_such (right_account slot why.cells why.there))
  whole_device is_broken failed (BadRow Accounts slot Name) why =
      absurd (why.is_such (right_account slot why.cells why.there))
  whole_device is_broken failed (BadRow Accounts slot Limit) why =
      absurd (why.is_such (right_account slot why.cells why.there))
  whole_device is_broken failed (BadRow Accounts slot State) why =
      absurd (why.is_such (right_account slot why.cells why.there))
  whole_device is_broken failed (BadRow Accounts slot Unknown) why =
      absurd (why.is_such (right_account slot why.cells why.there))
  whole_device is_broken failed (BadRow Branches slot f) why =
      absurd (why.is_such (right_branch slot why.cells why.there))
  whole_device is_broken failed (BadRow Changes slot f) why =
      absurd (no_fault (trees 1) why.cells f why.is_such (right_change slot why.cells why.there))
  whole_device is_broken failed (BadRow Store slot f) why = absurd (why.is_such (right_store slot why.cells why.there))
  whole_device is_broken failed (NotRestored f) why = absurd why

  pub device_alone : {A : Type 0} (is_broken : Bool) (failed : Type 0) (r : Result A StoreOpenFault)
      → IfErr r (IsRefusedFor number room trees is_broken failed)
      → IfErr r (λ f. is_of_device f ≡ true)
  device_alone is_broken failed r why =
      IfErr-weaker r (IsRefusedFor number room trees is_broken failed) (λ f. is_of_device f ≡ true)
      (λ f. whole_device is_broken failed f) why
