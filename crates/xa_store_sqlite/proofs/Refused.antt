-- Why a file is refused.
use Rattle.xa_base.proofs.{◌≡◌, ◌≢◌, ◌⊎◌, ℕ, zero, suc, ℤ, pos, ◌+◌, ◌-◌, ◌<◌, ◌≤◌, Bool, true, false, List, [], ◌∷◌}
use Rattle.xa_base.proofs.{◌++◌, length, map, get_or, Option, None, Some, is_some, option_map, replicate, refl, sym, ap}
use Rattle.xa_base.proofs.{subst, inl, inr, ◌∙◌, arith, rules, ⊎_elim, length-append, Contains}
use Rattle.sqlite_disk.specs.Disk.{MoreFaults}
use Rattle.sqlite_value.specs.declared.value.Value.TheVariants.{Int}
use Rattle.sqlite_value.specs.Order.{Row}
use Rattle.sqlite_trees.specs.Tree.{Trees}
use Rattle.sqlite_trees.specs.View.{View}
use Rattle.sqlite_trees.specs.declared.error.StoreError.TheVariants as error
use Rattle.xa_slots.specs.{EndsTaken, HasNoSlots, HasReadCause, NotSlots, TableReadFault, Slot, rows_from}
use Rattle.xa_slots.specs.{Failed as Unread}
use Rattle.xa_store_sqlite.specs.declared.fault.Table.{Table}
use Rattle.xa_store_sqlite.specs.declared.fault.Table.TheVariants.{Accounts}
use Rattle.xa_store_sqlite.specs.declared.fault.RowFault.{RowFault}
use Rattle.xa_store_sqlite.specs.declared.fault.RowFault.TheVariants.{Form, Name, Limit, State, Unknown, Gap}
use Rattle.xa_store_sqlite.specs.declared.fault.StoreOpenFault.{StoreOpenFault}
use Rattle.xa_store_sqlite.specs.declared.fault.StoreOpenFault.TheVariants.{NoMemory, Failed, NoRoom, NotADatabase}
use Rattle.xa_store_sqlite.specs.declared.fault.StoreOpenFault.TheVariants.{OtherTables, Damaged, NotAStore}
use Rattle.xa_store_sqlite.specs.declared.fault.StoreOpenFault.TheVariants.{OtherVersion, OtherNumber, TooMany, BadRow}
use Rattle.xa_store_sqlite.specs.declared.fault.StoreOpenFault.TheVariants.{NotRestored}
use Rattle.xa_store_sqlite.specs.declared.mirror.TheConstants.{MOST_BRANCHES}
use Rattle.xa_store_sqlite.specs.{StoredBranch, Change, HasCells, HasGap, HasNoRoom, HasSuch, IsAccount, IsBadRow}
use Rattle.xa_store_sqlite.specs.{IsChangeOf, IsChangeRow, IsNoChangeFor, IsNotBareFor, StoreIsRefused, IsRefusedFor}
use Rattle.xa_store_sqlite.specs.{IsOther, IsRefusedForRows, IsStoreRow, IsUnreadFor, branch_cells, change_cells}
use Rattle.xa_store_sqlite.specs.{fault_of_bare, fault_of_reading, is_of_device, item_at, table_number, store_row}

-- ---- rows of slots

abbrev number_in : Row → ℕ
number_in (Int (pos n) ∷ cells) = n
number_in row = 0

abbrev values_in : Row → Row
values_in [] = []
values_in (v ∷ cells) = cells

-- what stands at a place of rows stands one later after another row
among_more : (rows : List Row) (own row : Row) → Contains rows row → Contains (own ∷ rows) row
among_more rows own row (k, below, is) = (suc k, omega (arith, below), is)

-- the rows have what a slot has
cells_among : (slots : List Slot) (n k : ℕ) (cells : Row) → item_at slots k ≡ Some cells
    → Contains (rows_from n slots) (Int (pos (n + k)) ∷ cells)
cells_among [] n k cells is = let z : None ≡ Some cells = is in cc
cells_among (None ∷ slots) n zero cells is = let z : None ≡ Some cells = is in cc
cells_among (None ∷ slots) n (suc k) cells is =
    subst (λ (m : ℕ). Contains (rows_from (suc n) slots) (Int (pos m) ∷ cells)) (omega arith)
    (cells_among slots (suc n) k cells is)
cells_among (Some own ∷ slots) n zero cells is =
    let same : own ≡ cells = cc in
    (0, omega arith, ap (λ (c : Row). Int (pos n) ∷ c) same ∙ ap (λ (m : ℕ). Int (pos m) ∷ cells) (omega arith))
cells_among (Some own ∷ slots) n (suc k) cells is =
    among_more (rows_from (suc n) slots) (Int (pos n) ∷ own) (Int (pos (n + suc k)) ∷ cells)
    (subst (λ (m : ℕ). Contains (rows_from (suc n) slots) (Int (pos m) ∷ cells)) (omega arith)
    (cells_among slots (suc n) k cells is))

pub cells_there : (slots : List Slot) (k : ℕ) (cells : Row) → item_at slots k ≡ Some cells
    → HasCells (rows_from 1 slots) k cells
cells_there slots k cells is =
    subst (λ (m : ℕ). Contains (rows_from 1 slots) (Int (pos m) ∷ cells)) (omega arith) (cells_among slots 1 k cells is)

-- where the rows have a rowid with values, a slot has them
record IsAt (slots : List Slot) (n m : ℕ) (cells : Row) : Type 0 where
  slot : ℕ
  place : m ≡ n + slot
  has : item_at slots slot ≡ Some cells

at_later : (own : Slot) (slots : List Slot) (n m : ℕ) (cells : Row) → IsAt slots (suc n) m cells
    → IsAt (own ∷ slots) n m cells
at_later own slots n m cells at =
    record { slot = suc at.slot; place = let p = at.place in omega (arith, p); has = at.has }

cells_at : (slots : List Slot) (n m : ℕ) (cells : Row) → Contains (rows_from n slots) (Int (pos m) ∷ cells)
    → IsAt slots n m cells
cells_at [] n m cells (k, below, is) = absurd (omega (arith, below))
cells_at (None ∷ slots) n m cells among = at_later None slots n m cells (cells_at slots (suc n) m cells among)
cells_at (Some own ∷ slots) n m cells (zero, below, is) =
    let same : (Int (pos n) ∷ own) ≡ (Int (pos m) ∷ cells) = is in
    let place : n ≡ m = ap number_in same in
    record { slot = 0; place = omega (arith, place); has = ap Some (ap values_in same) }
cells_at (Some own ∷ slots) n m cells (suc k, below, is) =
    at_later (Some own) slots n m cells (cells_at slots (suc n) m cells (k, omega (arith, below), is))

pub cells_found : (slots : List Slot) (k : ℕ) (cells : Row) → HasCells (rows_from 1 slots) k cells
    → item_at slots k ≡ Some cells
cells_found slots k cells among =
    let at = cells_at slots 1 (k + 1) cells among in
    let place = at.place in
    let same : at.slot ≡ k = omega (arith, place) in
    ap (λ (j : ℕ). item_at slots j) (sym same) ∙ at.has

pub item_read : {A : Type 0} (xs : List (Option A)) (k : ℕ) (x : Option A) → k < length xs → x ≡ get_or xs k x
    → item_at xs k ≡ x
item_read [] k x below is = absurd (omega (arith, below))
item_read (y ∷ xs) zero x below is = sym is
item_read (y ∷ xs) (suc k) x below is = item_read xs k x (omega (arith, below)) is

pub item_within : {A : Type 0} (xs : List (Option A)) (k : ℕ) → is_some (item_at xs k) ≡ true → k < length xs
item_within [] k is = let z : false ≡ true = is in cc
item_within (x ∷ xs) zero is = omega arith
item_within (x ∷ xs) (suc k) is = let less : k < length xs = item_within xs k is in omega (arith, less)

pub item_mapped : {A B : Type 0} (f : A → B) (xs : List (Option A)) (k : ℕ)
    → item_at (map (λ x. option_map f x) xs) k ≡ option_map f (item_at xs k)
item_mapped f [] k = refl
item_mapped f (x ∷ xs) zero = refl
item_mapped f (x ∷ xs) (suc k) = item_mapped f xs k

-- free slots at the end have no rows
abbrev free_slots : ℕ → List Slot
free_slots n = replicate n None

length-free : (n : ℕ) → length (free_slots n) ≡ n
length-free zero = refl
length-free (suc n) = ap (λ (m : ℕ). suc m) (length-free n)

rows_nones : (n m : ℕ) → rows_from n (free_slots m) ≡ []
rows_nones n zero = refl
rows_nones n (suc m) = rows_nones (suc n) m

rows_free : (n m : ℕ) (slots : List Slot) → rows_from n (slots ++ free_slots m) ≡ rows_from n slots
rows_free n m [] = rows_nones n m
rows_free n m (None ∷ slots) = rows_free (suc n) m slots
rows_free n m (Some own ∷ slots) = ap (λ (rows : List Row). (Int (pos n) ∷ own) ∷ rows) (rows_free (suc n) m slots)

-- nor have fewer slots the rows that none have, so many
pub none_fewer : (count : ℕ) (rows : List Row) → HasNoSlots count rows → (slots : List Slot) → length slots ≤ count
    → rows ≡ rows_from 1 slots → ⊥
none_fewer count rows none slots few same =
    let more = length-append slots (free_slots (count - length slots)) in
    let free = length-free (count - length slots) in
    none (slots ++ free_slots (count - length slots)) (omega (arith, more, free, few))
    (same ∙ sym (rows_free 1 (count - length slots) slots))

pub no_room : (room : ℕ) (rows : List Row) → HasNoSlots MOST_BRANCHES rows → HasNoRoom room rows
no_room room rows none slots few same = none_fewer MOST_BRANCHES rows none slots (omega (arith, few)) same

-- where the last slot is taken, it has a row
last_taken : (slots : List Slot) → EndsTaken slots → (slot : ℕ) → length slots ≡ slot + 1
    → is_some (item_at slots slot) ≡ true
last_taken [] ends slot count = let z : 0 ≡ slot + 1 = count in absurd (omega (arith, z))
last_taken (None ∷ []) ends slot count = absurd (search (rules, ends))
last_taken (Some cells ∷ []) ends zero count = refl
last_taken (Some cells ∷ []) ends (suc slot) count = let z : 1 ≡ suc slot + 1 = count in absurd (omega (arith, z))
last_taken (own ∷ next ∷ slots) ends zero count =
    let z : suc (suc (length slots)) ≡ 1 = count in absurd (omega (arith, z))
last_taken (own ∷ next ∷ slots) ends (suc slot) count =
    let z : suc (length (next ∷ slots)) ≡ suc slot + 1 = count in last_taken (next ∷ slots) ends slot (omega (arith, z))

-- slots of which the last is taken, with room for more than there may be
pub taken_room : (room : ℕ) (slots : List Slot) (rows : List Row) → rows ≡ rows_from 1 slots → EndsTaken slots
    → MOST_BRANCHES < length slots + room → HasNoRoom room rows
taken_room room slots rows same ends many = go (length slots) (last_taken slots ends) many
  where
    go : (taken : ℕ) → ((slot : ℕ) → taken ≡ slot + 1 → is_some (item_at slots slot) ≡ true)
        → MOST_BRANCHES < taken + room → HasNoRoom room rows
    go zero last many others few also = omega (arith, many, few)
    go (suc k) last many others few also = by_some (item_at slots k) (last k (omega arith)) refl
      where
        by_some : (o : Slot) → is_some o ≡ true → item_at slots k ≡ o → ⊥
        by_some None there is = let z : false ≡ true = there in cc
        by_some (Some cells) there is =
            let found : item_at others k ≡ Some cells =
            cells_found others k cells
            (subst (λ (rs : List Row). HasCells rs k cells) (sym same ∙ also) (cells_there slots k cells is)) in
            let less : k < length others = item_within others k (ap is_some found) in
            omega (arith, less, many, few)

-- ---- a slot that was read

pub one_slot : (slots : List Slot) (cells : Row) → length slots ≤ 1 → item_at slots 0 ≡ Some cells
    → slots ≡ Some cells ∷ []
one_slot [] cells count is = let z : None ≡ Some cells = is in cc
one_slot (slot ∷ []) cells count is = ap (λ (s : Slot). s ∷ []) is
one_slot (slot ∷ next ∷ slots) cells count is =
    let many : suc (suc (length slots)) ≤ 1 = count in absurd (omega (arith, many))

pub free_slot : (slots : List Slot) → length slots ≤ 1 → item_at slots 0 ≡ None → rows_from 1 slots ≡ []
free_slot [] count is = refl
free_slot (slot ∷ []) count is = ap (λ (s : Slot). rows_from 1 (s ∷ [])) is
free_slot (slot ∷ next ∷ slots) count is =
    let many : suc (suc (length slots)) ≤ 1 = count in absurd (omega (arith, many))

pub bad_at : (IsSuch : Row → Type 0) (rows : List Row) (slots : List Slot) (k : ℕ) (own : Slot) (cells : Row)
    → rows ≡ rows_from 1 slots → k < length slots
    → own ≡ get_or slots k own → own ≡ Some cells → IsSuch cells → HasSuch IsSuch rows k
bad_at IsSuch rows slots k own cells same below is has such = record {
  cells = cells;
  there = subst (λ (rs : List Row). HasCells rs k cells) (sym same)
      (cells_there slots k cells (item_read slots k own below is ∙ has));
  is_such = such;
}

-- the first free slot is before one that is taken
pub gap_at : (rows : List Row) (slots : List Slot) (k n : ℕ) (own : Slot) (cells : Row) → rows ≡ rows_from 1 slots
    → k < length slots
    → own ≡ get_or slots k own → own ≡ Some cells → n < k → item_at slots n ≡ None → HasGap rows k
gap_at rows slots k n own cells same below is has less free = record {
  cells = cells;
  there = subst (λ (rs : List Row). HasCells rs k cells) (sym same)
      (cells_there slots k cells (item_read slots k own below is ∙ has));
  free = n;
  before = less;
  is_free = λ others there.
      let found : item_at slots n ≡ Some others =
      cells_found slots n others (subst (λ (rs : List Row). HasCells rs n others) same there) in
      let z : None ≡ Some others = sym free ∙ found in cc;
}

-- ---- one reason in another's words

pub bad_account : (trees : Trees) (slot : ℕ) (f : RowFault) → (f ≡ Gap → ⊥)
    → HasSuch (λ row. IsAccount row → ⊥) (trees 0) slot → IsBadRow trees Accounts slot f
bad_account trees slot Form alone bad = bad
bad_account trees slot Name alone bad = bad
bad_account trees slot Limit alone bad = bad
bad_account trees slot State alone bad = bad
bad_account trees slot Unknown alone bad = bad
bad_account trees slot Gap alone bad = absurd (alone refl)

-- a row that no change has is none of a change of a branch that is there
pub no_change : (branches : List Row) (row : Row) (f : RowFault) → (IsChangeRow row → ⊥) → IsNoChangeFor branches row f
no_change branches row Form none = none
no_change branches row Name none = none
no_change branches row Limit none = none
no_change branches row State none = none
no_change branches row Unknown none = λ of. none of.is_change
no_change branches row Gap none = none

abbrev id_in : Row → ℕ
id_in (v ∷ Int (pos n) ∷ cells) = n
id_in row = 0

pub no_owner : (bs : List (Option StoredBranch)) (row : Row) (c : Change) → row ≡ change_cells c
    → item_at bs c.branch ≡ None
    → IsChangeOf (rows_from 1 (map (λ b. option_map branch_cells b) bs)) row → ⊥
no_owner bs row c is free of =
    let d = of.is_change.change in
    let both : change_cells c ≡ change_cells d = sym is ∙ of.is_change.row_is in
    let ids : c.branch + 1 ≡ d.branch + 1 = ap id_in both in
    let same : c.branch ≡ d.branch = omega (arith, ids) in
    let found : option_map branch_cells (item_at bs d.branch) ≡ Some of.branch =
    sym (item_mapped branch_cells bs d.branch)
    ∙ cells_found (map (λ b. option_map branch_cells b) bs) d.branch of.branch of.there in
    let none : option_map branch_cells (item_at bs d.branch) ≡ None =
    ap (λ (o : Option StoredBranch). option_map branch_cells o) (ap (λ (k : ℕ). item_at bs k) (sym same) ∙ free) in
    let z : None ≡ Some of.branch = sym none ∙ found in cc

module _ (number : ℤ) (room : ℕ) (trees : Trees) (is_broken : Bool) where
  pub rows_refuse : (failed : Type 0) (f : StoreOpenFault) → IsRefusedForRows number room trees f
      → IsRefusedFor number room trees is_broken failed f
  rows_refuse failed NoMemory why = tt
  rows_refuse failed Failed (inl why) = absurd why
  rows_refuse failed Failed (inr why) = let z : ⊥ = search (rules, why) in absurd z
  rows_refuse failed NoRoom why = absurd why
  rows_refuse failed NotADatabase why = absurd why
  rows_refuse failed OtherTables why = absurd why
  rows_refuse failed Damaged why = absurd why
  rows_refuse failed NotAStore why = why
  rows_refuse failed OtherVersion why = why
  rows_refuse failed OtherNumber why = why
  rows_refuse failed (TooMany table) why = why
  rows_refuse failed (BadRow table slot fault) why = why
  rows_refuse failed (NotRestored fault) why = absurd why

  -- a disk that failed meanwhile has failed
  pub failed_on : (was is : Type 0) (f : StoreOpenFault) → (was → is) → IsRefusedFor number room trees is_broken was f
      → IsRefusedFor number room trees is_broken is f
  failed_on was is NoMemory on why = tt
  failed_on was is Failed on (inl why) = inl (on why)
  failed_on was is Failed on (inr why) = inr why
  failed_on was is NoRoom on why = on why
  failed_on was is NotADatabase on why = why
  failed_on was is OtherTables on why = why
  failed_on was is Damaged on why = on why
  failed_on was is NotAStore on why = why
  failed_on was is OtherVersion on why = why
  failed_on was is OtherNumber on why = why
  failed_on was is (TooMany table) on why = why
  failed_on was is (BadRow table slot fault) on why = why
  failed_on was is (NotRestored fault) on why = why

  pub unread_refuse : (table : Table) (count : ℕ) (failed : Type 0) (f : StoreOpenFault)
      → (HasNoSlots count (trees (table_number table))
      → IsRefusedFor number room trees is_broken failed (TooMany table))
      → IsUnreadFor table count (trees (table_number table)) is_broken failed f
      → IsRefusedFor number room trees is_broken failed f
  unread_refuse table count failed NoMemory many why = tt
  unread_refuse table count failed Failed many why = why
  unread_refuse table count failed NoRoom many why = why
  unread_refuse table count failed NotADatabase many why = absurd why
  unread_refuse table count failed OtherTables many why = absurd why
  unread_refuse table count failed Damaged many why = why
  unread_refuse table count failed NotAStore many why = absurd why
  unread_refuse table count failed OtherVersion many why = absurd why
  unread_refuse table count failed OtherNumber many why = absurd why
  unread_refuse table count failed (TooMany t) many (is, none) =
      subst (λ (u : Table). IsRefusedFor number room trees is_broken failed (TooMany u)) (sym is) (many none)
  unread_refuse table count failed (BadRow t slot fault) many why = absurd why
  unread_refuse table count failed (NotRestored fault) many why = absurd why

-- a fault of a part is one of the whole
pub faults_later : (a b c : ℕ) → a ≤ b → MoreFaults b c → MoreFaults a c
faults_later a b c le more = omega (arith, le, more)

-- why tables that were read before are refused
pub refused_later : (number : ℤ) (room : ℕ) (old mid : View) (was is : Type 0) (f : StoreOpenFault)
    → mid ≡ record old { cursors = mid.cursors } → (was → is)
    → StoreIsRefused number room mid was f → StoreIsRefused number room old is f
refused_later number room old mid was is f only on why =
    failed_on number room old.trees old.is_broken was is f on
    (subst (λ (v : View). StoreIsRefused number room v was f) only why)

-- ---- a table that isn't read

pub unread_for : (v : View) (table : Table) (count : ℕ) (failed : Type 0) (f : TableReadFault) → HasReadCause v failed f
    → (f ≡ NotSlots → HasNoSlots count (v.trees (table_number table)))
    → IsUnreadFor table count (v.trees (table_number table)) v.is_broken failed (fault_of_reading table f)
unread_for v table count failed (Unread error.OutOfMemory) cause none = tt
unread_for v table count failed (Unread error.Io) cause none = inl cause
unread_for v table count failed (Unread error.Corrupt) cause none = cause
unread_for v table count failed (Unread error.Full) cause none = cause
unread_for v table count failed (Unread error.Broken) cause none = inr cause
unread_for v table count failed (Unread error.Unstorable) cause none = absurd cause
unread_for v table count failed NotSlots cause none = (refl, none refl)

pub not_bare_for : (v : View) (t : ℕ) (failed : Type 0) (f : TableReadFault) → t < 3 → HasReadCause v failed f
    → (f ≡ NotSlots → HasNoSlots 0 (v.trees t)) → IsNotBareFor v.trees v.is_broken failed (fault_of_bare f)
not_bare_for v t failed (Unread error.OutOfMemory) below cause none = tt
not_bare_for v t failed (Unread error.Io) below cause none = inl cause
not_bare_for v t failed (Unread error.Corrupt) below cause none = cause
not_bare_for v t failed (Unread error.Full) below cause none = cause
not_bare_for v t failed (Unread error.Broken) below cause none = inr cause
not_bare_for v t failed (Unread error.Unstorable) below cause none = absurd cause
not_bare_for v t failed NotSlots below cause none = (t, below, λ bare. none refl [] refl bare)

-- ---- a file of another store, or of another version

pub record OfOther (number : ℤ) (rows : List Row) (wanted : StoreOpenFault) : Type 0 where
  pub version : ℤ
  pub own : ℤ
  pub rows_are : rows ≡ rows_from 1 (Some (store_row version own) ∷ [])
  pub which : ((wanted ≡ OtherVersion) × (version ≢ pos 1)) ⊎
      ((wanted ≡ OtherNumber) × ((version ≡ pos 1) × (own ≢ number)))

pub of_other : (number : ℤ) (rows : List Row) (wanted : StoreOpenFault) → IsOther number rows wanted
    → OfOther number rows wanted
of_other number rows NoMemory is = absurd is
of_other number rows Failed is = absurd is
of_other number rows NoRoom is = absurd is
of_other number rows NotADatabase is = absurd is
of_other number rows OtherTables is = absurd is
of_other number rows Damaged is = absurd is
of_other number rows NotAStore is = absurd is
of_other number rows OtherVersion is =
    record { version = is.version; own = is.number; rows_are = is.rows_are; which = inl (refl, is.other) }
of_other number rows OtherNumber is =
    record { version = pos 1; own = is.number; rows_are = is.rows_are; which = inr (refl, (refl, is.other)) }
of_other number rows (TooMany table) is = absurd is
of_other number rows (BadRow table slot fault) is = absurd is
of_other number rows (NotRestored fault) is = absurd is

module _ (number : ℤ) (wanted : StoreOpenFault) where
  -- its row is one of a version and a number
  pub other_row : (row : Row) → IsOther number (rows_from 1 (Some row ∷ [])) wanted → IsStoreRow row
  other_row row is =
      let of = of_other number (rows_from 1 (Some row ∷ [])) wanted is in
      let same : rows_from 1 (Some row ∷ []) ≡ rows_from 1 (Some (store_row of.version of.own) ∷ []) = of.rows_are in
      record { version = of.version; number = of.own; row_is = cc }

  pub not_other : (rows : List Row) → rows ≡ rows_from 1 (Some (store_row (pos 1) number) ∷ [])
      → IsOther number rows wanted → ⊥
  not_other rows has is =
      let of = of_other number rows wanted is in
      let same : rows_from 1 (Some (store_row (pos 1) number) ∷ []) ≡ rows_from 1
      (Some (store_row of.version of.own) ∷ []) =
      sym has ∙ of.rows_are in
      let version : of.version ≡ pos 1 = cc in
      let own : of.own ≡ number = cc in
      ⊎_elim (λ a. a.1 version) (λ a. a.1.1 own) of.which

  -- nor is it one that says nothing
  pub not_unsaid : (rows : List Row) → rows ≡ [] → IsOther number rows wanted → ⊥
  not_unsaid rows none is =
      let of = of_other number rows wanted is in
      let z : [] ≡ rows_from 1 (Some (store_row of.version of.own) ∷ []) = sym none ∙ of.rows_are in cc

  -- a table that has a row alone is refused for the device alone
  pub other_unread : (table : Table) (rows : List Row) (is_broken : Bool) (failed : Type 0) (f : StoreOpenFault)
      → IsOther number rows wanted
      → IsUnreadFor table 1 rows is_broken failed f → is_of_device f ≡ true
  other_unread table rows is_broken failed NoMemory is why = refl
  other_unread table rows is_broken failed Failed is why = refl
  other_unread table rows is_broken failed NoRoom is why = refl
  other_unread table rows is_broken failed NotADatabase is why = absurd why
  other_unread table rows is_broken failed OtherTables is why = absurd why
  other_unread table rows is_broken failed Damaged is why = refl
  other_unread table rows is_broken failed NotAStore is why = absurd why
  other_unread table rows is_broken failed OtherVersion is why = absurd why
  other_unread table rows is_broken failed OtherNumber is why = absurd why
  other_unread table rows is_broken failed (TooMany t) is why =
      let of = of_other number rows wanted is in
      absurd (why.1 (Some (store_row of.version of.own) ∷ []) refl of.rows_are)
  other_unread table rows is_broken failed (BadRow t slot fault) is why = absurd why
  other_unread table rows is_broken failed (NotRestored fault) is why = absurd why
