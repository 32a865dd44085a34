-- What reading finds, row by row.
use Rattle.xa_base.proofs.{◌≡◌, ℕ, suc, ◌+◌, ◌<◌, pos, List, [], ◌∷◌, ◌++◌, length, map, take, get_or, Option, None}
use Rattle.xa_base.proofs.{Some, replicate, refl, ap, sym, ◌∙◌, arith, one_more, map-append, length-map, length-take-le}
use Rattle.xa_base.proofs.{zero, is_some, option_map, true}
use Rattle.sqlite_value.specs.Order.{Row}
use Rattle.sqlite_value.specs.declared.value.Value.TheVariants.{Int}
use Rattle.xa_slots.specs.{Slot, rows_from}
use Rattle.xa_slots.proofs.Found.{rows_none, rows_some}
use Rattle.xa_store_sqlite.specs.{AreOwnedBy, StoredBranch, Change, account_cells, branch_cells, change_cells, item_at}

abbrev Account : Type 0
Account = List ℕ × ℕ

abbrev pub slots_in : List Account → List Slot
slots_in accounts = map (λ a. Some (account_cells a)) accounts

-- a slot that is free has no row
pub passed_free : (slots : List Slot) (n : ℕ) (slot : Slot) → n < length slots → slot ≡ get_or slots n slot
    → slot ≡ None
    → rows_from 1 (take (n + 1) slots) ≡ rows_from 1 (take n slots)
passed_free slots n slot within is free =
    ap (rows_from 1) (one_more slots n slot within is) ∙ ap (λ (s : Slot). rows_from 1 (take n slots ++ s ∷ [])) free
    ∙ rows_none 1 (take n slots)

-- the account of the next slot
pub next_account : (accounts : List Account) (slots : List Slot) (n : ℕ) (slot : Slot) (a : Account) → n < length slots
    → slot ≡ get_or slots n slot
    → slot ≡ Some (account_cells a) → n ≡ length accounts → rows_from 1 (slots_in accounts) ≡ rows_from 1 (take n slots)
    → rows_from 1 (slots_in (accounts ++ a ∷ [])) ≡ rows_from 1 (take (n + 1) slots)
next_account accounts slots n slot a within is own count so =
    let many : length (slots_in accounts) ≡ length accounts = length-map accounts (λ b. Some (account_cells b)) in
    let long : length (take n slots) ≡ n = length-take-le n slots (omega (arith, within)) in
    ap (rows_from 1) (map-append (λ b. Some (account_cells b)) accounts (a ∷ []))
    ∙ rows_some 1 (n + 1) (slots_in accounts) (account_cells a) (omega (arith, many, count))
    ∙ ap (λ (rows : List Row). rows ++ (Int (pos (n + 1)) ∷ account_cells a) ∷ []) so
    ∙ sym (rows_some 1 (n + 1) (take n slots) (account_cells a) (omega (arith, long)))
    ∙ ap (λ (s : Slot). rows_from 1 (take n slots ++ s ∷ [])) (sym own)
    ∙ ap (rows_from 1) (sym (one_more slots n slot within is))

-- ---- free slots at the end

rows_nones : (m n : ℕ)
    → rows_from m (map (λ (b : Option StoredBranch). option_map branch_cells b) (replicate n None)) ≡ []
rows_nones m zero = refl
rows_nones m (suc n) = rows_nones (suc m) n

pub rows_room : (m : ℕ) (bs : List (Option StoredBranch)) (n : ℕ)
    → rows_from m (map (λ b. option_map branch_cells b) (bs ++ replicate n None)) ≡ rows_from m
    (map (λ b. option_map branch_cells b) bs)
rows_room m [] n = rows_nones m n
rows_room m (None ∷ bs) n = rows_room (suc m) bs n
rows_room m (Some b ∷ bs) n = ap (λ (rows : List Row). (Int (pos m) ∷ branch_cells b) ∷ rows) (rows_room (suc m) bs n)

-- ---- changes of branches that are there

pub owned_push : (bs : List (Option StoredBranch)) (cs : List (Option Change)) (x : Option Change) → AreOwnedBy bs cs
    → ((c : Change) → x ≡ Some c → is_some (item_at bs c.branch) ≡ true) → AreOwnedBy bs (cs ++ x ∷ [])
owned_push bs [] x so here zero c is = here c is
owned_push bs [] x so here (suc p) c is = let z : None ≡ Some c = is in cc
owned_push bs (d ∷ cs) x so here zero c is = so 0 c is
owned_push bs (d ∷ cs) x so here (suc p) c is = owned_push bs cs x (λ q. so (suc q)) here p c is

pub next_change : (changes : List (Option Change)) (slots : List Slot) (n : ℕ) (slot : Slot) (x : Option Change)
    → n < length slots → slot ≡ get_or slots n slot
    → option_map change_cells x ≡ slot → map (λ c. option_map change_cells c) changes ≡ take n slots
    → map (λ c. option_map change_cells c) (changes ++ x ∷ []) ≡ take (n + 1) slots
next_change changes slots n slot x within is own so =
    map-append (λ c. option_map change_cells c) changes (x ∷ [])
    ∙ ap (λ (l : List Slot). l ++ option_map change_cells x ∷ []) so
    ∙ ap (λ (s : Slot). take n slots ++ s ∷ []) own ∙ sym (one_more slots n slot within is)
