-- What contracts see of a manager.
use Rattle.std.specs.Prelude.{◌≡◌, ℕ, zero, suc, ◌+◌, ◌≤◌, ℤ, Bool, true, false, not, ◌&&◌}
use Rattle.std.specs.Prelude.{Option, Some, List, refl}
use Rattle.std.specs.Coded.{Coded, code_by, coded×, coded_ℕ, coded_bool, coded_option}
use Rattle.std.specs.FinMap as map
use Rattle.std.specs.FinMap.{FinMap}
use Rattle.std.specs.FinSet as set
use Rattle.std.specs.FinSet.{FinSet}
use Rattle.std.specs.Ordering.{nat_cmp}
use Rattle.xa_words.specs.Xid.{XidName, xid_cmp}
use Rattle.xa_words.specs.Orders.{key_cmp}
use Rattle.xa_tables.specs.declared.state.State.{State}
use Rattle.xa_tables.specs.declared.state.Association.{Association}
use Rattle.xa_tables.specs.ManagerTables.{Tables, touch_cmp, is_S3, is_broken, exists, is_left}
use Rattle.xa_tables.specs.ManagerTables.{has_opened, association_of, has_association}
use Rattle.xa_tables.specs.ManagerTables.{set_code, associations_code, states_code}
use Rattle.xa_tables.specs.ManagerTables.{sums_code, values_code}
use Rattle.xa_tables.specs.Views.{ThreadTable, BranchTable}
use Rattle.xa_tables.specs.Accounts.{Holdings, declared_values}

-- the tables, the number of threads, how many more requests there is room for, and for how many threads and requests
-- there is room at the next opening
pub record Managed : Type 0 where
  pub tables : Tables
  pub threads : ℕ
  pub room : ℕ
  pub reserved : Option (ℕ × ℕ)

-- the tables as data
abbrev pub tables_code : Coded Tables
tables_code =
    code_by
    (FinSet nat_cmp
    × (FinMap nat_cmp Association × (FinMap xid_cmp State × (FinMap touch_cmp ℤ × (FinMap key_cmp ℤ × Bool)))))
    (coded× set_code (coded× associations_code (coded× states_code (coded× sums_code (coded× values_code coded_bool)))))
    (λ T. (T.opened, (T.associations, (T.states, (T.sums, (T.values, T.shut))))))
    (λ p. record {
      opened = p.0;
      associations = p.1.0;
      states = p.1.1.0;
      sums = p.1.1.1.0;
      values = p.1.1.1.1.0;
      shut = p.1.1.1.1.1;
    })
    (λ _. refl)

-- a manager as data
abbrev pub managed_code : Coded Managed
managed_code =
    code_by (Tables × (ℕ × (ℕ × Option (ℕ × ℕ))))
    (coded× tables_code (coded× coded_ℕ (coded× coded_ℕ (coded_option (coded× coded_ℕ coded_ℕ)))))
    (λ m. (m.tables, (m.threads, (m.room, m.reserved))))
    (λ p. record { tables = p.0; threads = p.1.0; room = p.1.1.0; reserved = p.1.1.1 }) (λ _. refl)

-- the tables at the opening: nobody has it open, no branch, the declared values
abbrev pub opening : List (List ℕ × ℕ) → Tables
opening accounts =
    record {
      opened = set.empty;
      associations = map.empty;
      states = map.empty;
      sums = map.empty;
      values = declared_values accounts;
      shut = false;
    }

-- the tables that the threads, the branches and the accounts make
abbrev pub tables_of : ThreadTable → BranchTable → Holdings → Bool → Tables
tables_of s b a shut =
    record {
      opened = s.opened;
      associations = s.associations;
      states = b.states;
      sums = a.sums;
      values = a.values;
      shut = shut;
    }

-- the tables, and what there is room for: threads, branches, additions
pub record TablesWithRoom : Type 0 where
  pub tables : Tables
  pub threads : ℕ
  pub seats : ℕ
  pub spare : ℕ
  pub adds : ℕ

-- the tables with their room as data
abbrev pub tables_with_room_code : Coded TablesWithRoom
tables_with_room_code =
    code_by (Tables × (ℕ × (ℕ × (ℕ × ℕ)))) (coded× tables_code
    (coded× coded_ℕ (coded× coded_ℕ (coded× coded_ℕ coded_ℕ))))
    (λ b. (b.tables, (b.threads, (b.seats, (b.spare, b.adds)))))
    (λ p. record { tables = p.0; threads = p.1.0; seats = p.1.1.0; spare = p.1.1.1.0; adds = p.1.1.1.1 }) (λ _. refl)

-- an opening begins with the tables T, for this many threads, with room for this many branches more, and at most so
-- many additions were made
pub record BeginsWithTables (T : Tables) (seats most made : ℕ) (b : TablesWithRoom) : Type 0 where
  pub tables : b.tables ≡ T
  pub threads : b.threads ≡ seats
  pub room : most ≤ b.spare
  pub adds : b.adds ≤ made

-- one request uses up at most so many places, and one addition
pub record UsesAtMost (places : ℕ) (old new : TablesWithRoom) : Type 0 where
  pub threads : new.threads ≡ old.threads
  pub spare : old.spare ≤ new.spare + places
  pub adds : new.adds ≤ old.adds + 1

-- t has it open and isn't associated: it may begin a branch
abbrev pub is_free : Tables → ℕ → Bool
is_free T t = has_opened T t && not (has_association T t)

-- 1 where it is so
abbrev pub count_if : Bool → ℕ
count_if true = 1
count_if false = 0

-- how many of the threads 1 to n are free
abbrev pub free_threads : ℕ → Tables → ℕ
free_threads zero T = 0
free_threads (suc n) T = count_if (is_free T (suc n)) + free_threads n T

-- the places that a request of t takes, which makes U of T: one at most, and only where t becomes associated
abbrev pub places_taken : ℕ → Tables → Tables → ℕ
places_taken t T U = count_if (not (has_association T t) && has_association U t)

-- the branch of each association exists, and is neither prepared nor completed
abbrev pub AreAssociationsLive : Tables → Type 0
AreAssociationsLive T = (t : ℕ) (l : Association) → association_of T t ≡ Some l
    → (exists T l.xid ≡ true) × (is_left T l.xid ≡ false)

-- a branch in S3 keeps each value within the limits
abbrev pub ArePreparedSound : FinMap xid_cmp State → FinMap touch_cmp ℤ → FinMap key_cmp ℤ → Type 0
ArePreparedSound states sums values = (x : XidName) → is_S3 (map.get states x) ≡ true → is_broken values sums x ≡ false
