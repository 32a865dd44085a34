-- What contracts see of the parts of a manager.
use Rattle.std.specs.Prelude.{ℕ, Bool, suc, map, length, Option, None, Some, List, [], ◌∷◌, if◌then◌else◌, refl}
use Rattle.std.specs.Ordering.{nat_cmp}
use Rattle.std.specs.FinSet.{FinSet, from_list}
use Rattle.std.specs.FinMap.{FinMap, from_entries}
use Rattle.std.specs.Coded.{Coded, code_by, coded×, coded_ℕ, coded_list}
use Rattle.std.specs.FinMap as finmap
use Rattle.xa_words.specs.Orders.{key_cmp}
use Rattle.xa_words.specs.Xid.{XidName, xid_cmp}
use Rattle.xa_tables.specs.declared.state.State.{State}
use Rattle.xa_tables.specs.declared.threads.ThreadState.{ThreadState}
use Rattle.xa_tables.specs.declared.state.Association.{Association}
use Rattle.xa_tables.specs.ManagerTables.{is_association_with, states_code, set_code, associations_code}

-- the branches that exist, and for how many more there is room
pub record BranchTable : Type 0 where
  pub states : FinMap xid_cmp State
  pub spare : ℕ

-- the branches as data
abbrev pub branch_table_code : Coded BranchTable
branch_table_code =
    code_by (FinMap xid_cmp State × ℕ) (coded× states_code coded_ℕ) (λ s. (s.states, s.spare))
    (λ p. record { states = p.0; spare = p.1 }) (λ _. refl)

-- where the keys stand, and for how many more there is room
pub record PlaceTable : Type 0 where
  pub places : FinMap key_cmp ℕ
  pub spare : ℕ

-- the places as data
abbrev pub place_table_code : Coded PlaceTable
place_table_code =
    code_by (FinMap key_cmp ℕ × ℕ) (coded× (finmap.code (coded_list coded_ℕ) coded_ℕ) coded_ℕ)
    (λ s. (s.places, s.spare)) (λ p. record { places = p.0; spare = p.1 }) (λ _. refl)

-- the threads from 1 to threads: which have it open, their associations, and for how many there is room
pub record ThreadTable : Type 0 where
  pub opened : FinSet nat_cmp
  pub associations : FinMap nat_cmp Association
  pub threads : ℕ
  pub seats : ℕ

-- the threads as data
abbrev pub thread_table_code : Coded ThreadTable
thread_table_code =
    code_by (FinSet nat_cmp × (FinMap nat_cmp Association × (ℕ × ℕ)))
    (coded× set_code (coded× associations_code (coded× coded_ℕ coded_ℕ)))
    (λ s. (s.opened, (s.associations, (s.threads, s.seats))))
    (λ p. record { opened = p.0; associations = p.1.0; threads = p.1.1.0; seats = p.1.1.1 }) (λ _. refl)

-- an entry for the value, if there is one
abbrev pub with_entry : {K X : Type 0} → K → Option X → List (K × X) → List (K × X)
with_entry k None es = es
with_entry k (Some v) es = (k, v) ∷ es

-- what f reads of each place, the places numbered from n
abbrev pub entries_from : {S X : Type 0} → (S → Option X) → ℕ → List S → List (ℕ × X)
entries_from f n [] = []
entries_from f n (s ∷ ss) = with_entry n (f s) (entries_from f (suc n) ss)

-- a mark where the thread has it open
abbrev pub open_mark : ThreadState → Option (Unit {0})
open_mark s = if s.is_open then Some tt else None

-- the thread's association
abbrev pub association_in : ThreadState → Option Association
association_in s = s.association

-- what contracts see of a list of threads, the first of which is thread 1, in so many seats
abbrev pub thread_table_of : List ThreadState → ℕ → ThreadTable
thread_table_of threads seats = record {
  opened = from_list (map (λ e. e.0) (entries_from open_mark 1 threads));
  associations = from_entries (entries_from association_in 1 threads);
  threads = length threads;
  seats = seats;
}

-- the thread is associated with x
abbrev pub is_thread_with : ThreadState → XidName → Bool
is_thread_with s x = is_association_with s.association x
