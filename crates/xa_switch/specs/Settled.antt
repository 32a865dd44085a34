-- What a settled opening has: what was sent, what was carried out and what was collected agree.
use Rattle.std.specs.Prelude.{◌≡◌, ◌↔◌, ℕ, ℤ, ◌<◌, nat_eq, true, ◌==◌, List, [], length, map, filter, slice_get, Option}
use Rattle.std.specs.Prelude.{Some, None, ◌++◌}
use Rattle.std.specs.List.{All, IsDistinct, list_any, find}
use Rattle.std.specs.FinMap as finmap
use Rattle.xa_words.specs.declared.code.Code.{Code}
use Rattle.xa_words.specs.declared.request.Op.{Op}
use Rattle.xa_tables.specs.ManagerTables.{Tables}
use Rattle.xa_tables.specs.Histories.{History, of_thread, codes, tables_after, accepted, first_shut, late, carried_out}
use Rattle.xa_tables.specs.Openings.{IsOpening}
use Rattle.xa_desk.specs.LedgerViews.{LedgerView}
use Rattle.xa_desk.specs.DeskViews.{sent_to, collected_from}
use Rattle.xa_desk.specs.Lanes.{numbered}
use Rattle.xa_worker.specs.Journal.{Entry, requests, codes_in}

-- ---- what a settled opening has

-- of a thread: its number, and its ledger with each manager
pub record ThreadPart : Type 0 where
  pub thread : ℕ
  pub ledgers : List LedgerView

-- of a manager: its number, the tables that it began with, what it took, in order, its journal, and its tables at the
-- end
pub record ManagerPart : Type 0 where
  pub number : ℕ
  pub first : Tables
  pub taken : History
  pub journal : List Entry
  pub last : Tables

-- the same, and for how many threads and requests there is room at the next opening
pub record ReadyPart : Type 0 where
  pub part : ManagerPart
  pub reserved : Option (ℕ × ℕ)

-- the number of the opening, and the parts of all threads and of all managers
pub record Settling : Type 0 where
  pub opening : ℕ
  pub threads : List ThreadPart
  pub managers : List ManagerPart

-- the part of the thread, or of the manager, with this number
abbrev pub find_thread : ℕ → List ThreadPart → Option ThreadPart
find_thread t parts = find (λ p. p.thread == t) parts

abbrev pub find_manager : ℕ → List ManagerPart → Option ManagerPart
find_manager m parts = find (λ p. p.number == m) parts

-- the ledgers and the journal of a part, nothing where there is none
abbrev pub ledgers_in : Option ThreadPart → List LedgerView
ledgers_in None = []
ledgers_in (Some p) = p.ledgers

abbrev pub journal_in : Option ManagerPart → List Entry
journal_in None = []
journal_in (Some p) = p.journal

-- what thread t sent to manager m, in order; nothing where one of them isn't there
abbrev pub sent : Settling → ℕ → ℕ → List Op
sent s t m = sent_to (ledgers_in (find_thread t s.threads)) m

-- what thread t collected from manager m, in the order of collection: numbers with their codes
abbrev pub collected : Settling → ℕ → ℕ → List (ℕ × Code)
collected s t m = collected_from (ledgers_in (find_thread t s.threads)) m

-- what manager m took, in order, each request with its code
abbrev pub journal : Settling → ℕ → List Entry
journal s m = journal_in (find_manager m s.managers)

-- ---- that it agrees

-- the numbers of thread t's requests in a journal with their codes, in order
abbrev pub answers : ℕ → List Entry → List (ℕ × Code)
answers t entries = map (λ e. (e.0.number, e.1)) (filter (λ e. e.0.thread == t) entries)

-- the number is among those that were collected
abbrev pub HasNumber : ℕ → List (ℕ × Code) → Type 0
HasNumber n pairs = list_any (nat_eq n) (map (λ p. p.0) pairs) ≡ true

-- What thread t sent to a manager, what it collected from it and the manager's journal agree.
pub record Agree (t : ℕ) (ops : List Op) (pairs : List (ℕ × Code)) (entries : List Entry) : Type 0 where
  -- the journal has of t exactly what t sent, in order, with the numbers 0, 1, ..
  pub carried : of_thread t (requests entries) ≡ numbered t 0 ops
  -- each of these numbers was collected, and no other
  pub each : (n : ℕ) → n < length ops ↔ HasNumber n pairs
  -- none was collected twice
  pub once : IsDistinct nat_eq (map (λ p. p.0) pairs)
  -- each was collected with the code that stands at its request's place in the journal
  pub coded : All (λ p. slice_get (answers t entries) p.0 ≡ Some p) pairs

-- The manager began as at an opening, its journal has what it took, each entry with the code that the sequential tables
-- give at its place, and what it carried out is what it accepted.
pub record FollowsTables (p : ManagerPart) : Type 0 where
  -- at first nobody had it open, it had no branch but those that were left, and it wasn't shut
  pub opened : IsOpening p.first
  -- from these tables on each request has the code that `next` gives after those before it
  pub coded : codes_in p.journal ≡ codes (requests p.journal) p.first
  -- the journal has what was taken, in that order: the accepted requests, then the first Shut, then the late ones
  pub entered : requests p.journal ≡ accepted p.taken ++ (first_shut p.taken ++ late p.taken)
  -- what was carried out is what was accepted
  pub carried : carried_out p.journal ≡ accepted p.taken
  -- and it left the tables that it leaves by the sequential tables
  pub left : p.last ≡ tables_after (requests p.journal) p.first

-- For every thread and every manager what was sent, carried out and collected agree, and each manager carried out what
-- its journal has as the sequential tables do.
pub record IsSettled (s : Settling) : Type 0 where
  pub agree : (t m : ℕ) → Agree t (sent s t m) (collected s t m) (journal s m)
  pub tables : All FollowsTables s.managers

-- ---- values

-- the value that a manager's tables have of a key at the end
abbrev pub value_in : List ℕ → Option ManagerPart → Option ℤ
value_in k None = None
value_in k (Some p) = finmap.get p.last.values k

-- the value that manager m's tables have of a key at the end; none for a manager or a key that isn't there
abbrev pub value : Settling → ℕ → List ℕ → Option ℤ
value s m k = value_in k (find_manager m s.managers)
