-- What a crash of the whole process leaves of an opening, and what the stores and the lanes promise of it.
use Rattle.std.specs.Prelude.{◌≡◌, ℕ, ◌==◌, nat_eq, Option, None, Some, List, [], length, map, slice_get}
use Rattle.std.specs.List.{All, IsDistinct, find, range_with_len}
use Rattle.xa_base.specs.Lists.{Begins}
use Rattle.xa_words.specs.declared.code.Code.{Code}
use Rattle.xa_words.specs.declared.request.Op.{Op}
use Rattle.xa_tables.specs.ManagerTables.{Tables}
use Rattle.xa_tables.specs.Histories.{codes, of_thread, tables_after}
use Rattle.xa_tables.specs.Openings.{IsOpening, reopened}
use Rattle.xa_desk.specs.LedgerViews.{LedgerView}
use Rattle.xa_desk.specs.DeskViews.{sent_to, collected_from}
use Rattle.xa_desk.specs.Lanes.{numbered}
use Rattle.xa_worker.specs.Journal.{Entry, requests, codes_in}
use Rattle.xa_switch.specs.Plans.{Setup}
use Rattle.xa_switch.specs.Settled.{ThreadPart, answers, find_thread, ledgers_in}

-- ---- what a crash leaves

-- of a manager: its number, the tables that it began with, the beginning of its journal that its store has, and the
-- tables that the next opening finds there
pub record CrashedManager : Type 0 where
  pub number : ℕ
  pub first : Tables
  pub kept : List Entry
  pub found : Tables

-- the number of the opening; of each thread what its desk had sent and collected by then; and what is left of each
-- manager
pub record Crash : Type 0 where
  pub opening : ℕ
  pub threads : List ThreadPart
  pub managers : List CrashedManager

-- what is left of the manager with this number
abbrev pub find_crashed : ℕ → List CrashedManager → Option CrashedManager
find_crashed m managers = find (λ p. p.number == m) managers

-- what its store has of its journal, nothing where there is no such manager
abbrev pub kept_in_store : Option CrashedManager → List Entry
kept_in_store None = []
kept_in_store (Some p) = p.kept

abbrev pub kept_at : Crash → ℕ → List Entry
kept_at c m = kept_in_store (find_crashed m c.managers)

-- the ledgers that thread t had, nothing where there is no such thread
abbrev pub ledgers_then : Crash → ℕ → List LedgerView
ledgers_then c t = ledgers_in (find_thread t c.threads)

-- ---- what is promised of it

-- The store has a beginning of the manager's journal, in which each request has the code that the tables give it at
-- its place; and the next opening finds what a reopening makes of the tables after that beginning.
pub record IsCrashedManager (p : CrashedManager) : Type 0 where
  pub opened : IsOpening p.first
  pub coded : codes_in p.kept ≡ codes (requests p.kept) p.first
  pub found_is : p.found ≡ reopened (tables_after (requests p.kept) p.first)

-- Thread t had sent these operations to a manager, and collected these answers from it, by the time of the crash.
pub record AgreeSoFar (t : ℕ) (ops : List Op) (pairs : List (ℕ × Code)) (kept : List Entry) : Type 0 where
  -- the store has of t a beginning of what t sent, in order, with the numbers 0, 1, ..
  pub begun : Begins (of_thread t (requests kept)) (numbered t 0 ops)
  -- no answer was collected twice
  pub once : IsDistinct nat_eq (map (λ p. p.0) pairs)
  -- each was collected with the code that stands at its request's place in the store: no answer ran ahead of the store
  pub told : All (λ p. slice_get (answers t kept) p.0 ≡ Some p) pairs

-- The opening was made with this setup: its number, its threads and its managers, by rising number, and the tables with
-- which each manager began.
pub record IsCrash (p : Setup) (c : Crash) : Type 0 where
  pub opening : c.opening ≡ p.numbers.opening
  pub threads : map (λ q. q.thread) c.threads ≡ range_with_len 1 p.numbers.threads
  pub managers : map (λ q. q.number) c.managers ≡ range_with_len 1 p.managers
  pub first : map (λ q. q.first) c.managers ≡ p.first
  -- each thread has a ledger with each manager
  pub ledgers : All (λ q. length q.ledgers ≡ p.managers) c.threads
  -- of each manager a beginning is left, with which each thread agrees
  pub left : All IsCrashedManager c.managers
  pub agree : (t m : ℕ) → AgreeSoFar t (sent_to (ledgers_then c t) m) (collected_from (ledgers_then c t) m)
      (kept_at c m)
