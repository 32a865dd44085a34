-- A worker's journal: the requests in the order in which they were taken, each with its code.
use Rattle.std.specs.Prelude.{◌≡◌, ℕ, ◌-◌, ◌==◌, None, List, map, filter}
use Rattle.xa_words.specs.declared.code.Code.{Code}
use Rattle.xa_words.specs.declared.request.Request.{Request}
use Rattle.xa_words.specs.declared.request.Completion.{Completion}
use Rattle.xa_tables.specs.ManagerTables.{Tables}
use Rattle.xa_tables.specs.Next.{next}
use Rattle.xa_tables.specs.Managers.{Managed}
use Rattle.xa_tables.specs.Histories.{History, codes, tables_after}

-- a request, and the code that it was given
abbrev pub Entry : Type 0
Entry = Request × Code

-- the entry of a request with this code
abbrev pub entry : Request → Code → Entry
entry r c = (r, c)

-- the entry of a request with the code that the tables T give it
abbrev pub entry_next : Request → Tables → Entry
entry_next r T = entry r (next r.thread r.op T).1

-- the tables after it
abbrev pub tables_next : Request → Tables → Tables
tables_next r T = (next r.thread r.op T).0

-- a manager that has carried out one request more
abbrev pub after_request : Request → Managed → Managed
after_request r m =
    record { tables = tables_next r m.tables; threads = m.threads; room = m.room - 1; reserved = None }

-- the requests of a journal
abbrev pub requests : List Entry → History
requests journal = map (λ e. e.0) journal

-- the codes in a journal
abbrev pub codes_in : List Entry → List Code
codes_in journal = map (λ e. e.1) journal

-- after the tables `first` each entry has the code of its place, and `now` are the tables after them all
pub record Follows (first : Tables) (journal : List Entry) (now : Tables) : Type 0 where
  pub codes_then : codes_in journal ≡ codes (requests journal) first
  pub tables_then : now ≡ tables_after (requests journal) first

-- the answer of manager m that an entry owes
abbrev pub completion_of : ℕ → Entry → Completion
completion_of m e = record { manager = m; number = e.0.number; code = e.1 }

-- the completions of manager m that a journal owes thread t, in its order
abbrev pub owed : ℕ → ℕ → List Entry → List Completion
owed m t journal = map (completion_of m) (filter (λ e. e.0.thread == t) journal)
