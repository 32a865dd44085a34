-- What a settled opening has of a thread, and what became of branches there.
use Rattle.std.specs.Prelude.{◌≡◌, ℕ, Option, None, Some, option_map, List, [], ◌∷◌, ◌++◌}
use Rattle.std.specs.FinMap as finmap
use Rattle.xa_words.specs.Xid.{XidName}
use Rattle.xa_tables.specs.ManagerTables.{Tables}
use Rattle.xa_tables.specs.Histories.{History, Fate, fate, coded, tables_after}
use Rattle.xa_tables.specs.Openings.{IsOpening, value_over}
use Rattle.xa_desk.specs.LedgerViews.{LedgerView}
use Rattle.xa_worker.specs.Journal.{requests}
use Rattle.xa_switch.specs.Settled.{ManagerPart, Settling, ledgers_in, find_thread, find_manager, journal, value}

-- what the settled opening has of thread t
abbrev pub ledgers_of : Settling → ℕ → List LedgerView
ledgers_of s t = ledgers_in (find_thread t s.threads)

-- what manager m took, in order
abbrev pub history : Settling → ℕ → History
history s m = requests (journal s m)

-- what manager m began with; nothing where there is no such manager
abbrev pub first_of : Settling → ℕ → Option Tables
first_of s m = option_map (λ p. p.first) (find_manager m s.managers)

-- what became of a branch at manager m by the manager's journal, where its fate was f as the opening began
abbrev pub fate_at_manager : XidName → Fate → Option ManagerPart → Fate
fate_at_manager x f None = f
fate_at_manager x f (Some p) = fate x f (requests p.journal) p.first

abbrev pub settled_fate : Settling → ℕ → XidName → Fate → Fate
settled_fate s m x f = fate_at_manager x f (find_manager m s.managers)

-- The tables are those that manager m began with, any without a key for no manager: its journal is what they make of
-- the requests that it took, and so is what became of each branch; and the value of a key is that in the tables after
-- them.
pub record IsOpenedWith (s : Settling) (m : ℕ) (T : Tables) : Type 0 where
  pub opened : IsOpening T
  pub codes : journal s m ≡ coded (history s m) T
  pub fates : (x : XidName) (f : Fate) → settled_fate s m x f ≡ fate x f (history s m) T
  pub values : (k : List ℕ) → value s m k ≡ finmap.get (tables_after (history s m) T).values k

-- Over openings one after another, of which those before this one had the histories `before` at manager m, and the
-- first began with the tables T: the value of a key is that at the first opening, and each accepted addition whose
-- branch commits later, in its own opening or in another.
abbrev pub IsSumOver : Settling → ℕ → List History → Tables → Type 0
IsSumOver s m before T = (k : List ℕ) → value s m k ≡ value_over k (before ++ history s m ∷ []) T
