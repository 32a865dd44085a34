-- The settled opening that a crash is as: one more thread has shut each manager where its store ends, and each desk has
-- collected what was outstanding.
use Rattle.std.specs.Prelude.{◌≡◌, ℕ, suc, ◌+◌, not, Bool, Option, None, Some, List, [], ◌∷◌, ◌++◌}
use Rattle.std.specs.Prelude.{length, map, filter, drop, false}
use Rattle.std.specs.List.{flat_map}
use Rattle.xa_base.specs.Lists.{IsUpTo}
use Rattle.xa_base.specs.declared.limits.TheConstants.{MOST_MANAGERS}
use Rattle.xa_words.specs.declared.code.Code.TheVariants.{RmFail}
use Rattle.xa_words.specs.declared.request.Op.{Op}
use Rattle.xa_words.specs.declared.request.Op.TheVariants.{Shut}
use Rattle.xa_tables.specs.ManagerTables.{Tables}
use Rattle.xa_tables.specs.Histories.{of_thread, tables_after}
use Rattle.laws_tables.specs.Crashes.{shut_by}
use Rattle.xa_desk.specs.LedgerViews.{LedgerView, is_collected}
use Rattle.xa_desk.specs.DeskViews.{sent_to}
use Rattle.xa_desk.specs.Growth.{HaveGrown}
use Rattle.xa_desk.specs.Lanes.{numbered}
use Rattle.xa_worker.specs.Journal.{Entry, entry_next, requests}
use Rattle.xa_switch.specs.declared.plan.Again.{Again}
use Rattle.xa_switch.specs.Plans.{Setup, setup}
use Rattle.xa_switch.specs.Settled.{ThreadPart, ManagerPart, Settling, IsSettled, answers}
use Rattle.xa_switch.specs.OfPlans.{IsOf}
use Rattle.xa_switch.specs.Fates.{history, ledgers_of}
use Rattle.xa_switch.specs.Reopening.{IsWhole, reopened_at}
use Rattle.laws_kill.specs.Crashes.{CrashedManager, Crash, find_crashed, ledgers_then}

-- ---- one more thread

-- the number of one more thread than there are, which is nobody's
abbrev pub shutting_thread : Crash → ℕ
shutting_thread c = suc (length c.threads)

-- the setup with one more thread
abbrev pub with_a_thread : Setup → Setup
with_a_thread p = record p { numbers = record p.numbers { threads = p.numbers.threads + 1 } }

-- ---- the journals

-- the tables up to which the store has the manager's journal
abbrev pub tables_kept : CrashedManager → Tables
tables_kept p = tables_after (requests p.kept) p.first

-- its Shut by thread v, with the code that these tables give it
abbrev pub shut_entry : ℕ → CrashedManager → Entry
shut_entry v p = entry_next (shut_by v) (tables_kept p)

-- what thread t had sent to the manager and the store lacks: it comes after the Shut, so it is late, and is refused
abbrev pub lost_of : ℕ → List Op → List Entry → List Entry
lost_of t ops kept = map (λ r. (r, RmFail)) (drop (length (of_thread t (requests kept))) (numbered t 0 ops))

-- the same of all these threads
abbrev pub lost : List ThreadPart → CrashedManager → List Entry
lost threads p = flat_map (λ q. lost_of q.thread (sent_to q.ledgers p.number) p.kept) threads

-- what the store has, then the Shut by thread v, and then what the store lacks
abbrev pub journal_shut : ℕ → List ThreadPart → CrashedManager → List Entry
journal_shut v threads p = p.kept ++ shut_entry v p ∷ lost threads p

-- the manager with that journal
abbrev pub shut_off : ℕ → List ThreadPart → CrashedManager → ManagerPart
shut_off v threads p =
    let entries : List Entry = journal_shut v threads p in
    record {
      number = p.number;
      first = p.first;
      taken = requests entries;
      journal = entries;
      last = tables_after (requests entries) p.first;
    }

-- the journal of one that may not be there
abbrev pub journal_of : ℕ → List ThreadPart → Option CrashedManager → List Entry
journal_of v threads None = []
journal_of v threads (Some p) = journal_shut v threads p

-- the journal of manager m
abbrev pub journal_at : Crash → ℕ → List Entry
journal_at c m = journal_of (shutting_thread c) c.threads (find_crashed m c.managers)

-- ---- the ledgers

-- a ledger of thread t once its desk has collected what was outstanding, in order
abbrev pub collected_all : ℕ → List Entry → LedgerView → LedgerView
collected_all t entries a =
    record a { collected = a.collected ++ filter (λ p. not (is_collected a p.0)) (answers t entries) }

-- so with manager m and those after it, which have these journals
abbrev pub all_collected : (ℕ → List Entry) → ℕ → ℕ → List LedgerView → List LedgerView
all_collected journals t m [] = []
all_collected journals t m (a ∷ at) = collected_all t (journals m) a ∷ all_collected journals t (suc m) at

-- so of a thread
abbrev pub thread_collected : (ℕ → List Entry) → ThreadPart → ThreadPart
thread_collected journals q = record q { ledgers = all_collected journals q.thread 1 q.ledgers }

-- the ledger of thread v, which has sent the manager its Shut and nothing else, and collected it
abbrev pub shut_ledger : ℕ → CrashedManager → LedgerView
shut_ledger v p =
    record { carries_async = false; plan = 1; sent = Shut ∷ []; collected = (0, (shut_entry v p).1) ∷ [] }

abbrev pub shutting_part : ℕ → List CrashedManager → ThreadPart
shutting_part v managers = record { thread = v; ledgers = map (shut_ledger v) managers }

-- ---- the opening

-- the settled opening: all its threads and one more
abbrev pub as_settled : Crash → Settling
as_settled c =
    record {
      opening = c.opening;
      threads =
          map (thread_collected (journal_at c)) c.threads ++ shutting_part (shutting_thread c) c.managers ∷ [];
      managers = map (shut_off (shutting_thread c) c.threads) c.managers;
    }

-- What that gives: it is a settled opening of the setup with one more thread, and whole; each manager leaves to the
-- next opening what is found in its store; and what each thread had sent and collected by the crash is a beginning of
-- what it has sent and collected there.
pub record IsAsSettled (p : Setup) (c : Crash) : Type 0 where
  pub settled : IsSettled (as_settled c)
  pub of : IsOf (with_a_thread p) (as_settled c)
  pub whole : IsUpTo MOST_MANAGERS p.managers → IsWhole (as_settled c)
  pub found : (m : ℕ) (q : CrashedManager) → find_crashed m c.managers ≡ Some q
      → reopened_at (as_settled c).managers m ≡ q.found
  pub grown : (t : ℕ) → HaveGrown (ledgers_then c t) (ledgers_of (as_settled c) t)

-- ---- the next opening

-- what an opening over the stores is made with: each manager begins with what is found in its store
abbrev pub over_stores : Crash → Again → List Bool → Setup
over_stores c again flags = setup again flags (map (λ p. p.found) c.managers)

-- nothing was requested in it
abbrev pub HasNoRequests : Settling → Type 0
HasNoRequests s = (m : ℕ) → history s m ≡ []
