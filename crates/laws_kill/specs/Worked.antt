-- A worked crash: one thread and two managers. Of the first manager's two requests the first is in the store and was
-- answered, the second is lost; the second manager's store has nothing.
use Rattle.std.specs.Prelude.{ℕ, true, List, [], ◌∷◌}
use Rattle.xa_words.specs.declared.code.Code.{Code}
use Rattle.xa_words.specs.declared.code.Code.TheVariants.{Done, RmFail}
use Rattle.xa_words.specs.declared.request.Op.{Op}
use Rattle.xa_words.specs.declared.request.Op.TheVariants.{CloseRm, OpenRm}
use Rattle.xa_tables.specs.Histories.{tables_after}
use Rattle.xa_tables.specs.Managers.{opening}
use Rattle.xa_tables.specs.Openings.{reopened}
use Rattle.laws_tables.specs.Crashes.{shut_by}
use Rattle.laws_tables.specs.Work.{request}
use Rattle.xa_desk.specs.LedgerViews.{LedgerView}
use Rattle.xa_worker.specs.Journal.{Entry, entry, requests}
use Rattle.xa_switch.specs.Plans.{Setup, setup}
use Rattle.xa_switch.specs.Settled.{ThreadPart}
use Rattle.laws_kill.specs.Crashes.{Crash, CrashedManager}

-- one thread, and two managers without accounts
abbrev pub worked_setup : Setup
worked_setup =
    setup (record { opening = 7; threads = 1; handles = 8; queue = 8; requests = 64 }) (true ∷ true ∷ [])
    (opening [] ∷ opening [] ∷ [])

-- what is left of a manager that began so, and of which the store has this
abbrev pub worked_manager : ℕ → List Entry → CrashedManager
worked_manager m kept =
    record {
      number = m;
      first = opening [];
      kept = kept;
      found = reopened (tables_after (requests kept) (opening []));
    }

-- a ledger of which these were sent, and these answers collected
abbrev pub worked_ledger : List Op → List (ℕ × Code) → LedgerView
worked_ledger sent collected = record { carries_async = true; plan = 64; sent = sent; collected = collected }

-- of its two requests the first was answered
abbrev pub first_ledger : LedgerView
first_ledger = worked_ledger (OpenRm ∷ CloseRm ∷ []) ((0, Done) ∷ [])

-- the thread, with a ledger for each manager
abbrev pub worked_thread : ThreadPart
worked_thread = record { thread = 1; ledgers = first_ledger ∷ worked_ledger (OpenRm ∷ []) [] ∷ [] }

abbrev pub worked_crash : Crash
worked_crash =
    record {
      opening = 7;
      threads = worked_thread ∷ [];
      managers = worked_manager 1 (entry (request 1 0 OpenRm) Done ∷ []) ∷ worked_manager 2 [] ∷ [];
    }

-- the journals of the settled opening: what the stores have, the Shut of thread 2, and what they lack, which is refused
abbrev pub first_journal : List Entry
first_journal = entry (request 1 0 OpenRm) Done ∷ entry (shut_by 2) Done ∷ entry (request 1 1 CloseRm) RmFail ∷ []

abbrev pub second_journal : List Entry
second_journal = entry (shut_by 2) Done ∷ entry (request 1 0 OpenRm) RmFail ∷ []

-- what thread 1 has collected of the first manager there
abbrev pub first_answers : List (ℕ × Code)
first_answers = (0, Done) ∷ (1, RmFail) ∷ []
