pub mod Reasons
pub mod ManagerTables
pub mod Views
pub mod Lending
pub mod Next
pub mod Steps
pub mod Accounts
pub mod Held
pub mod Managers
pub mod Histories
pub mod Openings
pub mod Prepared
pub mod Worth
pub mod Durable
pub mod Restored
-- The words of this crate, by its name.
pub use Reasons.{decision_code, reason_code}
pub use ManagerTables.{Tables, Touch, association_of, associations_code, branch_in, branch_of, decision_in}
pub use ManagerTables.{heuristic_code_of, exists, has_association, has_opened, has_other_touched, has_touched, is_S1}
pub use ManagerTables.{is_S2, is_S3, is_S4, is_S5, is_T1, is_T2, is_active, is_associated, is_association_with}
pub use ManagerTables.{is_at_work, is_broken, is_completed, is_declared, is_idle, is_left, is_left_in, is_prepared}
pub use ManagerTables.{is_rollback_only, is_somebody_associated, is_suspended, is_suspended_state, is_touched}
pub use ManagerTables.{is_within, no_xid, posted, reason_in, reason_of, set_code, state_of, states_code, sum_of}
pub use ManagerTables.{sums_code, sums_without, touch_cmp, value_of, values_code}
pub use Views.{BranchTable, PlaceTable, ThreadTable, association_in, branch_table_code, entries_from, is_thread_with}
pub use Views.{open_mark, place_table_code, thread_table_code, thread_table_of, with_entry}
pub use Lending.{HasState, LendsState}
pub use Next.{TablesAndCode, add, added, associated, association, by_rules, close_rm, commit_one, commit_two, committed}
pub use Next.{completed_heuristically, dissociated, end, forget, gone, heur, if_opened, is_fail, is_suspend, listed}
pub use Next.{needs_opening, open_rm, prepare, rollback, shut_down, start, start_fresh, start_join, start_resume}
pub use Next.{stated, suspended, unless_shut, with_association}
unfoldable pub use Next.{next}
pub use Steps.{closing_vote, decided, ended, ended_by, may_prepare, refusal, state_with, suspends_again}
pub use Accounts.{AreApart, AreDistinct, AreIndexed, Holdings, IsGood, IsSmall, account_of, added_to, all_but}
pub use Accounts.{amount_in, amount_of, declared_values, hold_amount, hold_breaks, hold_entries, hold_is_of}
pub use Accounts.{hold_is_other, hold_where, hold_without, holdings_code, holdings_of, is_broken_by, is_held_by}
pub use Accounts.{is_held_by_other, kept_where, key_at, keys_of, later_place, place_in, posted_by, prepared_in}
pub use Accounts.{value_entries, with_hold}
pub use Held.{AreHeld, is_held, is_held_at, noted, own_sum, passes_at, sum_at}
pub use Managers.{AreAssociationsLive, ArePreparedSound, BeginsWithTables, UsesAtMost, Managed, TablesWithRoom}
pub use Managers.{count_if, free_threads, is_free, managed_code, opening, places_taken, tables_code, tables_of}
pub use Managers.{tables_with_room_code}
pub use Histories.{Absent, ActiveWhileAssociated, Committed, EndsNowhere, Fate, HeurCommitted, HeurRolledBack, History}
pub use Histories.{InDoubt, IsFateOf, LateAddNothing, LateAreRefused, LateChangeNothing, Live, OnlyUnfinishedTouch}
pub use Histories.{ReadOnly, RolledBack, StaysWithin, accepted, added_by, added_in, carried_out, coded, codes}
pub use Histories.{commit_fate, commits_later, decided_fate, ending, ending_of_fate, fate, fate_in, fate_of, fates_in}
pub use Histories.{first_shut, heur_fate, if_named, is_in_doubt, is_live}
pub use Histories.{is_shut, is_unfinished, last_or, late, of_thread, or_later, parted, prepare_fate}
pub use Histories.{rollback_fate, share, share_of, start_fate, tables_after}
pub use Openings.{AreLeft, FatesAreTold, IsNew, IsOpening, ValueIsSum, added_over, commits_over, fate_left, fate_over}
pub use Openings.{left_by, reopened, reopened_fate, fate_of_state, value_over}
pub use Prepared.{AwaitsAfter, AwaitsTheOutcome, IsPrepared, IsToldDecision, LeavesWaiting, NamesNowhere, OnlyDecides}
pub use Prepared.{StaysAsItWas, StaysPrepared, answer_when, closes, fates_when, has_shut, is_close, is_forget, is_heur}
pub use Prepared.{names, state_when}
pub use Worth.{DeclareEach, HoldsItsAdditions, WorthIsMoved, WorthIsMovedFrom, added_by_now, gain, held_by, is_any}
pub use Worth.{is_of, moved, moved_by, unless_ended, worth, worth_declared}
pub use Durable.{FindsAlike, is_durable_at, is_settling, moves_values}
pub use Restored.{HasEachOnce, IsStoreOf, Stored, amount_fault, branch_fault, fault_beside, fault_in}
pub use Restored.{fault_of, first_fault}
pub use Restored.{restored, stored, stored_state, stored_value, sum_entries, sum_fault, sums_fault}
pub use declared.accounts.Account.{Account}
pub use declared.accounts.Hold.{Hold}
pub use declared.state.Association.{Association}
pub use declared.state.AssociationState.{AssociationState}
pub use declared.state.AssociationState.TheVariants.{Associated, Suspended}
pub use declared.state.HeuristicDecision.{HeuristicDecision}
pub use declared.state.HeuristicDecision.TheVariants.{Commit, Rollback}
pub use declared.state.RollbackReason.{RollbackReason}
pub use declared.state.RollbackReason.TheVariants.{Failed, Transient}
pub use declared.state.State.{State}
pub use declared.state.State.TheVariants.{Active, HeuristicallyCompleted, Idle, RollbackOnly}
pub use declared.restored.RestoreFault.{RestoreFault}
pub use declared.restored.RestoreFault.TheVariants.{BadAccounts, BranchTwice, KeyTwice, NoMemory, NotLeft, NotPrepared}
pub use declared.restored.RestoreFault.TheVariants.{OutOfLimits, UnknownKey}
pub use declared.restored.Sum.{Sum}
pub use declared.threads.ThreadState.{ThreadState}
