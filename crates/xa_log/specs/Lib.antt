pub mod Transactions
pub mod Log
pub mod Trial
-- The words of this crate, by its name.
pub use Transactions.{tran_cmp}
pub use Log.{AppendsTo, AreNew, ForgetsFrom, IsEither, IsReadAs, LogState, LogView, Records, all_records, counted_up}
pub use Log.{is_among, log_code, no_records, record_in, record_of, room_by_spare, with_failure, with_only, with_record}
pub use Log.{with_records, without_record}
pub use Trial.{AppendsOver, ForgetsOver, TrialIsKnown, IsSameTrial, LosesOver, TrialWasAsked, fails_next, loses_next}
pub use Trial.{new_trial, trial_reopened, trial_state}
pub use declared.log.CommitRecord.{CommitRecord}
pub use declared.trial.TrialLog.{TrialLog}
