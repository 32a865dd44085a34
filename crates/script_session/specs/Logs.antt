-- The log of a thread of a script: one in memory, which refuses and loses the appends that the script names.
use Rattle.xa_log.specs.Log.{AppendsTo, LogState, LogView}
use Rattle.xa_log.specs.Trial.{AppendsOver, TrialIsKnown, LosesOver, trial_state}
use Rattle.xa_log.specs.declared.trial.TrialLog.{TrialLog}
use Rattle.xa_driver.specs.Outcomes.{LogKind}

abbrev pub ThreadLog : Type 0
ThreadLog = TrialLog LogView

-- its records, and how many of its appends were refused
abbrev pub log_state : ThreadLog → LogState
log_state log = trial_state (λ (found : LogView). found.state) log

-- what an append does to it: the log in memory loses none
abbrev pub thread_log : LogKind ThreadLog
thread_log = record {
  knows = TrialIsKnown (λ found. Unit {0});
  appends = AppendsOver AppendsTo;
  loses = LosesOver (λ found. found.state) (λ found. Unit {0}) AppendsTo (λ tran yes old new. ⊥);
}
