use Rattle.xa_base.proofs.{ℕ, ◌<◌, get_or}
use Rattle.xa_log.specs.{CommitRecord}
use Rattle.xa_log_file.specs.{IsValid}
use Rattle.xa_log_file.proofs.recording.are_valid.Given as goal

abbrev pub invariant-loop-decision : goal.invariant-loop-decision
invariant-loop-decision l = (k : ℕ) (d : CommitRecord) → k < l.decision-index → IsValid (get_or l.decisions k d)
