use Rattle.xa_base.proofs.{subst}
use Rattle.xa_log_file.specs.{HasRecords}
use Rattle.xa_log_file.proofs.folder.LogFolder.open_log.Goals as goal

-- the log's device has what the file's had
pub returns-in-Ok-clause-reads : goal.returns-in-Ok-clause-reads
returns-in-Ok-clause-reads c =
    λ records there. c.in-Ok.ensures.reads records (subst (HasRecords records) c.in-Ok.ensures.seen there)
