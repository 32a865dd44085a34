use Rattle.xa_log_file.proofs.Noted.{kept_to}
use Rattle.xa_log_file.proofs.notes.Notes.add_sync.Goals as goal

pub returns-clause-kept : goal.returns-clause-kept
returns-clause-kept c =
    kept_to c.args.self.now.syncs.items c.and-self.result.items tt c.args.self.now.calls c.and-self.ensures
