use Rattle.xa_log_file.specs.{Wrote}
use Rattle.xa_log_file.proofs.Noted.{given_to}
use Rattle.xa_log_file.proofs.notes.Notes.add_write.Goals as goal

pub returns-clause-given : goal.returns-clause-given
returns-clause-given c =
    given_to c.args.self.now.calls.items c.and-self.result.items (Wrote c.args.at c.args.len) c.args.copy.now
    c.and-self.ensures
