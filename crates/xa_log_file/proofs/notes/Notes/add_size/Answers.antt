use Rattle.xa_log_file.proofs.Noted.{told_to}
use Rattle.xa_log_file.proofs.notes.Notes.add_size.Goals as goal

pub returns-clause-told : goal.returns-clause-told
returns-clause-told c = told_to c.args.self.now.sizes.items c.and-self.result.items tt c.args.size c.and-self.ensures
