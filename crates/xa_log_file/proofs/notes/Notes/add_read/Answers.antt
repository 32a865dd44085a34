use Rattle.xa_log_file.specs.{Read}
use Rattle.xa_log_file.proofs.Noted.{found_to, given_to}
use Rattle.xa_log_file.proofs.notes.Notes.add_read.Goals as goal

pub returns-clause-found : goal.returns-clause-found
returns-clause-found c =
    found_to c.args.self.now.calls.items c.and-self.result.items Read c.args.bytes.now c.and-self.ensures

pub returns-clause-given : goal.returns-clause-given
returns-clause-given c =
    given_to c.args.self.now.calls.items c.and-self.result.items Read c.args.bytes.now c.and-self.ensures
