use Rattle.xa_log_file.specs.{Rewrote}
use Rattle.xa_log_file.proofs.Noted.{given_to}
use Rattle.xa_log_file.proofs.notes.Notes.add_rewrite.Goals as goal

pub returns-clause-given : goal.returns-clause-given
returns-clause-given c =
    given_to c.args.self.now.calls.items c.and-self.result.items Rewrote c.args.bytes.now c.and-self.ensures
