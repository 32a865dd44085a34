use Rattle.laws_transcript.proofs.Told.{of_script, tells}
use Rattle.laws_transcript.proofs.laws.runs_tell_of_their_journals.Goals as goal

pub returns-clause-managers : goal.returns-clause-managers
returns-clause-managers c = of_script

pub returns-clause-tells : goal.returns-clause-tells
returns-clause-tells c = tells
