use Rattle.xa_desk.proofs.GoingOn.{kept_leaves, freed_leaves}
use Rattle.xa_desk.proofs.laws.keeping_leaves_others.Goals as goal

pub returns : goal.returns
returns c = record { kept = kept_leaves; freed = freed_leaves }
