use Rattle.laws_shown.proofs.Adds.{places}
use Rattle.laws_shown.proofs.lines_have_their_places.Goals as goal

pub returns : goal.returns
returns c = places
