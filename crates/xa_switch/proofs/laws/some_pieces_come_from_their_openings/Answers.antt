use Rattle.xa_switch.proofs.Dealing.{some_come}
use Rattle.xa_switch.proofs.laws.some_pieces_come_from_their_openings.Goals as goal

pub returns : goal.returns
returns c = λ ds some_ds ws some_ws of_ds of_ws h. some_come ds some_ds ws some_ws of_ds of_ws h
