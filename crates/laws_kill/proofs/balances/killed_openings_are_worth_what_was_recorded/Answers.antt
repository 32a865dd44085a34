use Rattle.laws_kill.proofs.Worths.{worth_in_turn}
use Rattle.laws_kill.proofs.balances.killed_openings_are_worth_what_was_recorded.Goals as goal

pub returns : goal.returns
returns c = λ accounts m. worth_in_turn c.reopened_openings_go_on_from_what_was_left.ensures m accounts
