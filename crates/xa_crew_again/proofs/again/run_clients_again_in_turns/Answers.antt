use Rattle.xa_base.proofs.{arith}
use Rattle.xa_crew_again.proofs.again.run_clients_again_in_turns.Goals as goal

pub returns-in-Ok-run_in_turns-clause-ran : goal.returns-in-Ok-run_in_turns-clause-ran
returns-in-Ok-run_in_turns-clause-ran g c = grind arith
