use Rattle.xa_base.proofs.{arith, of_z, to_z-of_z, to_z, to_z_pos}
use Rattle.xa_calls.proofs.Recovered.{recovered_so}
use Rattle.xa_calls.proofs.recovering.xa_recover.Goals as goal

pub returns-in-Ok-clause-waited : goal.returns-in-Ok-clause-waited
returns-in-Ok-clause-waited g c = search (arith, to_z, to_z_pos, c.in-Ok.ensures.bound, c.in-Ok.found)

pub returns-in-Ok-clause-recovered : goal.returns-in-Ok-clause-recovered
returns-in-Ok-clause-recovered g c = recovered_so (returns-in-Ok-clause-waited g c)

pub returns-in-Err-clause-waited : goal.returns-in-Err-clause-waited
returns-in-Err-clause-waited g c = search (arith, to_z, of_z, to_z-of_z, c.value.result)

pub returns-in-Err-clause-recovered : goal.returns-in-Err-clause-recovered
returns-in-Err-clause-recovered g c = recovered_so (returns-in-Err-clause-waited g c)
