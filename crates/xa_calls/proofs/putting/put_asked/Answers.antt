use Rattle.xa_base.proofs.{◌≡◌, arith, of_z, w32, to_z-of_z, ints, to_z}
use Rattle.xa_calls.proofs.putting.put_asked.Goals as goal

pub returns-in-Ok-clause-calls : goal.returns-in-Ok-clause-calls
returns-in-Ok-clause-calls g c =
    let told : to_z w32 (of_z w32 c.put.result) ≡ c.put.result = to_z-of_z w32 c.put.result (omega (arith, ints)) in
    rw (c.in-Ok.is, told) c.put.ensures.puts

pub returns-in-Ok-clause-waited : goal.returns-in-Ok-clause-waited
returns-in-Ok-clause-waited g c = search (arith, to_z, of_z, to_z-of_z)
