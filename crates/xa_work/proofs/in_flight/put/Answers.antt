use Rattle.xa_base.proofs.{◌≡◌, true, false, ℤ, arith, w32, to_z-of_z, ints}
use Rattle.xa_work.specs.{op_of_step}
use Rattle.xa_work.proofs.Sent.{full_stays, put_by, put_later, stays_on}
use Rattle.xa_work.proofs.in_flight.put.Goals as goal

pub loop-preserved : goal.loop-preserved
loop-preserved g c = grind (arith, to_z-of_z, stays_on, full_stays, put_by)

pub returns-then-not-is_full-clause-puts : goal.returns-then-not-is_full-clause-puts
returns-then-not-is_full-clause-puts g c =
    let b = c.args.branch.now in
    let answer : ℤ = c.take_step-handle.result in
    record {
      puts =
          rw (to_z-of_z w32 answer (omega (arith, ints)))
          (put_later b.m (op_of_step b.xid c.args.step.now) answer _ c.loop.desk _ c.loop.invariant.stays
          (put_by b.m (op_of_step b.xid c.args.step.now) answer _ _ c.take_step-handle.ensures.puts));
      unfull = λ full. let yes_ : c.is_full.result ≡ true = c.is_full.ensures.1 full in let
          no_ : c.is_full.result ≡ false = c.if-not-is_full.true in cc;
    }
