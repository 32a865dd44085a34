use Rattle.xa_base.proofs.{arith, refl, all_handled, each_made, fits_next, next_handled}
use Rattle.xa_crew.proofs.run.apart.Goals as goal

pub push_reserved-requires : goal.push_reserved-requires
push_reserved-requires g c =
    omega (
      arith,
      fits_next c.loop-worked.invariant.clients c.in-Some.worked c.next.new.self c.in-Some.ensures.steps.0
          c.requires.room,
    )

pub push_reserved-requires-in-loop-worked : goal.push_reserved-requires-in-loop-worked
push_reserved-requires-in-loop-worked g c =
    omega (
      arith,
      fits_next c.loop-worked.invariant.desks c.in-Some.worked c.next.new.self c.in-Some.ensures.steps.0
          c.requires.desk_room,
    )

pub loop-worked-preserved : goal.loop-worked-preserved
loop-worked-preserved g c =
    let one = c.in-Some.worked in
    record {
      clients =
          next_handled c.loop-worked.invariant.clients one one.attended c.next.new.self c.push_reserved.new.self
          c.in-Some.ensures.steps
          c.push_reserved.ensures.items c.push_reserved.ensures.capacity refl;
      desks =
          next_handled c.loop-worked.invariant.desks one one.desk c.next.new.self
          c.push_reserved-in-loop-worked.new.self c.in-Some.ensures.steps
          c.push_reserved-in-loop-worked.ensures.items c.push_reserved-in-loop-worked.ensures.capacity refl;
    }

pub returns-clause-clients : goal.returns-clause-clients
returns-clause-clients g c =
    each_made (λ w. w.attended) _ _ (all_handled c.loop-worked.invariant.clients c.in-None.ensures.steps.0)

pub returns-clause-desks : goal.returns-clause-desks
returns-clause-desks g c =
    each_made (λ w. w.desk) _ _ (all_handled c.loop-worked.invariant.desks c.in-None.ensures.steps.0)
