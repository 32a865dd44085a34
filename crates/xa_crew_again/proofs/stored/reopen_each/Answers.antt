use Rattle.xa_base.proofs.{arith, all_handled, fits_next, next_handled}
use Rattle.xa_crew_again.proofs.stored.reopen_each.Goals as goal

pub push_reserved-requires : goal.push_reserved-requires
push_reserved-requires g c =
    omega (
      arith,
      fits_next c.loop-store.invariant.stays c.in-Some.store c.next.new.self c.in-Some.ensures.steps.0
          c.requires.space,
    )

pub loop-store-preserved : goal.loop-store-preserved
loop-store-preserved g c =
    let i = c.loop-store.invariant in
    let one = c.in-Some.store in
    let next = c.reopen_one.result in
    let pushed = c.push_reserved.ensures.items in
    record {
      stays = next_handled i.stays one next c.next.new.self c.push_reserved.new.self c.in-Some.ensures.steps pushed
          c.push_reserved.ensures.capacity c.reopen_one.ensures.stays;
      reopens = λ all.
          next_handled (i.reopens (c.reopen_one.ensures.before all)) one next c.next.new.self c.push_reserved.new.self
          c.in-Some.ensures.steps pushed
          c.push_reserved.ensures.capacity (c.reopen_one.ensures.reopens all);
    }

pub returns-clause-stays : goal.returns-clause-stays
returns-clause-stays g c = all_handled c.loop-store.invariant.stays c.in-None.ensures.steps.0

pub returns-clause-reopens : goal.returns-clause-reopens
returns-clause-reopens g c = λ all. all_handled (c.loop-store.invariant.reopens all) c.in-None.ensures.steps.0
