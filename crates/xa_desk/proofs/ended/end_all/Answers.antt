use Rattle.xa_base.proofs.{◌≡◌, ◌+◌, [], ◌∷◌, arith, length-append, all_handled, fits_next, map_alike, next_handled}
use Rattle.xa_lane.specs.{but_full}
use Rattle.xa_desk.proofs.Looks.{marks_push}
use Rattle.xa_desk.proofs.ended.end_all.Goals as goal

pub loop-sender-preserved : goal.loop-sender-preserved
loop-sender-preserved g c =
    let i = c.loop-sender.invariant in
    let Y = c.loop-sender.yielded in
    let end = c.end_one-end in
    record {
      ended =
          next_handled i.ended c.in-Some.sender end.result c.next.new.self c.push_reserved.new.self
          c.in-Some.ensures.steps c.push_reserved.ensures.items
          c.push_reserved.ensures.capacity end.ensures.ended;
      named = omega (arith, i.named, length-append Y (c.in-Some.sender ∷ []));
      marked =
          rw c.push_reserved.ensures.items
          (marks_push g.I.Idle.leads_by 0 Y c.loop-sender.ends.items c.in-Some.sender end.result _ _ _
          (c.loop-sender.manager + 1) (omega (arith, i.named)) i.marked end.ensures.marked);
      idled = g.met.I.Idle.leads_chain _ _ _ i.idled end.ensures.idled;
    }

pub push_reserved-requires : goal.push_reserved-requires
push_reserved-requires g c =
    omega (
      arith,
      fits_next c.loop-sender.invariant.ended c.in-Some.sender c.next.new.self c.in-Some.ensures.steps.0
          c.requires.room,
    )

pub returns-clause-ended : goal.returns-clause-ended
returns-clause-ended g c =
    map_alike (λ s e. but_full e ≡ but_full s) but_full but_full (λ s e same. same) _ _
    (all_handled c.loop-sender.invariant.ended c.in-None.ensures.steps.0)
