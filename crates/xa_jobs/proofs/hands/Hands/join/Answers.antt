use Rattle.xa_base.proofs.{◌++◌, append_assoc, ap, arith, ◌∙◌, ◌∷◌, [], into_iter_items, length, length-append, rules}
use Rattle.xa_base.proofs.{taken_next, all_handled, fits_next, next_handled}
use Rattle.xa_jobs.proofs.Threads.{all_came, all_gone_through}
use Rattle.xa_jobs.proofs.hands.Hands.join.Goals as goal

pub loop-hand-init : goal.loop-hand-init
loop-hand-init g c = search rules

pub push_reserved-requires : goal.push_reserved-requires
push_reserved-requires g c =
    omega (
      arith,
      fits_next c.loop-hand.invariant c.in-Some.hand c.next.new.self c.in-Some.ensures.steps.0
          (omega (arith, c.requires.room)),
    )

pub loop-hand-preserved : goal.loop-hand-preserved
loop-hand-preserved g c =
    next_handled c.loop-hand.invariant c.in-Some.hand c.join.result c.next.new.self c.push_reserved.new.self
    c.in-Some.ensures.steps c.push_reserved.ensures.items
    c.push_reserved.ensures.capacity (λ job at. rw at at c.join.ensures)

pub loop-other-init : goal.loop-other-init
loop-other-init g c = search rules

pub push_reserved-requires-in-loop-other : goal.push_reserved-requires-in-loop-other
push_reserved-requires-in-loop-other g c =
    let i = c.loop-other.invariant in
    let before = (all_handled c.loop-hand.invariant c.in-None.ensures.steps.0).as_many in
    let all = ap (λ l. length l) i.so_far in
    let next = ap (λ l. length l) c.in-Some-other.ensures.steps.0 in
    let came = ap (λ l. length l) i.came in
    omega (
      arith,
      before,
      all,
      next,
      came,
      i.room,
      c.requires.room,
      length-append c.loop-other.yielded
          (into_iter_items c.loop-other.other-iterator),
      length-append c.loop-hand.came.items c.loop-other.yielded,
    )

pub loop-other-preserved : goal.loop-other-preserved
loop-other-preserved g c =
    let i = c.loop-other.invariant in
    record {
      so_far = taken_next c.loop-other.yielded _ _ _ c.in-Some-other.other c.in-Some-other.ensures.steps.0 i.so_far;
      came = rw (c.push_reserved-in-loop-other.ensures.items, i.came)
          (append_assoc c.loop-hand.came.items c.loop-other.yielded (c.in-Some-other.other ∷ []));
      room = omega (arith, c.push_reserved-in-loop-other.ensures.capacity, i.room);
    }

pub returns-clause-came : goal.returns-clause-came
returns-clause-came g c jobs at =
    let j = c.loop-other.invariant in
    let brought = c.loop-hand.came.items in
    all_came g.J.Job.comes_to jobs c.args.self.hands.items c.args.self.others.items brought c.loop-other.came.items at
    (all_handled c.loop-hand.invariant c.in-None.ensures.steps.0)
    (j.came
    ∙ ap (λ l. brought ++ l)
    (all_gone_through c.loop-other.other-iterator c.loop-other.yielded j.so_far
    c.in-None-other.ensures.steps.0))
