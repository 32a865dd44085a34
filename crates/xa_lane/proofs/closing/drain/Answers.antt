use Rattle.xa_base.proofs.{◌≡◌, ◌<◌, ◌∷◌, [], ◌++◌, length, Some, sym, ap, ◌∙◌, arith, rules}
use Rattle.xa_lane.specs.{Parcel, items_in}
use Rattle.xa_lane.proofs.Keeps.{gets, receiver_learning}
use Rattle.xa_lane.proofs.Closes.{drained, room_for, closed}
use Rattle.xa_lane.proofs.Parcels.{one_more, no_more}
use Rattle.xa_lane.proofs.closing.drain.Goals as goal

pub learn_as-requires-clause-rule : goal.learn_as-requires-clause-rule
learn_as-requires-clause-rule g c = receiver_learning _ _

pub pop_as-requires-clause-rule : goal.pop_as-requires-clause-rule
pop_as-requires-clause-rule g c = (gets _ _ _ _ _ c.loop.invariant.claim.1, receiver_learning _ _)

pub push_reserved-requires : goal.push_reserved-requires
push_reserved-requires g c =
    let was = c.loop.invariant.claim in
    let few : length (items_in was.0) < 64 =
    room_for _ _ was.0 c.learn_as.ensures.rule.0 _ _ _ _ c.in-Some-Some.field-0 c.requires.whole c.requires.pass.1
    c.learn_as.ensures.rule.1 was.1 c.in-Some-Some.ensures.rule in
    omega (arith, few, ap length was.2, c.loop.invariant.room)

pub loop-preserved-in-Some-Some : goal.loop-preserved-in-Some-Some
loop-preserved-in-Some-Some g c =
    let was = c.loop.invariant.claim in
    let x : Parcel g.row.T.Denot = c.in-Some-Some.field-0 in
    let is : x.item ≡ Some c.in-Some-Some.item = search rules in
    record {
      of_line = (
        c.pop_as.ensures.queue.0 ∙ c.loop.invariant.of_line.0,
        c.pop_as.ensures.queue.2
            ∙ c.loop.invariant.of_line.1,
      );
      room = let more = c.push_reserved.ensures.capacity in omega (arith, more, c.loop.invariant.room);
      claim = (
        was.0 ++ x ∷ [],
        drained _ _ was.0 _ _ _ x was.1 c.in-Some-Some.ensures.rule,
        c.push_reserved.ensures.items ∙ ap (λ l. l ++ (x.from, c.in-Some-Some.item) ∷ []) was.2
            ∙ sym (one_more was.0 x c.in-Some-Some.item is),
      );
    }

pub loop-preserved : goal.loop-preserved
loop-preserved g c =
    let was = c.loop.invariant.claim in
    let x : Parcel g.row.T.Denot = c.in-Some-None.field-0 in
    record {
      of_line = (
        c.pop_as.ensures.queue.0 ∙ c.loop.invariant.of_line.0,
        c.pop_as.ensures.queue.2
            ∙ c.loop.invariant.of_line.1,
      );
      room = c.loop.invariant.room;
      claim = (
        was.0 ++ x ∷ [],
        drained _ _ was.0 _ _ _ x was.1 c.in-Some-None.ensures.rule,
        was.2
            ∙ sym (no_more was.0 x (search rules)),
      );
    }

pub returns-in-None-pop_as : goal.returns-in-None-pop_as
returns-in-None-pop_as g c =
    let was = c.loop.invariant.claim in
    let all =
    closed _ _ was.0 c.in-None-pop_as.ensures.rule.1.0 _ _ was.1 c.in-None-pop_as.ensures.rule.1.1
    c.in-None-pop_as.ensures.rule.1.2 in
    (was.0, was.2, all.0, all.1)
