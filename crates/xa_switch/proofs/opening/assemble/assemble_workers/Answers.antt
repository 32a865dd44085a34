use Rattle.xa_base.proofs.{arith, length, map, ◌∙◌, ◌∷◌, [], got_map, length-append, slice_get_within}
use Rattle.xa_switch.specs.{IsWorkerOf}
use Rattle.xa_switch.proofs.Dealing.{next_of, not_ended, ends_so, push_more}
use Rattle.xa_switch.proofs.opening.assemble.assemble_workers.Goals as goal

pub assemble-requires : goal.assemble-requires
assemble-requires c =
    let i = c.loop-part.invariant in
    let place = length c.loop-part.yielded in
    let part = next_of i.parts c.in-Some.part c.next.new.self c.in-Some.ensures.steps in
    let manager = next_of i.given c.in-Some.part c.next-in-loop-part.new.self c.in-Some-next.ensures.cases in
    let requests = next_of i.requests c.in-Some.part c.next-in-loop-part-2.new.self c.in-Some-next-2.ensures.cases in
    let senders = next_of i.senders c.in-Some.part c.next-in-loop-part-3.new.self c.in-Some-next-3.ensures.cases in
    let fit = c.requires.fit.memory place c.in-Some.part c.in-Some-next.manager part.0 manager.0 in
    let asked = c.requires.fit.requests place c.in-Some-next.manager c.in-Some-next-2.requests manager.0 requests.0 in
    let column = got_map (λ v. v.items) c.args.columns.items _ _ senders.0 in
    let answered =
    c.requires.fit.completions place c.in-Some-next.manager c.in-Some-next-3.senders.items manager.0 column in
    record { room = fit.0; threads = fit.1; requests = asked.0; lanes = answered.0; taken = asked.1; sent = answered.1 }

pub loop-part-preserved : goal.loop-part-preserved
loop-part-preserved c =
    let i = c.loop-part.invariant in
    let Y = c.loop-part.yielded in
    let part = next_of i.parts c.in-Some.part c.next.new.self c.in-Some.ensures.steps in
    let manager = next_of i.given c.in-Some.part c.next-in-loop-part.new.self c.in-Some-next.ensures.cases in
    let requests = next_of i.requests c.in-Some.part c.next-in-loop-part-2.new.self c.in-Some-next-2.ensures.cases in
    let senders = next_of i.senders c.in-Some.part c.next-in-loop-part-3.new.self c.in-Some-next-3.ensures.cases in
    let Is =
    IsWorkerOf c.args.parts.items c.args.managers.items c.args.receivers.items
    (map (λ v. v.items) c.args.columns.items) in
    record {
      parts = part.1;
      given = manager.1;
      requests = requests.1;
      senders = senders.1;
      made =
          push_more Is c.loop-part.workers.items _ c.assemble.result (length Y) _ i.made.0
          (length-append Y (c.in-Some.part ∷ [])) c.push_reserved.ensures.items i.made.1 (record {
            part = c.in-Some.part;
            manager = c.in-Some-next.manager;
            requests = c.in-Some-next-2.requests;
            senders = c.in-Some-next-3.senders.items;
            part_at = part.0;
            manager_at = manager.0;
            requests_at = requests.0;
            senders_at = got_map (λ v. v.items) c.args.columns.items _ _ senders.0;
            made = c.assemble.ensures.new;
          });
      room = c.push_reserved.ensures.capacity ∙ i.room;
    }

pub unreachable-requires : goal.unreachable-requires
unreachable-requires c =
    not_ended c.loop-part.invariant.given c.loop-part.invariant.parts c.requires.managers _ c.in-Some.ensures.steps.1
    c.in_default.ensures.cases.0

pub unreachable-requires-in_default-next : goal.unreachable-requires-in_default-next
unreachable-requires-in_default-next c =
    not_ended c.loop-part.invariant.requests c.loop-part.invariant.parts c.requires.receivers _
    c.in-Some.ensures.steps.1 c.in_default-next.ensures.cases.0

pub unreachable-requires-in_default-next-2 : goal.unreachable-requires-in_default-next-2
unreachable-requires-in_default-next-2 c =
    not_ended c.loop-part.invariant.senders c.loop-part.invariant.parts c.requires.columns _ c.in-Some.ensures.steps.1
    c.in_default-next-2.ensures.cases.0

pub push_reserved-requires : goal.push_reserved-requires
push_reserved-requires c =
    let i = c.loop-part.invariant in
    let here = (next_of i.parts c.in-Some.part c.next.new.self c.in-Some.ensures.steps).0 in
    omega (
      arith,
      c.requires.room,
      c.loop-part.workers.ok.0,
      i.made.0,
      i.room,
      slice_get_within c.args.parts.items _ _
          here,
    )

pub returns-clause-many : goal.returns-clause-many
returns-clause-many c = c.loop-part.invariant.made.0 ∙ ends_so c.loop-part.invariant.parts c.in-None.ensures.steps.0
