use Rattle.xa_base.proofs.{arith, length, map, ◌∙◌, ◌∷◌, [], got_map, length-append, slice_get_within}
use Rattle.xa_switch.specs.{IsDeskOf}
use Rattle.xa_switch.proofs.Dealing.{next_of, not_ended, ends_so, push_more}
use Rattle.xa_switch.proofs.opening.assemble.assemble_desks.Goals as goal

pub assemble-requires : goal.assemble-requires
assemble-requires c =
    let i = c.loop-part.invariant in
    let part = next_of i.parts c.in-Some.part c.next.new.self c.in-Some.ensures.steps in
    let requests = next_of i.requests c.in-Some.part c.next-in-loop-part.new.self c.in-Some-next.ensures.cases in
    let completions =
    next_of i.completions c.in-Some.part c.next-in-loop-part-2.new.self c.in-Some-next-2.ensures.cases in
    let column = got_map (λ v. v.items) c.args.columns.items _ _ requests.0 in
    let fit =
    c.requires.fit (length c.loop-part.yielded) c.in-Some.part c.in-Some-next.requests.items
    c.in-Some-next-2.completions part.0 column completions.0 in
    record { ends = fit.0; new = fit.1 }

pub loop-part-preserved : goal.loop-part-preserved
loop-part-preserved c =
    let i = c.loop-part.invariant in
    let Y = c.loop-part.yielded in
    let part = next_of i.parts c.in-Some.part c.next.new.self c.in-Some.ensures.steps in
    let requests = next_of i.requests c.in-Some.part c.next-in-loop-part.new.self c.in-Some-next.ensures.cases in
    let completions =
    next_of i.completions c.in-Some.part c.next-in-loop-part-2.new.self c.in-Some-next-2.ensures.cases in
    let Is = IsDeskOf c.args.parts.items (map (λ v. v.items) c.args.columns.items) c.args.receivers.items in
    record {
      parts = part.1;
      requests = requests.1;
      completions = completions.1;
      made =
          push_more Is c.loop-part.desks.items _ c.assemble.result (length Y) _ i.made.0
          (length-append Y (c.in-Some.part ∷ [])) c.push_reserved.ensures.items i.made.1 (record {
            part = c.in-Some.part;
            requests = c.in-Some-next.requests.items;
            completions = c.in-Some-next-2.completions;
            part_at = part.0;
            requests_at = got_map (λ v. v.items) c.args.columns.items _ _ requests.0;
            completions_at = completions.0;
            made = c.assemble.ensures.made;
          });
      room = c.push_reserved.ensures.capacity ∙ i.room;
    }

pub unreachable-requires : goal.unreachable-requires
unreachable-requires c =
    not_ended c.loop-part.invariant.requests c.loop-part.invariant.parts c.requires.columns _ c.in-Some.ensures.steps.1
    c.in_default.ensures.cases.0

pub unreachable-requires-in_default-next : goal.unreachable-requires-in_default-next
unreachable-requires-in_default-next c =
    not_ended c.loop-part.invariant.completions c.loop-part.invariant.parts c.requires.receivers _
    c.in-Some.ensures.steps.1 c.in_default-next.ensures.cases.0

pub push_reserved-requires : goal.push_reserved-requires
push_reserved-requires c =
    let i = c.loop-part.invariant in
    let here = (next_of i.parts c.in-Some.part c.next.new.self c.in-Some.ensures.steps).0 in
    omega
    (arith, c.requires.room, c.loop-part.desks.ok.0, i.made.0, i.room, slice_get_within c.args.parts.items _ _ here)

pub returns-clause-many : goal.returns-clause-many
returns-clause-many c = c.loop-part.invariant.made.0 ∙ ends_so c.loop-part.invariant.parts c.in-None.ensures.steps.0
