use Rattle.xa_base.proofs.{◌+◌, List, length, set, drop, sym, ◌∙◌, ap, arith, length-drop, length-set, drop_all}
use Rattle.xa_log_file.specs.{LogSlot, Taken, placed, used}
use Rattle.xa_log_file.proofs.Grouped.{first_is_new, placed_first, records_left, none_filled}
use Rattle.xa_log_file.proofs.Places.{used_set, all_used}
use Rattle.xa_log_file.proofs.slot_table.SlotTable.take_all.Goals as goal

pub returns-in_default : goal.returns-in_default
returns-in_default c = search (arith, all_used, length-drop)

pub take-requires-clause-new : goal.take-requires-clause-new
take-requires-clause-new c =
    let left =
    records_left c.args.decisions.now c.loop-decision.decision-index c.decision-item.result
    c.loop-decision-test.true c.decision-item.is in
    let same = ap (placed c.loop-decision.self.slots.items) (sym left) ∙ c.loop-decision.invariant.rest in
    rw c.free_place.ensures.slots
    (first_is_new c.loop-decision.self.slots.items c.decision-item.result
    (drop (c.loop-decision.decision-index + 1) c.args.decisions.now) c.in-Some.place c.in-Some.ensures.free.0
    c.in-Some.ensures.free.1 c.in-Some.ensures.first (rw same c.requires.new))

pub loop-decision-preserved : goal.loop-decision-preserved
loop-decision-preserved c =
    let left =
    records_left c.args.decisions.now c.loop-decision.decision-index c.decision-item.result
    c.loop-decision-test.true c.decision-item.is in
    let is =
    c.take.ensures
    ∙ ap (λ (l : List LogSlot). set l c.in-Some.place (Taken c.decision-item.result)) c.free_place.ensures.slots in
    let more = ap used is
    ∙ used_set c.loop-decision.self.slots.items c.in-Some.place c.decision-item.result c.in-Some.ensures.free.0
    c.in-Some.ensures.free.1 in
    let many =
    ap length is ∙ length-set c.loop-decision.self.slots.items c.in-Some.place (Taken c.decision-item.result) in
    let fewer = ap length left in
    search (
      arith,
      placed_first,
      c.loop-decision.self.slots.items,
      c.in-Some.place,
      c.in-Some.ensures.free.0,
      c.in-Some.ensures.free.1,
    )

pub returns : goal.returns
returns c = search (arith, none_filled, drop_all, c.loop-decision.decision-index, c.args.decisions.now)
