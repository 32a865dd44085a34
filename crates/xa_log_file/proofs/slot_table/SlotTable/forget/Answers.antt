use Rattle.xa_base.proofs.{arith, ◌≡◌, ◌∙◌, get_or_default, length-map}
use Rattle.xa_log_file.specs.{Free, Taken}
use Rattle.xa_log_file.proofs.Places.{forgets_indexed, forgets_none_free, forgets_used, none_forgets, one_forgets}
use Rattle.xa_log_file.proofs.Places.{slot_indexed, one_place}
use Rattle.xa_log_file.proofs.slot_table.SlotTable.forget.Goals as goal

pub returns-in-Taken : goal.returns-in-Taken
returns-in-Taken c =
    let at = c.in-Some.ensures.there in
    one_forgets c.args.self.now.indexed c.in-Some.place c.in-Taken.record at.0
    (slot_indexed c.args.self.now.slots.items c.in-Some.place c.index.result.now (Taken c.in-Taken.record) at.0
    c.index.ensures c.in-Taken.is) c.args.tran.now at.1

pub invariant_of-self : goal.invariant_of-self
invariant_of-self c =
    let at = c.in-Some.ensures.there in
    rw (one_forgets c.args.self.now.indexed c.in-Some.place c.in-Taken.record at.0
    (slot_indexed c.args.self.now.slots.items c.in-Some.place c.index.result.now (Taken c.in-Taken.record) at.0
    c.index.ensures c.in-Taken.is) c.args.tran.now at.1)
    (search (arith, forgets_indexed, forgets_none_free, forgets_used, length-map))

pub returns-in_default-index : goal.returns-in_default-index
returns-in_default-index c =
    let at = c.in-Some.ensures.there in
    none_forgets c.args.self.now.slots.items c.args.tran.now (λ k r here named.
    let same : k ≡ c.in-Some.place = one_place c.args.self.now.indexed k c.in-Some.place c.args.tran.now named at.1 in
    c.in_default-index.not-Taken r
    (c.index.ensures ∙ get_or_default c.args.self.now.slots.items c.in-Some.place c.index.result.now Free at.0
    ∙ rw same at here))

pub returns-in_default : goal.returns-in_default
returns-in_default c =
    none_forgets c.args.self.now.slots.items c.args.tran.now (λ k r here. c.in_default.ensures.none k)
