use Rattle.xa_base.proofs.{set-get_or, arith, refl, sym, ◌∙◌, ap, is_there}
use Rattle.xa_log_file.specs.{SlotTable, Taken}
use Rattle.xa_log_file.proofs.Stands.{none_read, one_read, all_read, twice_named}
use Rattle.xa_log_file.proofs.opening.read_slots.Goals.{in-Some-found+else-is_some, in_default-found}
use Rattle.xa_log_file.proofs.opening.read_slots.Goals as goal

pub loop-place-init : goal.loop-place-init
loop-place-init c = none_read c.args.bytes.now c.in_ok-table.ensures

pub returns-then-is_some-clause-refused : goal.returns-then-is_some-clause-refused
returns-then-is_some-clause-refused c = λ other.
    let at = is_there c.place_of.result (sym c.is_some.ensures ∙ c.if-is_some.true) in
    twice_named c.loop-place.place c.args.count c.loop-place.table.slots.items c.args.bytes.now
    c.in-Some-found.record c.loop-place-test.true
    c.requires.size (rw (c.in-Some-found.is, c.slot_of.ensures.bytes) at c.in-Some.ensures.found) c.loop-place.invariant
    (at.0, rw at.1 at c.place_of.ensures.there)

pub loop-place-preserved : goal.loop-place-preserved
loop-place-preserved c = elim c.match-found.branch [
  | in-Some-found+else-is_some w ↦
      one_read (Taken w.in-Some-found.record) c.loop-place.invariant c.loop-place-test.true refl
      (rw (w.in-Some-found.is, c.slot_of.ensures.bytes) at c.in-Some.ensures.found)
      (ap (λ (t : SlotTable). t.slots.items) w.table-is ∙ w.take.ensures)
  | in_default-found w ↦ search (arith, in_default-found, one_read, set-get_or)
]

pub returns-clause-stands : goal.returns-clause-stands
returns-clause-stands c =
    search (
      arith,
      all_read,
      c.loop-place.invariant,
      c.loop-place.table.indexed,
      c.loop-place-test.false,
      c.requires.few,
      c.requires.size,
    )
