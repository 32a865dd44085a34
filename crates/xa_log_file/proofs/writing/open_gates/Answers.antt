use Rattle.xa_base.proofs.{◌≡◌, ℕ, List, length, get_or, refl, ◌∙◌, arith, get_or_default}
use Rattle.xa_log_file.specs.{Free}
use Rattle.xa_log_file.proofs.Moments.{started, goes_on}
use Rattle.xa_log_file.proofs.Stands.{HasSlots, slots_as, starts, passes, gate_done}
use Rattle.xa_log_file.proofs.Grouped.{MayCome, way_from, way_passes, next_taken, way_done, bodied, comes, comes_shown}
use Rattle.xa_log_file.proofs.Grouped.{not_opened, all_open, gate_opened, opens_torn}
use Rattle.xa_log_file.proofs.writing.open_gates.Goals.{in-Free+in_ok-write_at, in_default}
use Rattle.xa_log_file.proofs.writing.open_gates.Goals as goal

pub loop-place-init : goal.loop-place-init
loop-place-init g c =
    let has = bodied c.requires.settled.stands c.requires.bodies in
    let may : (f : List ℕ) → g.D.Device.may_leave c.args.device.now f
    → HasSlots (length c.args.slots.now) (MayCome c.args.slots.now c.args.decisions.now) f =
    λ f left. rw (c.requires.settled.durable f left) (slots_as refl has (λ k below was. comes was)) in
    search (
      arith,
      has,
      may,
      way_from,
      starts,
      not_opened,
      c.requires.none_before,
      started,
      comes_shown,
      c.requires.new,
      g.met.D.Device.only_now,
    )

pub returns-then-next-decisions-clause-stands : goal.returns-then-next-decisions-clause-stands
returns-then-next-decisions-clause-stands g c = search (arith, all_open, c.loop-place.invariant)

pub returns-in_err-write_at-clause-now : goal.returns-in_err-write_at-clause-now
returns-in_err-write_at-clause-now g c = λ f now.
    let from = c.write_at.ensures.crash f now in
    let is = get_or_default c.args.slots.now c.loop-place.place Free _ c.loop-place-test.true ∙ c.in-Free.is in
    let next = next_taken c.loop-place.invariant.way c.loop-place-test.true is c.if-next-decisions.false in
    comes_shown c.requires.new
    (opens_torn c.requires.valid is next.1 c.loop-place-test.true (c.loop-place.invariant.comes from.0 from.1)
    from.2)

pub returns-in_err-write_at-clause-any_moment : goal.returns-in_err-write_at-clause-any_moment
returns-in_err-write_at-clause-any_moment g c =
    goes_on c.loop-place.invariant.run c.write_at.ensures.time (returns-in_err-write_at-clause-now g c)

pub loop-place-preserved : goal.loop-place-preserved
loop-place-preserved g c = elim c.match-slots-place.branch [
  | in-Free+in_ok-write_at w ↦
      let is = get_or_default c.args.slots.now c.loop-place.place Free _ c.loop-place-test.true ∙ w.in-Free.is in
      let next = next_taken c.loop-place.invariant.way c.loop-place-test.true is c.if-next-decisions.false in
      let may : (f : List ℕ) → g.D.Device.may_leave w.write_at.new.self f
      → HasSlots (length c.args.slots.now) (MayCome c.args.slots.now c.args.decisions.now) f =
      λ f now.
      let from = w.write_at.ensures.crash f now in
      opens_torn c.requires.valid is next.1 c.loop-place-test.true (c.loop-place.invariant.comes from.0 from.1)
      from.2 in
      rw (w.next-is, w.device-is)
      (search (
        arith,
        next,
        may,
        gate_done,
        gate_opened,
        goes_on,
        comes_shown,
        w.in_ok-write_at.ensures.written,
        w.write_at.ensures,
        c.loop-place.invariant,
      ))
  | in_default w ↦
      let differs : get_or c.args.slots.now c.loop-place.place Free ≡ Free → ⊥ =
      λ e. w.in_default.not-Free
      (get_or_default c.args.slots.now c.loop-place.place _ Free c.loop-place-test.true ∙ e) in
      rw (w.next-is, w.device-is) (search (arith, way_passes, passes, not_opened, differs, c.loop-place.invariant))
]

pub returns-clause-stands : goal.returns-clause-stands
returns-clause-stands g c =
    search (arith, all_open, way_done, c.requires.new, c.requires.room, c.loop-place.invariant.opening)
