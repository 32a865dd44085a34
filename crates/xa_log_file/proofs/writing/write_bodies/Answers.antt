use Rattle.xa_base.proofs.{◌≡◌, ℕ, List, get_or, ◌∙◌, arith, get_or_default}
use Rattle.xa_log_file.specs.{Free, StandsFor, table_of}
use Rattle.xa_log_file.proofs.Tables.{whole_part}
use Rattle.xa_log_file.proofs.Moments.{started, goes_on}
use Rattle.xa_log_file.proofs.Stands.{starts, passes, slots_of, body_done}
use Rattle.xa_log_file.proofs.Grouped.{way_from, way_passes, way_takes, way_done, has_none, body_put, body_torn}
use Rattle.xa_log_file.proofs.Grouped.{bodies_written}
use Rattle.xa_log_file.proofs.writing.write_bodies.Goals.{in-Free+in_ok-write_at, in_default}
use Rattle.xa_log_file.proofs.writing.write_bodies.Goals as goal

pub loop-place-init : goal.loop-place-init
loop-place-init g c =
    search (
      arith,
      way_from,
      starts,
      slots_of,
      whole_part,
      has_none,
      started,
      c.requires.none_before,
      c.requires.keeps,
      g.met.D.Device.only_now,
    )

pub returns-then-next-decisions : goal.returns-then-next-decisions
returns-then-next-decisions g c = search (arith, bodies_written, c.requires.stands.apart, c.loop-place.invariant)

pub returns-in_err-write_at-clause-keeps : goal.returns-in_err-write_at-clause-keeps
returns-in_err-write_at-clause-keeps g c = λ f now. grind (arith, body_torn, get_or_default, c.write_at.ensures.crash)

pub returns-in_err-write_at-clause-any_moment : goal.returns-in_err-write_at-clause-any_moment
returns-in_err-write_at-clause-any_moment g c =
    goes_on c.loop-place.invariant.run c.write_at.ensures.time (returns-in_err-write_at-clause-keeps g c)

pub loop-place-preserved : goal.loop-place-preserved
loop-place-preserved g c = elim c.match-slots-place.branch [
  | in-Free+in_ok-write_at w ↦
      let is = get_or_default c.args.slots.now c.loop-place.place Free _ c.loop-place-test.true ∙ w.in-Free.is in
      let new =
      way_takes c.loop-place.invariant.way c.loop-place-test.true is c.if-next-decisions.false
      w.index-decisions-next.result w.index-decisions-next.is in
      let keeps : (f : List ℕ) → g.D.Device.may_leave w.write_at.new.self f → StandsFor (table_of c.args.slots.now) f =
      λ f now.
      let from = w.write_at.ensures.crash f now in
      body_torn c.args.slots.now c.loop-place-test.true is w.spelled.ensures.size
      (c.loop-place.invariant.keeps from.0 from.1) from.2 in
      rw (w.next-is, w.device-is)
      (search (
        arith,
        new,
        keeps,
        body_done,
        body_put,
        goes_on,
        w.spelled.ensures,
        w.in_ok-write_at.ensures.written,
        w.write_at.ensures,
        c.loop-place.invariant,
      ))
  | in_default w ↦
      let differs : get_or c.args.slots.now c.loop-place.place Free ≡ Free → ⊥ =
      λ e. w.in_default.not-Free
      (get_or_default c.args.slots.now c.loop-place.place _ Free c.loop-place-test.true ∙ e) in
      rw (w.next-is, w.device-is) (search (arith, way_passes, passes, has_none, differs, c.loop-place.invariant))
]

pub returns : goal.returns
returns g c =
    let all = way_done c.args.slots.now c.args.decisions.now c.requires.room c.loop-place-test.false in
    search (arith, bodies_written, c.requires.stands.apart, c.loop-place.invariant.writing)
