use Rattle.xa_base.proofs.{true, false, ◌≡◌, ℕ, List, ◌∙◌, arith, get_or, get_or_default}
use Rattle.xa_log.specs.{CommitRecord}
use Rattle.xa_log_file.specs.{Free, Forgotten, MayShow}
use Rattle.xa_log_file.proofs.Moments.{goes_on}
use Rattle.xa_log_file.proofs.Stands.{none_shut, all_shut, counted, gate_done, passes, shut_done, torn_shown}
use Rattle.xa_log_file.proofs.Stands.{below_shown, settled_shown}
use Rattle.xa_log_file.proofs.shutting.shut_gates.Goals.{in-Forgotten+in_ok-write_at, in_default}
use Rattle.xa_log_file.proofs.shutting.shut_gates.Goals as goal

pub returns-in_err-write_at-clause-now : goal.returns-in_err-write_at-clause-now
returns-in_err-write_at-clause-now g c = λ f now.
    let from = c.write_at.ensures.crash f now in
    torn_shown c.args.slots.now c.loop-place-test.true
    (get_or_default c.args.slots.now c.loop-place.place Free _ c.loop-place-test.true ∙ c.in-Forgotten.is)
    (c.loop-place.invariant.shown from.0 from.1) from.2

pub returns-in_err-write_at-clause-any_moment : goal.returns-in_err-write_at-clause-any_moment
returns-in_err-write_at-clause-any_moment g c =
    goes_on c.loop-place.invariant.run c.write_at.ensures.time (returns-in_err-write_at-clause-now g c)

pub loop-place-init : goal.loop-place-init
loop-place-init g c =
    search (
      arith,
      settled_shown,
      none_shut,
      c.args.slots.now,
      c.requires.settled,
      g.met.D.Device.only_now,
      c.args.device.now,
    )

pub loop-place-preserved : goal.loop-place-preserved
loop-place-preserved g c = elim c.match-slots-place.branch [
  | in-Forgotten+in_ok-write_at w ↦
      let is = get_or_default c.args.slots.now c.loop-place.place Free _ c.loop-place-test.true ∙ w.in-Forgotten.is in
      let shown : (f : List ℕ) → g.D.Device.may_leave w.write_at.new.self f → MayShow c.args.slots.now f =
      λ f now.
      let from = w.write_at.ensures.crash f now in
      torn_shown c.args.slots.now c.loop-place-test.true is (c.loop-place.invariant.shown from.0 from.1) from.2 in
      let dirty : false ≡ true → w.write_at.new.self ≡ c.args.device.now = λ is. absurd (cc (is)) in
      rw (w.device-is, w.is_clean-is)
      (search (
        arith,
        dirty,
        shown,
        gate_done,
        shut_done,
        is,
        goes_on,
        w.in_ok-write_at.ensures.written,
        w.write_at.ensures,
        c.loop-place.invariant,
      ))
  | in_default w ↦
      let differs : (r : CommitRecord) → get_or c.args.slots.now c.loop-place.place Free ≡ Forgotten r → ⊥ =
      λ r e. w.in_default.not-Forgotten r
      (get_or_default c.args.slots.now c.loop-place.place _ Free c.loop-place-test.true ∙ e) in
      rw (w.device-is, w.is_clean-is) (search (arith, passes, counted, differs, c.loop-place.invariant))
]

pub returns-then-is_clean-clause-shut : goal.returns-then-is_clean-clause-shut
returns-then-is_clean-clause-shut g c = record {
  stands = all_shut c.args.slots.now c.loop-place-test.false c.requires.settled.stands.apart
      c.loop-place.invariant.shutting;
  durable = rw (c.loop-place.invariant.clean c.if-is_clean.true) c.requires.settled.durable;
}

pub returns-clause-shut : goal.returns-clause-shut
returns-clause-shut g c =
    search (
      arith,
      all_shut,
      c.sync.ensures.seen,
      c.in_ok-sync.ensures.durable,
      c.requires.settled.stands,
      c.loop-place.invariant.shutting,
    )

pub returns-clause-now : goal.returns-clause-now
returns-clause-now g c =
    search (arith, below_shown, c.in_ok-sync.ensures.durable, c.args.slots.now, c.requires.settled.stands.apart)

pub returns-clause-any_moment : goal.returns-clause-any_moment
returns-clause-any_moment g c = goes_on c.loop-place.invariant.run c.sync.ensures.time (returns-clause-now g c)
