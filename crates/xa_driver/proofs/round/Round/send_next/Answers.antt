use Rattle.xa_base.proofs.{refl, ◌∙◌, sym}
use Rattle.xa_driver.specs.{SendsNothing}
use Rattle.xa_driver.proofs.Progress.{send_passes, none_passed}
use Rattle.xa_driver.proofs.round.Round.send_next.Goals as goal

pub passed-init : goal.passed-init
passed-init g c = none_passed (SendsNothing c.args.desk.now) c.args.self.now c.args.desk.now c.args.idle.now c.requires

pub passed-preserved : goal.passed-preserved
passed-preserved g c =
    let e = c.send_place.ensures in
    (send_passes g.I.Idle.leads_by _ c.send_place.result _ c.passed.invariant refl
    (sym c.is_passed.ensures ∙ c.passed-test.true) e.sends e.waited e.under_way e.before e.same).0

pub passed-smaller : goal.passed-smaller
passed-smaller g c =
    let e = c.send_place.ensures in
    (send_passes g.I.Idle.leads_by c.send_place.new.idle c.send_place.result _ c.passed.invariant refl
    (sym c.is_passed.ensures ∙ c.passed-test.true) e.sends e.waited e.under_way e.before e.same).1

pub returns-clause-sends : goal.returns-clause-sends
returns-clause-sends g c =
    let i = c.passed.invariant in
    record {
      mid = c.passed.self;
      passed = i.passed;
      asks = sym c.is_passed.ensures ∙ c.passed-test.false;
      sends = simp i.desk_is at c.send_place-2.ensures.sends;
      waited = simp (i.desk_is, i.idle_is) at c.send_place-2.ensures.waited;
    }
