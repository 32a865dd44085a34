use Rattle.xa_base.proofs.{refl, ◌∙◌, sym}
use Rattle.xa_driver.specs.{CollectsNothing}
use Rattle.xa_driver.proofs.Progress.{collect_passes, none_passed}
use Rattle.xa_driver.proofs.round.Round.collect_next.Goals as goal

pub passed-init : goal.passed-init
passed-init g c =
    none_passed (CollectsNothing c.args.desk.now) c.args.self.now c.args.desk.now c.args.idle.now c.requires

pub passed-preserved : goal.passed-preserved
passed-preserved g c =
    let e = c.collect_place.ensures in
    (collect_passes g.I.Idle.leads_by _ c.collect_place.result _ c.passed.invariant refl
    (sym c.is_unasked.ensures ∙ c.passed-test.true) e.collects e.waited e.under_way e.before e.same).0

pub passed-smaller : goal.passed-smaller
passed-smaller g c =
    let e = c.collect_place.ensures in
    (collect_passes g.I.Idle.leads_by c.collect_place.new.idle c.collect_place.result _ c.passed.invariant refl
    (sym c.is_unasked.ensures ∙ c.passed-test.true) e.collects e.waited e.under_way e.before e.same).1

pub returns-clause-collects : goal.returns-clause-collects
returns-clause-collects g c =
    let i = c.passed.invariant in
    record {
      mid = c.passed.self;
      passed = i.passed;
      asks = sym c.is_unasked.ensures ∙ c.passed-test.false;
      collects = simp i.desk_is at c.collect_place-2.ensures.collects;
      waited = simp (i.desk_is, i.idle_is) at c.collect_place-2.ensures.waited;
    }
