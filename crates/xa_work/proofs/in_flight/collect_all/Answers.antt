use Rattle.xa_base.proofs.{arith, ◌≡◌, ◌<◌, ℕ, List, length, pos, sym, ◌∙◌, slice_index_or, slice_get-get_or, one_more}
use Rattle.xa_base.proofs.{some_same}
use Rattle.xa_work.specs.{Flight}
use Rattle.xa_work.proofs.Making.{collects_more, collects_none, leaves_none, leaves_on}
use Rattle.xa_work.proofs.in_flight.collect_all.Goals as goal

-- what is there is there by itself
itself : (fs : List Flight) (i : ℕ) (d : Flight) → i < length fs
    → slice_index_or fs i d ≡ slice_index_or fs i (slice_index_or fs i d)
itself fs i d below =
    some_same _ _ (sym (slice_get-get_or fs i d below) ∙ slice_get-get_or fs i (slice_index_or fs i d) below)

pub loop-flight-init : goal.loop-flight-init
loop-flight-init g c = search (arith, collects_none, leaves_none, c.idles_go_on.ensures.same)

pub loop-flight-preserved : goal.loop-flight-preserved
loop-flight-preserved g c =
    let fs : List Flight = c.args.flights.now in
    let i : ℕ = c.loop-flight.flight-index in
    let none : Flight = record { manager = 0; handle = pos 0 } in
    let below = c.loop-flight-test.true in
    record {
      leaves = leaves_on c.idles_go_on.ensures.further c.loop-flight.invariant.leaves c.collect-all.ensures.goes_on
          c.collect-all.ensures.kept c.collect-all.ensures.idled;
      collects =
          rw (one_more fs i (slice_index_or fs i none) below (itself fs i none below))
          (collects_more _ (slice_index_or fs i none) c.loop-flight.all c.collect-all.result _ _ _
          c.loop-flight.invariant.collects c.collect-all.ensures.collects);
    }
