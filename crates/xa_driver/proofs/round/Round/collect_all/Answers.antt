use Rattle.xa_base.proofs.{refl, ◌<◌, length, ◌∙◌, arith, rules}
use Rattle.xa_driver.proofs.Requests.{same_itself}
use Rattle.xa_driver.proofs.Progress.{collect_on, collect_reaches, collects_on, step_collects}
use Rattle.xa_driver.proofs.round.Round.collect_all.Goals as goal

pub loop-place-preserved : goal.loop-place-preserved
loop-place-preserved g c =
    let i = c.loop-place.invariant in
    let e = c.collect_place.ensures in
    let asks = c.args.self.now.asks.items in
    let below : c.loop-place._place < length c.loop-place.self.asks.items = let a = c.loop-place-test.true in
    let b = c.len-place-end.ensures in
    let d = c.args.self.now.asks.ok.0 in let f = i.long in omega (arith, a, b, d, f) in
    let reaches =
    collect_reaches c.loop-place.self c.collect_place.new.self c.loop-place.desk c.collect_place.new.desk
    c.collect_place.result c.loop-place._place _ refl e.collects i.all i.reached below in
    record {
      under_way = e.under_way;
      reached = reaches.0;
      all = reaches.1;
      long = reaches.2 ∙ i.long;
      before = search rules;
      same = λ js s. e.same js (i.same js s);
      waited = collect_on asks c.loop-place.self c.loop-place.desk c.collect_place.new.desk c.args.idle.now
          c.loop-place.idle c.collect_place.new.idle _ refl i.under_way (i.same asks (same_itself asks)) i.waited
          e.waited;
      ordered = collects_on _ _ _ _ _ _ i.ordered (step_collects _ _ _ _ _ _ e.collects);
      idled = g.met.I.Idle.leads_chain _ _ _ i.idled e.idled;
    }
