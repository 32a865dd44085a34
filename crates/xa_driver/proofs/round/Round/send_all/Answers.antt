use Rattle.xa_base.proofs.{refl, ◌<◌, length, ◌∙◌, arith, rules}
use Rattle.xa_driver.proofs.Requests.{same_itself}
use Rattle.xa_driver.proofs.Progress.{send_on, send_reaches, sends_on, step_sends, step_sends_keeps}
use Rattle.xa_driver.proofs.round.Round.send_all.Goals as goal

pub loop-place-preserved : goal.loop-place-preserved
loop-place-preserved g c =
    let i = c.loop-place.invariant in
    let e = c.send_place.ensures in
    let keeps = step_sends_keeps _ _ _ _ _ _ e.sends in
    let asks = c.args.self.now.asks.items in
    let below : c.loop-place._place < length c.loop-place.self.asks.items = let a = c.loop-place-test.true in
    let b = c.len-place-end.ensures in
    let d = c.args.self.now.asks.ok.0 in let f = i.long in omega (arith, a, b, d, f) in
    record {
      under_way = e.under_way;
      reached = send_reaches c.loop-place.self c.send_place.new.self c.loop-place.desk c.send_place.new.desk
          c.send_place.result c.loop-place._place e.sends i.reached below;
      long = search rules;
      before = search rules;
      same = λ js s. e.same js (i.same js s);
      waited = send_on asks c.loop-place.self c.loop-place.desk c.send_place.new.desk c.args.idle.now c.loop-place.idle
          c.send_place.new.idle _ refl (i.same asks (same_itself asks)) i.waited e.waited;
      asks = (keeps.0 ∙ i.asks.0, keeps.1 ∙ i.asks.1);
      ordered = sends_on _ _ _ _ _ _ i.ordered (step_sends _ _ _ _ _ _ e.sends);
      idled = g.met.I.Idle.leads_chain _ _ _ i.idled e.idled;
    }
