use Rattle.xa_base.proofs.{ap, ◌∙◌}
use Rattle.xa_driver.proofs.Requests.{rest_kept}
use Rattle.xa_driver.proofs.Progress.{round_idles, finished_in_order}
use Rattle.xa_driver.proofs.Stepping.{all_answered}
use Rattle.xa_driver.proofs.round.Round.finish.Goals as goal

pub returns-clause-keeps : goal.returns-clause-keeps
returns-clause-keeps g c =
    let r = c.collect_all.new.self in
    let u = c.collect_all.ensures.under_way in
    rw (ap (λ b. b.value) (c.collect_all.ensures.before ∙ c.send_all.ensures.before)) at
    (rest_kept r.asks.items r.before.value c.collect_all.new.desk
    (all_answered r c.collect_all.new.desk u c.collect_all.ensures.all) u.keeps)

pub returns-clause-waited : goal.returns-clause-waited
returns-clause-waited g c = round_idles c.send_all.ensures.same c.send_all.ensures.waited c.collect_all.ensures.waited

pub returns-clause-ordered : goal.returns-clause-ordered
returns-clause-ordered g c =
    finished_in_order c.args.self.now c.send_all.new.self c.collect_all.new.self c.args.desk.now c.send_all.new.desk
    c.collect_all.new.desk c.send_all.ensures.ordered c.send_all.ensures.asks c.send_all.ensures.before
    c.send_all.ensures.under_way c.send_all.ensures.all c.collect_all.ensures.ordered c.collect_all.ensures.under_way
    c.collect_all.ensures.all
