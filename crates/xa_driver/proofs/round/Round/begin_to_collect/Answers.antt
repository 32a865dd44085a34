use Rattle.xa_driver.proofs.Progress.{round_idles, far_in_order}
use Rattle.xa_driver.proofs.round.Round.begin_to_collect.Goals as goal

pub returns-clause-waited : goal.returns-clause-waited
returns-clause-waited g c = round_idles c.send_all.ensures.same c.send_all.ensures.waited c.collect_first.ensures.waited

pub returns-clause-ordered : goal.returns-clause-ordered
returns-clause-ordered g c =
    far_in_order c.args.self.now c.send_all.new.self c.collect_first.new.self c.args.desk.now c.send_all.new.desk
    c.collect_first.new.desk c.send_all.ensures.ordered c.send_all.ensures.asks c.send_all.ensures.before
    c.send_all.ensures.under_way c.send_all.ensures.all c.collect_first.ensures.ordered c.requires.none
