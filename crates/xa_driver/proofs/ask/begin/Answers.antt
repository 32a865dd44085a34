use Rattle.xa_base.proofs.{ap, sym, ◌∙◌}
use Rattle.xa_driver.specs.{Ask}
use Rattle.xa_driver.proofs.Progress.{sends_so}
use Rattle.xa_driver.proofs.ask.begin.Goals as goal

pub returns-clause-waited : goal.returns-clause-waited
returns-clause-waited g c =
    let is = c.op.ensures in
    rw (← c.ask.view_is)
    (sends_so _ c.in-Some.op c.submit_waiting.result c.args.desk.now c.submit_waiting.new.desk c.args.idle.now
    c.submit_waiting.new.idle
    (ap (λ (k : Ask). k.op) c.ask.view_is ∙ sym is ∙ c.in-Some.is) c.submit_waiting.ensures.unsent
    c.submit_waiting.ensures.waited c.submit_waiting.ensures.idle_stays)
