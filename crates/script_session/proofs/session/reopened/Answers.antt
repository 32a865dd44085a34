use Rattle.xa_base.proofs.{◌∙◌}
use Rattle.xa_log.specs.{trial_reopened}
use Rattle.script_session.proofs.session.reopened.Goals as goal

pub returns : goal.returns
returns c =
    c.reopen.ensures.reopened.1 ∙ (λ i. record (trial_reopened c.args.log) { found = c.reopen.ensures.reopened.0 i })
