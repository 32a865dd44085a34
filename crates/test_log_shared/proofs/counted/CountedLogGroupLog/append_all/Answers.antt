use Rattle.xa_base.proofs.{sym, ◌∙◌}
use Rattle.xa_log_shared.specs.{client_state}
use Rattle.test_log_shared.proofs.Puts.{put_with}
use Rattle.test_log_shared.proofs.counted.CountedLogGroupLog.append_all.Goals as goal

pub returns-then-put_all-clause-appended : goal.returns-then-put_all-clause-appended
returns-then-put_all-clause-appended c =
    let self = c.args.self.now in
    let put = c.put_all.ensures c.if-put_all.true in (
      (λ i. record { records = put i; failures = self.failures })
          ∙ sym (put_with (client_state self.records self.failures) c.args.decisions.now),
      c.requires.known,
      tt,
    )
