use Rattle.xa_base.proofs.{ap, inl, ◌∙◌, ◌+◌, ◌%◌, ◌^◌}
use Rattle.xa_log_shared.specs.{own_records}
use Rattle.xa_log_shared.proofs.Own.{removed, removed_again}
use Rattle.std.specs.FinMap as map
use Rattle.xa_log_shared.proofs.client.LogClientDecisionLog.append.Goals as goal

pub returns-in-Refused-clause-refused : goal.returns-in-Refused-clause-refused
returns-in-Refused-clause-refused g c =
    let d = c.args.decision.now in
    let same =
    removed c.put.new.records.entries c.remove.new.self.entries d.tran c.remove.ensures.updates.0
    ∙ ap (λ m. map.remove m d.tran) (c.put.ensures.put c.if-not-put.false)
    ∙ removed_again (own_records c.args.self.now.records) d.tran d.yes c.requires.new in
    λ _. (
      λ i. record { records = same i; failures = (c.args.self.now.failures + 1) % 2 ^ 64 },
      c.requires.known,
      inl
          c.in-Refused.ensures,
    )
