use Rattle.xa_base.proofs.{sym, subst}
use Rattle.xa_desk.specs.{AreEndsTo}
use Rattle.test_parts.proofs.desk.stepped.opened.Goals as goal

pub assemble-requires-clause-ends : goal.assemble-requires-clause-ends
assemble-requires-clause-ends g c =
    let made = rw c.expect-parts.ensures at c.reserve.ensures in
    let completions = c.open_completions-workers.ensures in
    rw made (record {
      number = c.open_requests-senders.ensures.number;
      to = subst (λ o. AreEndsTo 1 o c.open_requests-senders.result.0.items) (sym completions.named.0)
          c.open_requests-senders.ensures.ends;
      lane = completions.named.1;
      senders = completions.new.0;
    })
