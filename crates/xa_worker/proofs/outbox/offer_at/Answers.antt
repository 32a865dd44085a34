use Rattle.xa_lane.specs.{with_item, with_full}
use Rattle.xa_lane.proofs.Parcels.{at_place-became}
use Rattle.xa_worker.proofs.outbox.offer_at.Goals as goal

pub returns-in-Ok-clause-offered : goal.returns-in-Ok-clause-offered
returns-in-Ok-clause-offered g c =
    at_place-became (with_item c.args.completion) _ _ _ _ c.requires c.index_mut.ensures.value c.in-Ok.ensures.sent

pub returns-in-Err-clause-offered : goal.returns-in-Err-clause-offered
returns-in-Err-clause-offered g c =
    at_place-became with_full _ _ _ _ c.requires c.index_mut.ensures.value c.in-Err.ensures.full.1
