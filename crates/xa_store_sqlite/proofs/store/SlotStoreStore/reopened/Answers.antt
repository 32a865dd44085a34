use Rattle.xa_store_sqlite.specs.{image_of}
use Rattle.xa_store_sqlite.proofs.Reopened.{has_reopened}
use Rattle.xa_store_sqlite.proofs.store.SlotStoreStore.reopened.Goals as goal

pub returns-clause-known : goal.returns-clause-known
returns-clause-known g c = λ T knows durable well.
    let s = c.args.self in
    let k = knows well in
    record {
      has = has_reopened s.told.branches.keys s.are_moved (image_of s.kept.mirror) T k.has;
      settled = k.settled;
      order = k.order;
    }
