use Rattle.xa_store_sqlite.specs.{image_of}
use Rattle.xa_store_sqlite.proofs.Settled.{durable_now}
use Rattle.xa_store_sqlite.proofs.store.SlotStoreStore.settle.Goals as goal

pub returns-in-Ok-clause-durable : goal.returns-in-Ok-clause-durable
returns-in-Ok-clause-durable g c = λ knows.
    let kept = c.write.new.self.kept in
    durable_now (g.S.Store.view kept.tables.trees) (g.S.Store.recovers kept.tables.trees) (image_of kept.mirror)
    kept.slots.entries kept.places.entries c.args.manager.now.tables
    (c.in-Ok.ensures.kept (knows c.if-self.false))
