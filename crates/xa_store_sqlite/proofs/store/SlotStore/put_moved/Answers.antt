use Rattle.xa_base.proofs.{on_ok_weaker}
use Rattle.xa_store_sqlite.specs.{HasValuesOf, image_of}
use Rattle.xa_store_sqlite.proofs.Writing.{all_valued}
use Rattle.xa_store_sqlite.proofs.store.SlotStore.put_moved.Goals as goal

pub returns-clause-values : goal.returns-clause-values
returns-clause-values g c = λ h.
    let T = c.args.manager.now.tables in
    let old = image_of c.args.self.now.kept.mirror in
    let new = image_of c.put_values.new.self.mirror in
    on_ok_weaker c.put_values.result (λ (v : HasValuesOf T old new). all_valued c.args.self.now.are_moved T old new h v)
    c.put_values.ensures.values
