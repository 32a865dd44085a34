use Rattle.xa_base.proofs.{sym}
use Rattle.xa_store_sqlite.specs.{image_of}
use Rattle.xa_store_sqlite.proofs.Telling.{absent_or_other}
use Rattle.xa_store_sqlite.proofs.store.SlotStore.note_gone.Goals as goal

pub returns-else-has-clause-told : goal.returns-else-has-clause-told
returns-else-has-clause-told g c = λ slots well x off.
    (off, absent_or_other c.args.xid.now x (image_of c.args.self.now.kept.mirror) (sym (c.if-has.ensures slots)))
