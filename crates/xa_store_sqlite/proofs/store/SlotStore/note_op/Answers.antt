use Rattle.xa_base.proofs.{inl, sym}
use Rattle.xa_store_sqlite.proofs.Telling.{durable_or, undone_durable}
use Rattle.xa_store_sqlite.proofs.store.SlotStore.note_op.Goals as goal

pub returns-then-not-is_done-clause-told : goal.returns-then-not-is_done-clause-told
returns-then-not-is_done-clause-told g c = λ slots well x off.
    (off, inl (undone_durable x c.args.op.now c.args.code (sym c.if-not-is_done.ensures)))

pub returns-clause-told : goal.returns-clause-told
returns-clause-told g c = λ slots well x off.
    let e = c.note_branch.ensures.told slots well x off in
    (e.0, durable_or x c.args.op.now c.args.code e.1)
