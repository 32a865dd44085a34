use Rattle.xa_base.proofs.{◌∙◌, ◌||◌, ap, list_any, subst, sym}
use Rattle.xa_words.specs.{xid_eq}
use Rattle.xa_tables.specs.{moves_values, next}
use Rattle.xa_store_sqlite.specs.{KnowsAllBut, image_of}
use Rattle.xa_store_sqlite.proofs.Telling.{told_so}
use Rattle.xa_store_sqlite.proofs.store.SlotStoreStore.tell.Goals as goal

pub returns-clause-told : goal.returns-clause-told
returns-clause-told g c = λ T live knows coded well.
    let r = c.args.request.now in
    let old = c.args.self.now in
    let new = c.note_values.new.self in
    let fine = sym c.note_values.ensures.failed ∙ well in
    let k = knows (c.note_op.ensures.failed fine) in
    let moved = c.note_values.ensures.moved ∙ ap (λ b. b || moves_values r.op c.args.code) c.note_op.ensures.moved in
    subst
    (λ kept. KnowsAllBut new.told.branches.keys new.are_moved (g.S.Store.view kept.tables.trees)
    (g.S.Store.recovers kept.tables.trees)
    (image_of kept.mirror) kept.slots.entries kept.places.entries (next r.thread r.op T).0)
    (sym (c.note_values.ensures.kept ∙ c.note_op.ensures.kept))
    (record {
      has =
          told_so old.told.branches.keys new.told.branches.keys old.are_moved new.are_moved (image_of old.kept.mirror) r
          c.args.code T live coded k.has
          (λ x off. c.note_op.ensures.told k.order.slots_are fine x
          (sym (ap (λ t. list_any (xid_eq x) t.branches.keys) c.note_values.ensures.told) ∙ off))
          moved;
      settled = k.settled;
      order = k.order;
    })
