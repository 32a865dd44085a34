use Rattle.xa_base.proofs.{◌∙◌, [], ap, list_any, List, subst, sym}
use Rattle.xa_words.specs.{XidName, xid_eq}
use Rattle.xa_store_sqlite.specs.{HasAllBut, PutsAll, image_of}
use Rattle.xa_store_sqlite.proofs.Writing.{all_put}
use Rattle.xa_store_sqlite.proofs.store.SlotStore.put_owed.Goals as goal

pub returns-clause-order : goal.returns-clause-order
returns-clause-order g c = λ o.
    let removed = c.in_ok-remove_told.ensures.removed o in
    c.put_moved.ensures.order
    (c.in_ok-put_told.ensures.order (c.in_ok-remove_told.ensures.order o)
    (λ x on. removed.gone x (ap (λ t. list_any (xid_eq x) t.branches.keys) (sym c.remove_told.ensures.told) ∙ on)))

pub returns-clause-all : goal.returns-clause-all
returns-clause-all g c = λ o h.
    let first = c.args.self.now in
    let T = c.args.manager.now.tables in
    let removed = c.in_ok-remove_told.ensures.removed o in
    let put =
    c.in_ok-put_told.ensures.put (c.in_ok-remove_told.ensures.order o)
    (λ x on. removed.gone x
    (ap (λ t. list_any (xid_eq x) t.branches.keys) (sym c.remove_told.ensures.told) ∙ on)) in
    let same =
    subst
    (λ (t : List XidName). PutsAll t T (image_of c.remove_told.new.self.kept.mirror)
    (image_of c.put_told.new.self.kept.mirror)) (ap (λ t. t.branches.keys) c.remove_told.ensures.told) put in
    let moved = c.put_told.ensures.moved ∙ c.remove_told.ensures.moved in
    c.put_moved.ensures.values
    (subst (λ b. HasAllBut [] b (image_of c.put_told.new.self.kept.mirror) T) (sym moved)
    (all_put first.told.branches.keys first.are_moved T (image_of first.kept.mirror)
    (image_of c.remove_told.new.self.kept.mirror) (image_of c.put_told.new.self.kept.mirror) h removed same))
