use Rattle.xa_base.proofs.{◌≡◌, ◌∙◌, ap, arith, refl, sym}
use Rattle.xa_store_sqlite.specs.{image_of}
use Rattle.xa_store_sqlite.proofs.Changes.{order_same}
use Rattle.xa_store_sqlite.proofs.Values.{has_values, order_valued, same_count}
use Rattle.xa_store_sqlite.proofs.kept.Kept.put_values.Goals as goal

pub returns-clause-order : goal.returns-clause-order
returns-clause-order g c = λ o.
    let i = c.loop-place.invariant in
    let first = c.args.self.now in
    order_same (ap (λ m. m.entries) i.slots) (ap (λ m. m.entries) i.places) refl
    (order_valued first.slots.entries first.places.entries (image_of first.mirror) (image_of c.loop-place.self.mirror)
    i.branches i.changes i.keys o)

pub returns-clause-values : goal.returns-clause-values
returns-clause-values g c =
    let i = c.loop-place.invariant in
    let first = c.args.self.now in
    let last : c.loop-place.place ≡ c.in_ok-place-end.place-end =
    omega (arith, c.loop-place-test.false, c.loop-place.auto.place-end) in
    has_values c.args.manager.now.tables (image_of first.mirror) (image_of c.loop-place.self.mirror) c.loop-place.place
    i.branches i.changes i.keys i.values
    (last ∙ c.in_ok-place-end.ensures.count
    ∙ sym (same_count c.loop-place.self.mirror.accounts.items first.mirror.accounts.items i.keys))
