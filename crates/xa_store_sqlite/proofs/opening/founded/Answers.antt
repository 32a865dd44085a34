use Rattle.xa_base.proofs.{◌≡◌, ◌∙◌, ap, err_from_is_err_and, refl, subst, sym, true}
use Rattle.xa_words.specs.{are_accounts}
use Rattle.xa_store_sqlite.specs.{IsSettledImage, Mirror, image_of}
use Rattle.xa_store_sqlite.specs.Files.{HasAccountsAlone, IsBare}
use Rattle.xa_store_sqlite.proofs.Changes.{order_same}
use Rattle.xa_store_sqlite.proofs.FromFile.{known}
use Rattle.xa_store_sqlite.proofs.opening.founded.Goals as goal

pub returns-clause-knows : goal.returns-clause-knows
returns-clause-knows g c = λ bare alone owned.
    let view = g.S.Store.view in
    let e = c.in_ok-made.ensures in
    let f = c.fill.ensures in
    let kept = c.fill.new.self in
    let seen = view kept.tables.trees in
    let recovers = g.S.Store.recovers kept.tables.trees in
    known seen recovers kept.slots.entries kept.places.entries (image_of c.args.mirror) (image_of kept.mirror) _
    (ap image_of (f.mirror ∙ e.mirror)) e.has
    (subst (λ (m : Mirror). IsSettledImage seen recovers (image_of m)) e.mirror
    (c.in_ok-fill.ensures.settled (subst (λ (m : Mirror). HasAccountsAlone (image_of m)) (sym e.mirror) alone)
    (subst (λ t. IsBare (view t.trees)) (sym e.tables) bare)))
    (order_same (ap (λ m. m.entries) f.slots) (ap (λ m. m.entries) f.places) refl (e.order owned))

pub returns-in_err-made-clause-device : goal.returns-in_err-made-clause-device
returns-in_err-made-clause-device g c = λ are none.
    let p = err_from_is_err_and c.from_residual.result c.from_residual.ensures.1 in
    rw (p.1, p.2) (c.in_err-made.ensures.device none)

pub returns-in_err-fill-clause-device : goal.returns-in_err-fill-clause-device
returns-in_err-fill-clause-device g c = λ are none.
    let p = err_from_is_err_and c.from_residual-in_err-fill.result c.from_residual-in_err-fill.ensures.1 in
    rw (p.1, p.2)
    (c.in_err-fill.ensures.device
    (subst (λ (m : Mirror). are_accounts m.accounts.items ≡ true) (sym c.in_ok-made.ensures.mirror) are))
