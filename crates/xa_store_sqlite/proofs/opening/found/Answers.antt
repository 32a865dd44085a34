use Rattle.xa_base.proofs.{ap}
use Rattle.xa_store_sqlite.specs.{image_of}
use Rattle.xa_store_sqlite.proofs.FromFile.{known, known_at, settled_found}
use Rattle.xa_store_sqlite.proofs.opening.found.Goals as goal

pub returns-clause-knows : goal.returns-clause-knows
returns-clause-knows g c = λ fresh knows owned.
    let view = g.S.Store.view in
    let recovers = g.S.Store.recovers in
    let p = c.in_ok-found.found in
    let e = c.in_ok-found.ensures in
    let image = image_of c.args.mirror in
    let trees = c.args.tables.trees in
    known_at view recovers (ap (λ t. t.trees) e.tables)
    (known (view trees) (recovers trees) p.1.slots.entries p.1.places.entries image (image_of p.1.mirror) p.0.tables
    (ap image_of e.mirror) e.has
    (settled_found (view trees) (recovers trees) image fresh knows c.are_committed.ensures) (e.order owned))
