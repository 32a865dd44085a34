use Rattle.xa_base.proofs.{[], false, subst, sym}
use Rattle.xa_tables.specs.{IsOpening}
use Rattle.xa_store_sqlite.specs.{HasAllBut, image_of}
use Rattle.xa_store_sqlite.proofs.FromFile.{apart_in, has_restored, keys_once}
use Rattle.xa_store_sqlite.proofs.opening.manager_with.Goals as goal

pub returns-clause-has : goal.returns-clause-has
returns-clause-has g c =
    let image = image_of c.args.mirror in
    let e = c.in_ok-manager.ensures in
    subst (λ T. HasAllBut [] false image T) (sym e.tables) (has_restored image (subst IsOpening e.tables e.opening))

pub returns-clause-order : goal.returns-clause-order
returns-clause-order g c = λ owned.
    let image = image_of c.args.mirror in
    let none = c.in_ok-manager.ensures.faultless in
    c.in_ok-kept.ensures.order (apart_in image none) owned (keys_once image none)
