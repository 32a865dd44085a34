use Rattle.xa_base.proofs.{None, refl, arith}
use Rattle.xa_store_sqlite.specs.{image_of, slots_of}
use Rattle.xa_store_sqlite.proofs.Slots.{among, knows_change}
use Rattle.xa_store_sqlite.proofs.kept.Kept.clear_change.Goals as goal

pub returns-clause-written : goal.returns-clause-written
returns-clause-written g c = λ knows.
    let image = image_of c.args.self.now.mirror in
    let done =
    c.in_ok-clear.ensures.cleared 4 (slots_of image) knows (omega arith)
    (among _ image.changes c.args.place c.requires) in
    knows_change (g.S.Store.view c.clear.new.self.trees) image c.args.place _ None refl done
