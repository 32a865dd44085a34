use Rattle.xa_base.proofs.{sym}
use Rattle.xa_store_sqlite.specs.{image_of}
use Rattle.xa_store_sqlite.proofs.Changes.{none_of_slot, of_slot_within}
use Rattle.xa_store_sqlite.proofs.kept.Kept.clear_change_of.Goals as goal

pub returns-then-not-is_of-clause-image : goal.returns-then-not-is_of-clause-image
returns-then-not-is_of-clause-image g c =
    none_of_slot (image_of c.args.self.now.mirror) c.args.slot c.args.place (sym c.if-not-is_of.ensures)

pub clear_change-requires : goal.clear_change-requires
clear_change-requires g c =
    of_slot_within c.args.slot c.args.self.now.mirror.changes.items c.args.place (sym c.if-not-is_of.ensures)
