use Rattle.xa_base.proofs.{◌≡◌}
use Rattle.sqlite_trees.specs.View.{IsQuiet}
use Rattle.xa_store_sqlite.specs.{image_of}
use Rattle.xa_store_sqlite.proofs.Changes.{StaysSeen, cleared_to}
use Rattle.xa_store_sqlite.proofs.kept.Kept.clear_changes.Given as goal

-- the changes at the first places are cleared
abbrev pub invariant-loop-place : goal.invariant-loop-place
invariant-loop-place g l =
    record {
      image : image_of l.self.mirror ≡ cleared_to (image_of l.fn.self.mirror) l.slot l.place;
      seen : StaysSeen g.S.Store.view g.S.Store.recovers l.fn.self.tables.trees l.self.tables.trees l.fn.self.is_written
          l.self.is_written (image_of l.fn.self.mirror) (image_of l.self.mirror);
      slots : l.self.slots ≡ l.fn.self.slots;
      places : l.self.places ≡ l.fn.self.places;
      free : l.self.free ≡ l.fn.self.free;
      quiet : IsQuiet g.S.Store.view g.S.Store.faults g.S.Store.recovers g.S.Store.is_shielded l.fn.self.tables.trees
          l.self.tables.trees;
    }
