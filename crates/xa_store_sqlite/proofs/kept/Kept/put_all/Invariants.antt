use Rattle.std.specs.Map.Iter.{deref}
use Rattle.xa_base.proofs.{◌≡◌, ◌++◌, map, vec_capacity}
use Rattle.sqlite_trees.specs.View.{IsQuiet}
use Rattle.xa_store_sqlite.specs.{IsInOrder, LackAll, PutsAll, image_of}
use Rattle.xa_store_sqlite.proofs.Changes.{StaysSeen}
use Rattle.xa_store_sqlite.proofs.kept.Kept.put_all.Given as goal

-- the first of them are put
abbrev pub invariant-loop-xid : goal.invariant-loop-xid
invariant-loop-xid g l =
    let old = l.fn.self in
    let new = l.self in
    let told = l.xids.keys in
    record {
      so_far : map deref l.yielded ++ l.xid-iterator ≡ told;
      seen : StaysSeen g.S.Store.view g.S.Store.recovers l.fn.self.tables.trees l.self.tables.trees l.fn.self.is_written
          l.self.is_written (image_of l.fn.self.mirror) (image_of l.self.mirror);
      order : IsInOrder old.slots.entries old.places.entries (image_of old.mirror) → LackAll told (image_of old.mirror)
          → IsInOrder new.slots.entries new.places.entries (image_of new.mirror);
      put : IsInOrder old.slots.entries old.places.entries (image_of old.mirror) → LackAll told (image_of old.mirror)
          → PutsAll (map deref l.yielded) l.manager.tables (image_of old.mirror) (image_of new.mirror);
      room : vec_capacity l.sums ≡ vec_capacity l.fn.sums;
      quiet : IsQuiet g.S.Store.view g.S.Store.faults g.S.Store.recovers g.S.Store.is_shielded old.tables.trees
          new.tables.trees;
    }
