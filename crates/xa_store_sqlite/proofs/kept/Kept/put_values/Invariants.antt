use Rattle.xa_base.proofs.{◌≡◌, take}
use Rattle.sqlite_trees.specs.View.{IsQuiet}
use Rattle.xa_store_sqlite.specs.{AreStoredValues, image_of, keys_of_accounts}
use Rattle.xa_store_sqlite.proofs.Changes.{StaysSeen}
use Rattle.xa_store_sqlite.proofs.kept.Kept.put_values.Given as goal

-- the values at the first places are put
abbrev pub invariant-loop-place : goal.invariant-loop-place
invariant-loop-place g l =
    record {
      seen : StaysSeen g.S.Store.view g.S.Store.recovers l.fn.self.tables.trees l.self.tables.trees l.fn.self.is_written
          l.self.is_written (image_of l.fn.self.mirror) (image_of l.self.mirror);
      branches : l.self.mirror.branches.items ≡ l.fn.self.mirror.branches.items;
      changes : l.self.mirror.changes.items ≡ l.fn.self.mirror.changes.items;
      keys : keys_of_accounts l.self.mirror.accounts.items ≡ keys_of_accounts l.fn.self.mirror.accounts.items;
      values : AreStoredValues l.manager.tables (take l.place l.self.mirror.accounts.items);
      slots : l.self.slots ≡ l.fn.self.slots;
      places : l.self.places ≡ l.fn.self.places;
      quiet : IsQuiet g.S.Store.view g.S.Store.faults g.S.Store.recovers g.S.Store.is_shielded l.fn.self.tables.trees
          l.self.tables.trees;
    }
