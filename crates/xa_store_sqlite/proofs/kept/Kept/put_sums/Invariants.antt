use Rattle.xa_base.proofs.{◌≡◌, Some, IsDistinct, List, None, is_some, keys_of, take, true, ℕ}
use Rattle.sqlite_trees.specs.View.{IsQuiet}
use Rattle.xa_words.specs.{XidName, key_eq}
use Rattle.xa_store_sqlite.specs.{IsInOrder, PutsSums, image_of, item_at, branch_name_at, sum_in}
use Rattle.xa_store_sqlite.proofs.Changes.{StaysSeen}
use Rattle.xa_store_sqlite.proofs.kept.Kept.put_sums.Given as goal

-- the first sums are put
abbrev pub invariant-loop-key : goal.invariant-loop-key
invariant-loop-key g l =
    record {
      seen : StaysSeen g.S.Store.view g.S.Store.recovers l.fn.self.tables.trees l.self.tables.trees l.fn.self.is_written
          l.self.is_written (image_of l.fn.self.mirror) (image_of l.self.mirror);
      order : IsInOrder l.fn.self.slots.entries l.fn.self.places.entries (image_of l.fn.self.mirror)
          → is_some (item_at l.fn.self.mirror.branches.items l.slot) ≡ true
          → IsInOrder l.self.slots.entries l.self.places.entries (image_of l.self.mirror);
      branches : l.self.mirror.branches.items ≡ l.fn.self.mirror.branches.items;
      sums : IsInOrder l.fn.self.slots.entries l.fn.self.places.entries (image_of l.fn.self.mirror)
          → (x : XidName) → branch_name_at l.fn.self.mirror.branches.items l.slot ≡ Some x
          → ((k : List ℕ) → sum_in (image_of l.fn.self.mirror) x k ≡ None)
          → IsDistinct key_eq (keys_of l.sums)
          → PutsSums x (take l.key-index l.sums) (image_of l.fn.self.mirror) (image_of l.self.mirror);
      quiet : IsQuiet g.S.Store.view g.S.Store.faults g.S.Store.recovers g.S.Store.is_shielded l.fn.self.tables.trees
          l.self.tables.trees;
    }
