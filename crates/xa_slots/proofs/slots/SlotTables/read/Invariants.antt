use Rattle.std.proofs.Common.{◌≡◌, ◌≤◌, ◌-◌, false, length, IsSome, vec_len}
use Rattle.sqlite_trees.specs.View.{IsClean, IsQuiet}
use Rattle.xa_slots.specs.{EndsTaken, OnlyReads}
use Rattle.xa_slots.proofs.Found.{IsReading}
use Rattle.xa_slots.proofs.slots.SlotTables.read.Given as goal

abbrev pub invariant-loop-slots : goal.invariant-loop-slots
invariant-loop-slots g l =
    let view = g.S.Store.view in
    record {
      few : length l.slots.items ≤ l.count;
      taken : EndsTaken l.slots.items;
      live : IsSome ((view l.self.trees).cursors 0);
      sound : IsClean (view l.self.trees) → (view l.fn.self.trees).is_broken ≡ false;
      only : OnlyReads (view l.fn.self.trees) (view l.self.trees);
      reading : IsClean (view l.self.trees)
          → IsReading l.table 0 (view l.fn.self.trees) (view l.self.trees) l.slots.items;
      quiet : IsQuiet view g.S.Store.faults g.S.Store.recovers g.S.Store.is_shielded l.fn.self.trees l.self.trees;
    }

abbrev pub decreases-loop-slots : goal.decreases-loop-slots
decreases-loop-slots g l = l.count - vec_len l.slots
