use Rattle.xa_base.proofs.{◌≡◌}
use Rattle.xa_slots.specs.{Knows}
use Rattle.xa_store_sqlite.specs.{image_of}
use Rattle.xa_store_sqlite.specs.Files.{IsBare, accounts_to}
use Rattle.xa_store_sqlite.proofs.kept.Kept.fill_accounts.Given as goal

-- the first accounts are written
abbrev pub invariant-loop-place : goal.invariant-loop-place
invariant-loop-place g l =
    let view = g.S.Store.view in
    record {
      filled : IsBare (view l.fn.self.tables.trees)
          → Knows 4 (view l.self.tables.trees) (accounts_to l.place (image_of l.fn.self.mirror));
      mirror : l.self.mirror ≡ l.fn.self.mirror;
      slots : l.self.slots ≡ l.fn.self.slots;
      places : l.self.places ≡ l.fn.self.places;
    }
