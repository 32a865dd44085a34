use Rattle.xa_base.proofs.{◌≡◌, ◌∙◌, arith}
use Rattle.xa_store_sqlite.specs.{image_of}
use Rattle.xa_store_sqlite.proofs.Changes.{all_cleared, next_cleared, quiet_on}
use Rattle.xa_store_sqlite.proofs.kept.Kept.clear_changes.Goals as goal

pub loop-place-preserved : goal.loop-place-preserved
loop-place-preserved g c =
    let i = c.loop-place.invariant in
    let done = c.clear_change_of.ensures in
    record {
      image =
          next_cleared (image_of c.args.self.now.mirror) (image_of c.loop-place.self.mirror)
          (image_of c.clear_change_of.new.self.mirror) c.args.slot c.loop-place.place i.image
          c.in_ok-clear_change_of.ensures.image;
      seen = λ seen. c.in_ok-clear_change_of.ensures.seen (i.seen seen);
      slots = done.slots ∙ i.slots;
      places = done.places ∙ i.places;
      free = done.free ∙ i.free;
      quiet =
          quiet_on g.S.Store.view g.S.Store.faults g.S.Store.recovers g.S.Store.is_shielded c.args.self.now.tables.trees
          c.loop-place.self.tables.trees
          c.clear_change_of.new.self.tables.trees i.quiet done.quiet;
    }

pub returns-clause-image : goal.returns-clause-image
returns-clause-image g c =
    let last : c.loop-place.place ≡ c.in_ok-place-end.place-end =
    omega (arith, c.loop-place-test.false, c.loop-place.auto.place-end) in
    all_cleared (image_of c.args.self.now.mirror) (image_of c.loop-place.self.mirror) c.args.slot c.loop-place.place
    c.loop-place.invariant.image (last ∙ c.in_ok-place-end.ensures)
