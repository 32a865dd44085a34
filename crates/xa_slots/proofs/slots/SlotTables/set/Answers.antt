use Rattle.std.proofs.Common.{◌+◌, ◌∙◌, ap, refl, arith, map}
use Rattle.sqlite_value.specs.Order.{Row}
use Rattle.sqlite_value.specs.Value.{owned}
use Rattle.sqlite_trees.specs.Tree.{put_row, with_tree}
use Rattle.sqlite_trees.specs.View.{View}
use Rattle.xa_slots.proofs.Rows.{sets}
use Rattle.xa_slots.proofs.slots.SlotTables.set.Goals as goal

pub returns-clause-set : goal.returns-clause-set
returns-clause-set g c = λ many all knows among within clean.
    let done = c.in_ok-put.ensures in
    let quiet = done.quiet in
    let before = knows (let le = quiet.clean in omega arith) in
    let made = done.ok clean in
    let trees = (g.S.Store.view c.args.self.now.trees).trees in (
      ap (λ (v : View). v.is_broken) made.is ∙ made.sound,
      λ t below. ap (λ (v : View). v.trees t) made.is
          ∙ ap (λ (row : Row). with_tree trees c.args.table (put_row row (trees c.args.table)) t) c.in_ok-spell.ensures
          ∙ sets many all trees before.1 c.args.table c.args.slot among within (c.args.slot + 1)
          (map owned c.args.cells.now) refl t below,
    )
