use Rattle.std.proofs.Common.{rules, ◌≡◌, ◌+◌, ◌∙◌, ap, refl, arith, pos, ℤ, to_z, of_z, w64}
use Rattle.sqlite_trees.specs.Tree.{with_tree, without_rowid}
use Rattle.sqlite_trees.specs.View.{View}
use Rattle.xa_slots.proofs.Rows.{clears}
use Rattle.xa_slots.proofs.slots.SlotTables.clear.Goals as goal

pub returns-clause-cleared : goal.returns-clause-cleared
returns-clause-cleared g c = λ many all knows among within clean.
    let done = c.in_ok-delete.ensures in
    let quiet = done.quiet in
    let before = knows (let le = quiet.clean in omega arith) in
    let made = done.ok clean in
    let trees = (g.S.Store.view c.args.self.now.trees).trees in
    let id : to_z w64 (of_z w64 c.rowid_of.result) ≡ pos (c.args.slot + 1) = search (arith, rules) in (
      ap (λ (v : View). v.is_broken) made.is ∙ made.sound,
      λ t below. ap (λ (v : View). v.trees t) made.is
          ∙ ap (λ (id : ℤ). with_tree trees c.args.table (without_rowid id (trees c.args.table)) t) id
          ∙ clears many all trees before.1 c.args.table c.args.slot among within (c.args.slot + 1) refl t below,
    )
