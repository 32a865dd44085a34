use Rattle.std.proofs.Common.{◌∙◌, ap, List}
use Rattle.sqlite_value.specs.Order.{Row}
use Rattle.sqlite_trees.specs.Tree.{order_of, sought}
use Rattle.sqlite_trees.specs.View.{with_cursor}
use Rattle.sqlite_trees.specs.declared.store.Direction.TheVariants.{Forward}
use Rattle.xa_slots.proofs.Found.{from_first}
use Rattle.xa_slots.proofs.slots.SlotTables.begin.Goals as goal

pub returns-clause-begun : goal.returns-clause-begun
returns-clause-begun g c = λ clean.
    let old = g.S.Store.view c.args.self.now.trees in
    let order = order_of (old.shape c.args.table) in
    let rows = old.trees c.args.table in
    c.in_ok-seek.ensures.ok clean
    ∙ ap (λ (key : Row). with_cursor old 0 (sought order Forward key rows)) c.clear.ensures
    ∙ ap (λ (left : List Row). with_cursor old 0 left) (from_first order rows)
