use Rattle.std.proofs.Common.{rules, ◌≡◌, ◌∷◌, ◌++◌, ◌∙◌, List, IsErrOf, sym, ap, arith}
use Rattle.std.proofs.lemmas.Option.{same_Some}
use Rattle.sqlite_value.specs.Order.{Row}
use Rattle.sqlite_trees.specs.View.{IsClean}
use Rattle.xa_slots.specs.{NotSlots, rows_from}
use Rattle.xa_slots.proofs.Found.{no_slots, own_cause}
use Rattle.xa_slots.proofs.slots.SlotTables.read.Goals as goal

pub returns-in_err-add-clause-refused : goal.returns-in_err-add-clause-refused
returns-in_err-add-clause-refused g c = λ told clean.
    let view = g.S.Store.view in
    let rows = (view c.args.self.now.trees).trees c.args.table in
    let found = c.loop-slots.slots.items in
    let row = c.next.new.row in
    let clean_before : IsClean (view c.loop-slots.self.trees) = let le = c.in_ok-next.ensures.quiet.clean in
    omega arith in
    let reading = c.loop-slots.invariant.reading clean_before in
    let given = rw c.if-branch.true at (c.in_ok-next.ensures.ok clean) in
    let left : reading.left ≡ row ∷ given.0 = same_Some _ _ (sym reading.given ∙ given.1) in
    let refused : IsErrOf c.add.result NotSlots = search rules in
    no_slots c.args.count found row given.0 rows c.loop-slots.invariant.taken
    (reading.rows_are ∙ ap (λ (rest : List Row). rows_from 1 found ++ rest) left) (c.add.ensures.refused refused)

pub returns-in_err-add-clause-cause : goal.returns-in_err-add-clause-cause
returns-in_err-add-clause-cause g c = λ clean. search (rules, own_cause)
