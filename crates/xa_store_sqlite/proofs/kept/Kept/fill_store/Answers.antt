use Rattle.xa_base.proofs.{◌≡◌, ◌∙◌, Some, ap, arith, length, of_z, refl, rules, to_z, w64}
use Rattle.xa_store_sqlite.specs.{image_of, store_cells}
use Rattle.xa_store_sqlite.specs.Files.{accounts_to}
use Rattle.xa_store_sqlite.proofs.Filling.{knows_all}
use Rattle.xa_store_sqlite.proofs.kept.Kept.fill_store.Goals as goal

pub returns-clause-filled : goal.returns-clause-filled
returns-clause-filled g c = λ alone knows.
    let image = image_of c.args.self.now.mirror in
    let number : to_z w64 (of_z w64 c.args.self.now.mirror.number) ≡ c.args.self.now.mirror.number =
    search (arith, rules) in
    let one : length (accounts_to (length image.accounts) image 3) ≡ 1 = refl in
    knows_all (g.S.Store.view c.set.new.self.trees) image _ alone
    (ap Some (c.store_cells.ensures ∙ ap store_cells number))
    (c.in_ok-set.ensures.set 4 (accounts_to (length image.accounts) image) knows (omega arith) (omega (arith, one)))
