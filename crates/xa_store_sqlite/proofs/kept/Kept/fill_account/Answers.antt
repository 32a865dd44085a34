use Rattle.xa_base.proofs.{◌∙◌, ◌≤◌, List, Some, ap, arith, get_or_from_slice_get, sym, ℕ}
use Rattle.xa_tables.proofs.PlaceLemmas.{limit_declared}
use Rattle.xa_store_sqlite.specs.{image_of}
use Rattle.xa_store_sqlite.specs.Files.{accounts_to}
use Rattle.xa_store_sqlite.proofs.Filling.{knows_next, room_next}
use Rattle.xa_store_sqlite.proofs.Values.{read_account}
use Rattle.xa_store_sqlite.proofs.kept.Kept.fill_account.Goals as goal

pub returns-clause-filled : goal.returns-clause-filled
returns-clause-filled g c = λ knows.
    let image = image_of c.args.self.now.mirror in
    let account = c.in-Some.account in
    let at =
    read_account image.accounts c.deref.result.now c.args.place c.get.result account c.deref.ensures.value
    c.get.ensures.lookup (sym c.copied.ensures ∙ c.in-Some.is) in
    knows_next (g.S.Store.view c.set.new.self.trees) image c.args.place _ account at (ap Some c.account_cells.ensures)
    (c.in_ok-set.ensures.set 4 (accounts_to c.args.place image) knows (omega arith)
    (room_next image c.args.place account at))

pub returns-then-account-gt-MOST_VALUE-clause-device : goal.returns-then-account-gt-MOST_VALUE-clause-device
returns-then-account-gt-MOST_VALUE-clause-device g c = λ are within.
    let accounts = c.args.self.now.mirror.accounts.items in
    let account = c.in-Some.account in
    let at =
    read_account accounts c.deref.result.now c.args.place c.get.result account c.deref.ensures.value
    c.get.ensures.lookup (sym c.copied.ensures ∙ c.in-Some.is) in
    let same = sym (get_or_from_slice_get accounts c.args.place account account at) in
    let small : account.1 ≤ 1000000000000 =
    limit_declared accounts c.args.place account are within (ap (λ (a : List ℕ × ℕ). a.1) same) in
    let past : ⊥ = omega (arith, small, c.if-account-gt-MOST_VALUE.true) in
    absurd past
