use Rattle.std.specs.Prelude.{OnOk}
use Rattle.xa_base.proofs.{◌∙◌, length, subst, sym}
use Rattle.xa_slots.specs.{Knows}
use Rattle.xa_store_sqlite.specs.{IsSettledImage, Mirror, image_of, slots_of}
use Rattle.xa_store_sqlite.specs.Files.{HasAccountsAlone, accounts_to}
use Rattle.xa_store_sqlite.proofs.kept.Kept.fill.Goals as goal

pub returns-clause-settled : goal.returns-clause-settled
returns-clause-settled g c = λ alone bare.
    let view = g.S.Store.view in
    let mid = c.fill_accounts.new.self in
    let last = c.fill_store.new.self in
    let new = c.commit_new.new.self.tables.trees in
    let same = c.fill_accounts.ensures.mirror in
    let still = c.fill_store.ensures.mirror in
    let accounts =
    subst (λ (m : Mirror). Knows 4 (view mid.tables.trees) (accounts_to (length m.accounts.items) (image_of m)))
    (sym same) (c.in_ok-fill_accounts.ensures.filled bare) in
    let all =
    c.in_ok-fill_store.ensures.filled (subst (λ (m : Mirror). HasAccountsAlone (image_of m)) (sym same) alone)
    accounts in
    subst (λ (m : Mirror). OnOk c.commit_new.result (IsSettledImage (view new) (g.S.Store.recovers new) (image_of m)))
    (still ∙ same)
    (c.commit_new.ensures.settled
    (subst (λ (m : Mirror). Knows 4 (view last.tables.trees) (slots_of (image_of m))) (sym still) all))
