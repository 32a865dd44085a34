use Rattle.xa_base.proofs.{◌+◌, ◌∙◌, Some, ap, pos, refl, subst, sym, take, ℕ}
use Rattle.xa_store_sqlite.specs.{AreStoredValues, Image, keys_of_accounts}
use Rattle.xa_store_sqlite.proofs.Values.{keys_set, read_account, slice_within, values_same, values_set}
use Rattle.xa_store_sqlite.proofs.kept.Kept.put_value.Goals as goal

pub returns-in-Some-value-clause-values : goal.returns-in-Some-value-clause-values
returns-in-Some-value-clause-values g c = λ so.
    let us = c.args.self.now.mirror.accounts.items in
    let at =
    read_account us c.deref.result.now c.args.place c.get.result c.in-Some.account c.deref.ensures.value
    c.get.ensures.lookup (sym c.copied.ensures ∙ c.in-Some.is) in
    values_same c.args.manager.now.tables us c.args.place c.in-Some.account at so
    (ap (λ (v : ℕ). Some (pos v)) (sym c.if-value-account.true) ∙ c.in-Some-value.ensures.value)

pub returns-in_ok-set_account-in-Some-2-clause-keys : goal.returns-in_ok-set_account-in-Some-2-clause-keys
returns-in_ok-set_account-in-Some-2-clause-keys g c =
    let us = c.args.self.now.mirror.accounts.items in
    let at =
    read_account us c.deref.result.now c.args.place c.get.result c.in-Some.account c.deref.ensures.value
    c.get.ensures.lookup (sym c.copied.ensures ∙ c.in-Some.is) in
    ap (λ (i : Image). keys_of_accounts i.accounts) c.in_ok-set_account-in-Some-2.ensures.image
    ∙ keys_set us c.args.place c.in-Some.account (c.in-Some.account.0, c.in-Some-value.value) at refl

pub returns-in_ok-set_account-in-Some-2-clause-values : goal.returns-in_ok-set_account-in-Some-2-clause-values
returns-in_ok-set_account-in-Some-2-clause-values g c = λ so.
    let us = c.args.self.now.mirror.accounts.items in
    let T = c.args.manager.now.tables in
    let at =
    read_account us c.deref.result.now c.args.place c.get.result c.in-Some.account c.deref.ensures.value
    c.get.ensures.lookup (sym c.copied.ensures ∙ c.in-Some.is) in
    subst (λ (i : Image). AreStoredValues T (take (c.args.place + 1) i.accounts))
    (sym c.in_ok-set_account-in-Some-2.ensures.image)
    (values_set T us c.args.place (c.in-Some.account.0, c.in-Some-value.value)
    (slice_within us c.args.place c.in-Some.account at) so c.in-Some-value.ensures.value)
