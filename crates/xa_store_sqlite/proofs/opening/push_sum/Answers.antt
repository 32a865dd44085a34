use Rattle.xa_base.proofs.{◌≡◌, ◌∙◌, ◌++◌, [], None, Some, ap, append-nil, slice_get, sym}
use Rattle.xa_store_sqlite.specs.{branch_name_at, with_sum}
use Rattle.xa_store_sqlite.specs.Files.{sum_of_change}
use Rattle.xa_store_sqlite.proofs.LeftOver.{read_no_account}
use Rattle.xa_store_sqlite.proofs.Values.{read_account}
use Rattle.xa_store_sqlite.proofs.opening.push_sum.Goals as goal

pub returns-in_default : goal.returns-in_default
returns-in_default c =
    let sums = c.args.sums.now.items in
    let m = c.args.mirror.now in
    let at =
    read_no_account m.accounts.items c.deref.result.now c.args.place c.get.result c.deref.ensures.value
    c.get.ensures.lookup (sym c.copied.ensures ∙ c.in_default.is) in
    sym (append-nil sums) ∙ ap (λ o. sums ++ sum_of_change m.branches.items o c.args.change.now) (sym at)

pub returns : goal.returns
returns c =
    let sums = c.args.sums.now.items in
    let m = c.args.mirror.now in
    let bs = m.branches.items in
    let account = c.in-Some.account in
    let change = c.in-Some-change.change in
    let at =
    read_account m.accounts.items c.deref.result.now c.args.place c.get.result account c.deref.ensures.value
    c.get.ensures.lookup (sym c.copied.ensures ∙ c.in-Some.is) in
    let name =
    sym (c.name_at.ensures ∙ ap (λ l. branch_name_at l change.branch) c.deref-2.ensures.value)
    ∙ c.in-Some-name_at.is in
    c.in_ok-push.ensures.items
    ∙ sym
    (ap (λ o. sums ++ sum_of_change bs o c.args.change.now) at
    ∙ ap (λ d. sums ++ sum_of_change bs (Some account) d) c.in-Some-change.is
    ∙ ap (λ o. sums ++ with_sum account.0 change.delta o []) name)
