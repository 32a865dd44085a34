use Rattle.xa_base.proofs.{rules, sym, ap, ◌∙◌, list_any}
use Rattle.xa_tables.specs.{is_broken, is_broken_by}
use Rattle.xa_tables.proofs.AccountLemmas.{broken_any}
use Rattle.xa_tables.proofs.PlaceLemmas.{broken_held}
use Rattle.xa_tables.proofs.accounts.Accounts.is_broken.Goals as goal

pub returns : goal.returns
returns c =
    let x = c.args.xid.now in
    c.any_at.ensures (λ a. is_broken_by a x) (λ a b is. search rules) (broken_held x)
    ∙ ap (list_any (λ a. is_broken_by a x)) c.deref.ensures.value
    ∙ sym (broken_any c.self.inside.accounts.items x c.self.invariant.0)
    ∙ ap (λ h. is_broken h.values h.sums x) c.self.view_is
