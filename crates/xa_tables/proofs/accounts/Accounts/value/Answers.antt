use Rattle.xa_base.proofs.{sym, ap, ◌∙◌, pos, Some, option_map, get-from_entries}
use Rattle.std.specs.FinMap as finmap
use Rattle.xa_words.specs.{key_cmp_total}
use Rattle.xa_tables.specs.{value_entries}
use Rattle.xa_tables.proofs.PlaceLemmas.{value_at, value_none}
use Rattle.xa_tables.proofs.accounts.Accounts.value.Goals as goal

pub returns-clause-value : goal.returns-clause-value
returns-clause-value c =
    let items = c.self.inside.accounts.items in
    let there = sym (c.self.invariant.2 c.args.key.now) ∙ sym c.get.ensures ∙ c.in_ok-place.was in
    ap (λ v. Some v) c.committed.ensures
    ∙ sym
    (value_at c.args.key.now items c.in_ok-place.place c.index.result.now c.self.invariant.0 there c.index.ensures)
    ∙ sym (get-from_entries key_cmp_total (value_entries items) c.args.key.now)
    ∙ ap (λ h. finmap.get h.values c.args.key.now) c.self.view_is

pub returns-in_err-place-clause-value : goal.returns-in_err-place-clause-value
returns-in_err-place-clause-value c =
    let items = c.self.inside.accounts.items in
    let nowhere = sym (c.self.invariant.2 c.args.key.now) ∙ sym c.get.ensures ∙ c.in_err-place.was in
    ap (option_map (λ x. pos x)) c.from_residual.ensures ∙ sym (value_none c.args.key.now items nowhere)
    ∙ sym (get-from_entries key_cmp_total (value_entries items) c.args.key.now)
    ∙ ap (λ h. finmap.get h.values c.args.key.now) c.self.view_is
