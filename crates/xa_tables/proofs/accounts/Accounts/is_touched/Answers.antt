use Rattle.xa_base.proofs.{◌<◌, length, sym, ap, ◌∙◌, arith, length-map, from_entries}
use Rattle.xa_tables.specs.{Account, touch_cmp, is_touched, hold_entries, key_at}
use Rattle.xa_tables.proofs.AccountLemmas.{held_any, is_held_in, at_own_key}
use Rattle.xa_tables.proofs.PlaceLemmas.{key_there}
use Rattle.xa_tables.proofs.accounts.Accounts.is_touched.Goals as goal

pub returns : goal.returns
returns c =
    let items = c.self.inside.accounts.items in
    let a = c.index.result.now in
    let within : c.args.place < length items =
    omega (arith, c.requires, length-map items (λ (b : Account). b.key), ap (λ h. length h.keys) c.self.view_is) in
    c.is_some.ensures ∙ ap is_held_in (sym (at_own_key items c.args.place a c.self.invariant.0 within c.index.ensures))
    ∙ sym (held_any items a.key c.self.invariant.0)
    ∙ ap (is_touched (from_entries {R = touch_cmp} (hold_entries items)))
    (sym (key_there items c.args.place a within c.index.ensures))
    ∙ ap (λ h. is_touched h.sums (key_at h c.args.place)) c.self.view_is
