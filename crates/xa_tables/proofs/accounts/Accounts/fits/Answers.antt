use Rattle.xa_base.proofs.{◌<◌, length, sym, ap, ◌∙◌, arith, length-map, from_entries, ◌+ℤ◌}
use Rattle.xa_words.specs.Orders.{key_cmp}
use Rattle.xa_tables.specs.{Account, is_within, value_of, value_entries, key_at}
use Rattle.xa_tables.proofs.AccountLemmas.{value_there}
use Rattle.xa_tables.proofs.PlaceLemmas.{key_there}
use Rattle.xa_tables.proofs.accounts.Accounts.fits.Goals as goal

pub returns : goal.returns
returns c =
    let items = c.self.inside.accounts.items in
    let a = c.index.result.now in
    let within : c.args.place < length items =
    omega (arith, c.requires, length-map items (λ (b : Account). b.key), ap (λ h. length h.keys) c.self.view_is) in
    c.stays_within.ensures
    ∙ ap (λ v. is_within (v +ℤ c.args.delta))
    (sym (value_there items c.args.place a c.self.invariant.0 within c.index.ensures))
    ∙ ap (λ k. is_within (value_of (from_entries {R = key_cmp} (value_entries items)) k +ℤ c.args.delta))
    (sym (key_there items c.args.place a within c.index.ensures))
    ∙ ap (λ h. is_within (value_of h.values (key_at h c.args.place) +ℤ c.args.delta)) c.self.view_is
