use Rattle.xa_base.proofs.{rules, filter, arith, ◌≡◌, ◌++◌, refl, ap, ◌∙◌, length, take, drop, map, from_entries}
use Rattle.xa_tables.specs.{touch_cmp, is_broken, sums_without, value_entries, hold_entries, all_but, kept_where}
use Rattle.xa_tables.specs.{is_held_at}
use Rattle.xa_words.specs.Orders.{key_cmp}
use Rattle.xa_tables.proofs.AccountLemmas.{written_whole, kept_goes, sums_go, values_kept, others_as_were}
use Rattle.xa_tables.proofs.AccountLemmas.{forgotten_breaks, all_kept}
use Rattle.xa_tables.proofs.PlaceLemmas.{accounts_kept}
use Rattle.xa_tables.proofs.accounts.Accounts.forget.Goals as goal

-- each of the accounts was changed
all : (c : goal.After-keep_held)
    → take c.self.inside.accounts.len
    (c.let_go.new.accounts ++ drop (length c.let_go.new.accounts) c.self.inside.accounts.items)
    ≡ map (kept_where (all_but c.args.xid.now)) c.self.inside.accounts.items
all c =
    written_whole (kept_where (all_but c.args.xid.now)) _ _ _ _
    (c.let_go.ensures (all_but c.args.xid.now) (λ x b is. search rules)) c.deref_mut.ensures.value
    (omega (arith, ap length c.deref_mut.ensures.value))

pub returns-clause-sums : goal.returns-clause-sums
returns-clause-sums c =
    let keep = all_but c.args.xid.now in
    ap (λ as1. from_entries {R = touch_cmp} (hold_entries as1)) (all c)
    ∙ sums_go keep (kept_where keep) (kept_goes keep) c.self.inside.accounts.items c.self.invariant.0
    ∙ ap (λ h. sums_without h.sums c.args.xid.now) c.self.view_is

pub returns-clause-values : goal.returns-clause-values
returns-clause-values c =
    ap (λ as1. from_entries {R = key_cmp} (value_entries as1)) (all c)
    ∙ ap (from_entries {R = key_cmp}) (values_kept (all_but c.args.xid.now) c.self.inside.accounts.items)
    ∙ ap (λ h. h.values) c.self.view_is

pub returns-clause-others : goal.returns-clause-others
returns-clause-others c y apart =
    ap (λ as1. is_broken (from_entries (value_entries as1)) (from_entries (hold_entries as1)) y) (all c)
    ∙ others_as_were (kept_where (all_but c.args.xid.now)) (λ a. refl) c.self.inside.accounts.items y c.self.invariant.0
    (λ a. forgotten_breaks c.args.xid.now y apart a.value a.hold)
    ∙ ap (λ h. is_broken h.values h.sums y) c.self.view_is

pub invariant_of-self : goal.invariant_of-self
invariant_of-self c =
    let keep = all_but c.args.xid.now in
    accounts_kept keep (kept_where keep) (kept_goes keep) c.self.inside.adds c.self.inside.places.places (all c)
    (c.keep_held.ensures.places ∙ ap (λ as1. filter (is_held_at as1) c.self.inside.held.items) c.deref-2.ensures.value)
    c.keep_held.ensures.room
    c.self.invariant.0 (all_kept c.self.inside.adds keep c.self.inside.accounts.items c.self.invariant.1)
    c.self.invariant.2 c.self.invariant.3 c.self.invariant.4 c.self.invariant.5
