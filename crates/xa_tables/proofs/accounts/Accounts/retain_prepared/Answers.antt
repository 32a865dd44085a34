use Rattle.xa_base.proofs.{rules, filter, arith, ◌≡◌, ◌++◌, sym, ap, ◌∙◌, length, take, drop, map, from_entries}
use Rattle.xa_tables.specs.{touch_cmp, is_broken, hold_entries, value_entries, is_held_at, kept_where, prepared_in}
use Rattle.std.specs.FinMap as finmap
use Rattle.xa_words.specs.Orders.{key_cmp}
use Rattle.xa_tables.proofs.AccountLemmas.{written_whole, kept_goes, sums_go, values_kept, all_prepared, broken_any}
use Rattle.xa_tables.proofs.PlaceLemmas.{accounts_kept}
use Rattle.xa_tables.proofs.accounts.Accounts.retain_prepared.Goals as goal

-- each of the accounts was changed
all : (c : goal.After-keep_held)
    → take c.self.inside.accounts.len
    (c.let_go.new.accounts ++ drop (length c.let_go.new.accounts) c.self.inside.accounts.items)
    ≡ map (kept_where (prepared_in c.args.branches.now.states)) c.self.inside.accounts.items
all c =
    let keep = prepared_in c.args.branches.now.states in
    written_whole (kept_where keep) _ _ _ _ (c.let_go.ensures keep (λ x b is. search rules)) c.deref_mut.ensures.value
    (omega (arith, ap length c.deref_mut.ensures.value))

pub returns-clause-sums : goal.returns-clause-sums
returns-clause-sums c =
    let keep = prepared_in c.args.branches.now.states in
    ap (λ as1. from_entries {R = touch_cmp} (hold_entries as1)) (all c)
    ∙ sums_go keep (kept_where keep) (kept_goes keep) c.self.inside.accounts.items c.self.invariant.0
    ∙ ap (λ h. finmap.retain_keys h.sums (λ p. keep p.0)) c.self.view_is

pub returns-clause-values : goal.returns-clause-values
returns-clause-values c =
    ap (λ as1. from_entries {R = key_cmp} (value_entries as1)) (all c)
    ∙ ap (from_entries {R = key_cmp})
    (values_kept (prepared_in c.args.branches.now.states) c.self.inside.accounts.items)
    ∙ ap (λ h. h.values) c.self.view_is

pub invariant_of-self : goal.invariant_of-self
invariant_of-self c =
    let keep = prepared_in c.args.branches.now.states in
    accounts_kept keep (kept_where keep) (kept_goes keep) 1 c.self.inside.places.places (all c)
    (c.keep_held.ensures.places ∙ ap (λ as1. filter (is_held_at as1) c.self.inside.held.items) c.deref-2.ensures.value)
    c.keep_held.ensures.room
    c.self.invariant.0
    (all_prepared c.self.inside.adds keep c.self.inside.accounts.items c.self.invariant.1
    (λ x voted. sym (broken_any c.self.inside.accounts.items x c.self.invariant.0)
    ∙ ap (λ h. is_broken h.values h.sums x) c.self.view_is ∙ c.requires x voted))
    c.self.invariant.2 c.self.invariant.3 c.self.invariant.4 c.self.invariant.5
