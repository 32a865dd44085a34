use Rattle.xa_base.proofs.{arith, ◌≡◌, ◌++◌, refl, sym, ap, ◌∙◌, length, take, drop, list_any, filter, map}
use Rattle.xa_base.proofs.{from_entries}
use Rattle.xa_tables.specs.{touch_cmp, is_broken, sums_without, posted, value_entries, hold_entries, posted_by}
use Rattle.xa_tables.specs.{is_broken_by, all_but, is_held_at}
use Rattle.xa_words.specs.Orders.{key_cmp}
use Rattle.xa_tables.proofs.AccountLemmas.{written_whole, posted_goes, sums_go, values_posted, others_as_were}
use Rattle.xa_tables.proofs.AccountLemmas.{settled_breaks, all_posted, broken_any}
use Rattle.xa_tables.proofs.PlaceLemmas.{accounts_kept}
use Rattle.xa_tables.proofs.accounts.Accounts.post.Goals as goal

pub post_all-requires-clause-whole : goal.post_all-requires-clause-whole
post_all-requires-clause-whole c =
    ap (list_any (λ a. is_broken_by a c.args.xid.now)) c.deref_mut.ensures.value
    ∙ sym (broken_any c.self.inside.accounts.items c.args.xid.now c.self.invariant.0)
    ∙ ap (λ h. is_broken h.values h.sums c.args.xid.now) c.self.view_is ∙ c.requires

-- each of the accounts was changed
all : (c : goal.After-keep_held)
    → take c.self.inside.accounts.len
    (c.post_all.new.accounts ++ drop (length c.post_all.new.accounts) c.self.inside.accounts.items)
    ≡ map (posted_by c.args.xid.now) c.self.inside.accounts.items
all c =
    written_whole (posted_by c.args.xid.now) _ _ _ _ c.post_all.ensures c.deref_mut.ensures.value
    (omega (arith, ap length c.deref_mut.ensures.value))

pub returns-clause-sums : goal.returns-clause-sums
returns-clause-sums c =
    let x = c.args.xid.now in
    ap (λ as1. from_entries {R = touch_cmp} (hold_entries as1)) (all c)
    ∙ sums_go (all_but x) (posted_by x) (posted_goes x) c.self.inside.accounts.items c.self.invariant.0
    ∙ ap (λ h. sums_without h.sums x) c.self.view_is

pub returns-clause-values : goal.returns-clause-values
returns-clause-values c =
    ap (λ as1. from_entries {R = key_cmp} (value_entries as1)) (all c)
    ∙ values_posted c.args.xid.now c.self.inside.accounts.items c.self.invariant.0
    ∙ ap (λ h. posted h.values h.sums c.args.xid.now) c.self.view_is

pub returns-clause-others : goal.returns-clause-others
returns-clause-others c y apart =
    ap (λ as1. is_broken (from_entries (value_entries as1)) (from_entries (hold_entries as1)) y) (all c)
    ∙ others_as_were (posted_by c.args.xid.now) (λ a. refl) c.self.inside.accounts.items y c.self.invariant.0
    (λ a. settled_breaks c.args.xid.now y apart a.value a.hold)
    ∙ ap (λ h. is_broken h.values h.sums y) c.self.view_is

pub invariant_of-self : goal.invariant_of-self
invariant_of-self c =
    let items = c.self.inside.accounts.items in
    let x = c.args.xid.now in
    let whole =
    sym (broken_any items x c.self.invariant.0) ∙ ap (λ h. is_broken h.values h.sums x) c.self.view_is
    ∙ c.requires in
    accounts_kept (all_but x) (posted_by x) (posted_goes x) c.self.inside.adds c.self.inside.places.places (all c)
    (c.keep_held.ensures.places ∙ ap (λ as1. filter (is_held_at as1) c.self.inside.held.items) c.deref-2.ensures.value)
    c.keep_held.ensures.room
    c.self.invariant.0 (all_posted c.self.inside.adds x items c.self.invariant.1 whole) c.self.invariant.2
    c.self.invariant.3 c.self.invariant.4 c.self.invariant.5
