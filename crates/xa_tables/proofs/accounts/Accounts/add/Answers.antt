use Rattle.xa_base.proofs.{◌≡◌, ◌<◌, length, refl, sym, ap, ◌∙◌, arith, slice_index_or, [], ◌+ℤ◌, set, length-set}
use Rattle.xa_base.proofs.{length-map, from_entries}
use Rattle.std.specs.FinMap as finmap
use Rattle.xa_words.specs.Orders.{key_cmp}
use Rattle.xa_tables.specs.{Account, touch_cmp, is_broken, has_other_touched, sum_of, value_entries, hold_entries}
use Rattle.xa_tables.specs.{added_to, key_at, keys_of, place_in}
use Rattle.xa_tables.proofs.PlaceLemmas.{held_noted, note_room, key_there}
use Rattle.xa_tables.proofs.AccountLemmas.{keys_set, IsFor, for_place, values_set, sums_added, others_added}
use Rattle.xa_tables.proofs.AccountLemmas.{distinct_added, all_added}
use Rattle.xa_tables.proofs.accounts.Accounts.add.Goals as goal
use Rattle.xa_tables.proofs.accounts.Accounts.add.Goals.{After-index-account}

-- the place is one of the accounts, the account there has its key, and no other branch has touched it
within : (c : After-index-account) → c.args.place < length c.self.inside.accounts.items
within c = grind (arith, length-map)

keyed : (c : After-index-account)
    → c.index-account.result.now.key ≡ slice_index_or (keys_of c.self.inside.accounts.items) c.args.place []
keyed c =
    sym (key_there c.self.inside.accounts.items c.args.place c.index-account.result.now (within c)
    c.index-account.ensures)

mine : (c : After-index-account) → IsFor c.args.xid.now c.index-account.result.now.hold
mine c =
    for_place c.self.inside.accounts.items c.args.place c.index-account.result.now c.args.xid.now _ c.self.invariant.0
    (within c)
    c.index-account.ensures (keyed c)
    (ap (λ h. has_other_touched h.sums c.args.xid.now (key_at h c.args.place)) c.self.view_is ∙ c.requires.alone)

pub note-requires : goal.note-requires
note-requires c none =
    let fewer = note_room c.self.inside.held.items c.self.inside.accounts.items c.args.place c.index-account.result.now
    c.args.xid.now c.args.delta
    c.self.invariant.3 (within ((goal.at.note-requires c).After-index-account)) c.index-account.ensures none in
    omega (arith, c.self.invariant.4, c.self.inside.held.ok.0)

pub with_added-requires-clause-good : goal.with_added-requires-clause-good
with_added-requires-clause-good c =
    rw c.index-account.ensures
    (c.self.invariant.1 c.args.place c.index-account.result.now
    (within ((goal.at.with_added-requires-clause-good c).After-index-account)))

pub invariant_of-self : goal.invariant_of-self
invariant_of-self c =
    let items = c.self.inside.accounts.items in
    let inside = within ((goal.at.invariant_of-self c).After-index-account) in
    let i = c.args.place in
    let a = c.index-account.result.now in
    let b : Account = added_to a c.args.xid.now c.args.delta in
    rw (ap (set items i) c.with_added.ensures.added) (
      distinct_added items i a c.args.xid.now c.args.delta c.self.invariant.0 c.index-account.ensures,
      all_added
          c.self.inside.adds i a c.args.xid.now c.args.delta items c.with_added.ensures.valid inside
          c.index-account.ensures c.self.invariant.1,
      λ k. c.self.invariant.2 k
          ∙ ap (place_in k) (sym (keys_set items i a b c.index-account.ensures refl)),
      rw c.note.ensures.places
          (held_noted c.self.inside.held.items items i a b c.self.invariant.3 inside c.index-account.ensures refl),
      omega (arith, length-set items i b, c.note.ensures.room, c.self.invariant.4),
      omega
          (arith, length-set items i b, c.self.invariant.5),
    )

pub returns-clause-sums : goal.returns-clause-sums
returns-clause-sums c =
    let items = c.self.inside.accounts.items in
    let at = (goal.at.returns-clause-sums c).After-index-account in
    let i = c.args.place in
    let x = c.args.xid.now in
    ap (λ b. from_entries {R = touch_cmp} (hold_entries (set items i b))) c.with_added.ensures.added
    ∙ sums_added items i c.index-account.result.now x c.args.delta c.self.invariant.0 (within at)
    c.index-account.ensures (mine at)
    ∙ ap
    (λ k. finmap.insert (from_entries {R = touch_cmp} (hold_entries items)) (x, k)
    (sum_of (from_entries (hold_entries items)) x k +ℤ c.args.delta))
    (keyed at)
    ∙ ap (λ h. finmap.insert h.sums (x, key_at h i) (sum_of h.sums x (key_at h i) +ℤ c.args.delta)) c.self.view_is

pub returns-clause-values : goal.returns-clause-values
returns-clause-values c =
    let items = c.self.inside.accounts.items in
    let a = c.index-account.result.now in
    ap (λ b. from_entries {R = key_cmp} (value_entries (set items c.args.place b))) c.with_added.ensures.added
    ∙ ap (from_entries {R = key_cmp})
    (values_set items c.args.place a (added_to a c.args.xid.now c.args.delta) c.index-account.ensures refl refl)
    ∙ ap (λ h. h.values) c.self.view_is

pub returns-clause-others : goal.returns-clause-others
returns-clause-others c y apart =
    let items = c.self.inside.accounts.items in
    let at = (goal.at.returns-clause-others c).After-index-account in
    let i = c.args.place in
    ap (λ b. is_broken (from_entries (value_entries (set items i b))) (from_entries (hold_entries (set items i b))) y)
    c.with_added.ensures.added
    ∙ others_added items i c.index-account.result.now c.args.xid.now c.args.delta c.self.invariant.0 (within at)
    c.index-account.ensures (mine at) y apart
    ∙ ap (λ h. is_broken h.values h.sums y) c.self.view_is
