use Rattle.xa_base.proofs.{◌≡◌, ◌<◌, length, refl, sym, ap, ◌∙◌, arith, slice_index_or, [], ◌+ℤ◌, set, length-set}
use Rattle.xa_base.proofs.{length-map, from_entries, None, is_missing, +ℤ_idl, pos, unwrap_or}
use Rattle.std.specs.FinMap as finmap
use Rattle.xa_words.specs.Orders.{key_cmp}
use Rattle.xa_tables.specs.{Account, touch_cmp, value_entries, is_touched, sum_of, hold_entries, added_to, key_at}
use Rattle.xa_tables.specs.{keys_of, place_in}
use Rattle.xa_tables.proofs.PlaceLemmas.{held_noted, note_room, key_there}
use Rattle.xa_tables.proofs.AccountLemmas.{keys_set, IsFor, values_set, sums_added, distinct_added, all_held, held_any}
use Rattle.xa_tables.proofs.AccountLemmas.{is_held_in, at_own_key}
use Rattle.xa_tables.proofs.Restoring.{untouched_none}
use Rattle.xa_tables.proofs.accounts.Accounts.hold.Goals as goal
use Rattle.xa_tables.proofs.accounts.Accounts.hold.Goals.{After-index-account}

-- the place is one of the accounts, the account there has its key, and nobody has touched it
there : (c : After-index-account) → (c.args.place < length c.self.inside.accounts.items)
    × (c.index-account.result.now.key ≡ slice_index_or (keys_of c.self.inside.accounts.items) c.args.place [])
    × (c.index-account.result.now.hold ≡ None)
there c =
    let items = c.self.inside.accounts.items in
    let a = c.index-account.result.now in
    let within : c.args.place < length items = grind (arith, length-map) in
    let keyed = sym (key_there items c.args.place a within c.index-account.ensures) in (
      within,
      keyed,
      is_missing a.hold
          (ap is_held_in (sym (at_own_key items c.args.place a c.self.invariant.0 within c.index-account.ensures))
          ∙ sym (held_any items a.key c.self.invariant.0)
          ∙ ap (is_touched (from_entries {R = touch_cmp} (hold_entries items))) keyed
          ∙ ap (λ h. is_touched h.sums (key_at h c.args.place)) c.self.view_is ∙ c.requires.free),
    )

pub note-requires : goal.note-requires
note-requires c none =
    let fewer = note_room c.self.inside.held.items c.self.inside.accounts.items c.args.place c.index-account.result.now
    c.args.xid.now c.args.delta
    c.self.invariant.3 ((there ((goal.at.note-requires c).After-index-account)).0) c.index-account.ensures none in
    omega (arith, c.self.invariant.4, c.self.inside.held.ok.0)

pub with_added-requires-clause-good : goal.with_added-requires-clause-good
with_added-requires-clause-good c =
    let inside = (there ((goal.at.with_added-requires-clause-good c).After-index-account)).0 in
    rw c.index-account.ensures (c.self.invariant.1 c.args.place c.index-account.result.now inside)

pub invariant_of-self : goal.invariant_of-self
invariant_of-self c =
    let items = c.self.inside.accounts.items in
    let at = there ((goal.at.invariant_of-self c).After-index-account) in
    let inside = at.0 in
    let i = c.args.place in
    let a = c.index-account.result.now in
    let b : Account = added_to a c.args.xid.now c.args.delta in
    rw (ap (set items i) c.with_added.ensures.added) (
      distinct_added items i a c.args.xid.now c.args.delta c.self.invariant.0 c.index-account.ensures,
      all_held
          c.self.inside.adds i a c.args.xid.now c.args.delta items c.with_added.ensures.valid
          (omega (arith, c.requires.few, ap (λ h. h.adds) c.self.view_is)) at.2 inside c.index-account.ensures
          c.self.invariant.1,
      λ k. c.self.invariant.2 k
          ∙ ap (place_in k) (sym (keys_set items i a b c.index-account.ensures refl)),
      rw c.note.ensures.places
          (held_noted c.self.inside.held.items items i a b c.self.invariant.3 inside c.index-account.ensures refl),
      omega (arith, length-set items i b, c.note.ensures.room, c.self.invariant.4),
      omega
          (arith, length-set items i b, c.self.invariant.5),
    )

pub returns-clause-sums : goal.returns-clause-sums
returns-clause-sums c =
    let items = c.self.inside.accounts.items in
    let at = there ((goal.at.returns-clause-sums c).After-index-account) in
    let mine : IsFor c.args.xid.now c.index-account.result.now.hold = rw at.2 tt in
    let i = c.args.place in
    let x = c.args.xid.now in
    let d = c.args.delta in
    let none : finmap.get c.args.self.now.sums (x, key_at c.args.self.now i) ≡ None =
    untouched_none c.args.self.now.sums x (key_at c.args.self.now i) c.requires.free in
    ap (λ b. from_entries {R = touch_cmp} (hold_entries (set items i b))) c.with_added.ensures.added
    ∙ sums_added items i c.index-account.result.now x d c.self.invariant.0 at.0 c.index-account.ensures mine
    ∙ ap
    (λ k. finmap.insert (from_entries {R = touch_cmp} (hold_entries items)) (x, k)
    (sum_of (from_entries (hold_entries items)) x k +ℤ d)) at.1
    ∙ ap (λ h. finmap.insert h.sums (x, key_at h i) (sum_of h.sums x (key_at h i) +ℤ d)) c.self.view_is
    ∙ ap (λ o. finmap.insert c.args.self.now.sums (x, key_at c.args.self.now i) (unwrap_or o (pos 0) +ℤ d)) none
    ∙ ap (finmap.insert c.args.self.now.sums (x, key_at c.args.self.now i)) (+ℤ_idl d)

pub returns-clause-values : goal.returns-clause-values
returns-clause-values c =
    let items = c.self.inside.accounts.items in
    let a = c.index-account.result.now in
    ap (λ b. from_entries {R = key_cmp} (value_entries (set items c.args.place b))) c.with_added.ensures.added
    ∙ ap (from_entries {R = key_cmp})
    (values_set items c.args.place a (added_to a c.args.xid.now c.args.delta) c.index-account.ensures refl refl)
    ∙ ap (λ h. h.values) c.self.view_is
