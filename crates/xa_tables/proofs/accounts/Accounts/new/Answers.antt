use Rattle.xa_base.proofs.{◌∙◌, refl, ap, arith, length, length-map, from_entries}
use Rattle.xa_tables.specs.{touch_cmp, hold_entries, value_entries, account_of}
use Rattle.xa_words.specs.Orders.{key_cmp}
use Rattle.xa_tables.proofs.PlaceLemmas.{held_declared, few_declared, distinct_declared, good_declared, holds_declared}
use Rattle.xa_tables.proofs.PlaceLemmas.{values_declared}
use Rattle.xa_tables.proofs.accounts.Accounts.new.Goals as goal

pub invariant_of-result : goal.invariant_of-result
invariant_of-result c =
    let ds = c.args.declared.now in
    let all = c.declare.ensures.accounts in (
      rw all (distinct_declared ds c.requires),
      rw all (good_declared ds c.requires),
      c.declare.ensures.places,
      rw (c.in_ok-held.ensures.items, all) (held_declared ds),
      omega (arith, ap length all, length-map ds account_of, c.in_ok-held.ensures.capacity),
      omega (arith, ap length all, length-map ds account_of, few_declared ds c.requires),
    )

pub returns : goal.returns
returns c =
    let ds = c.args.declared.now in
    let all = c.declare.ensures.accounts in (
      ap (λ as1. from_entries {R = touch_cmp} (hold_entries as1)) all
          ∙ ap (from_entries {R = touch_cmp}) (holds_declared ds),
      ap (λ as1. from_entries {R = key_cmp} (value_entries as1)) all ∙ values_declared ds,
      refl,
    )
