use Rattle.xa_base.proofs.{◌++◌, [], sym, ap, ◌∙◌, arith, cons_option}
use Rattle.xa_tables.specs.{own_sum}
use Rattle.xa_tables.proofs.PlaceLemmas.{held_within}
use Rattle.xa_tables.proofs.HeldSums.{sums_more}
use Rattle.xa_tables.proofs.accounts.put_sums.Goals as goal

pub bounds-accounts-place : goal.bounds-accounts-place
bounds-accounts-place c =
    held_within c.args.held.now c.args.accounts.now c.requires.held c.loop-place.place-index c.loop-place-test.true

pub loop-place-preserved : goal.loop-place-preserved
loop-place-preserved c =
    let accounts = c.args.accounts.now in
    let held = c.args.held.now in
    let i = c.loop-place.place-index in
    let inside = held_within held accounts c.requires.held i c.loop-place-test.true in
    let a = c.index-accounts-place.result in (
      c.put_own.ensures.sums ∙ ap (λ es. es ++ cons_option (own_sum c.args.xid.now a) []) c.loop-place.invariant.0
          ∙ sym (sums_more c.args.xid.now accounts held i a c.loop-place-test.true inside c.index-accounts-place.is),
      omega (arith, c.put_own.ensures.len, c.loop-place.invariant.1),
    )
