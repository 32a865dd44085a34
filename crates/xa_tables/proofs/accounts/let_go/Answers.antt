use Rattle.xa_base.proofs.{◌∙◌, sym, ap, arith}
use Rattle.xa_tables.specs.{kept_where}
use Rattle.xa_tables.proofs.PlaceLemmas.{changing_none, changing_at, changing_all, kept_untouched, kept_twice}
use Rattle.xa_tables.proofs.PlaceLemmas.{held_within}
use Rattle.xa_tables.proofs.accounts.let_go.Goals as goal

pub bounds-accounts-place : goal.bounds-accounts-place
bounds-accounts-place g c =
    omega (
      arith,
      held_within c.args.held.now c.args.accounts.now c.requires.held c.loop-place.place-index
          c.loop-place-test.true,
      c.loop-place.auto.accounts,
    )

pub loop-place-init : goal.loop-place-init
loop-place-init g c keep agrees =
    changing_none (kept_where keep) (kept_untouched keep) c.args.held.now c.args.accounts.now c.requires.held

pub loop-place-preserved : goal.loop-place-preserved
loop-place-preserved g c keep agrees =
    let f = kept_where keep in
    changing_at f (kept_twice keep) c.args.held.now c.args.accounts.now c.loop-place.accounts c.loop-place.place-index
    c.index-accounts-place.result
    c.let_go_of.new.account c.requires.held (omega (arith, c.loop-place.auto.accounts))
    (c.loop-place.invariant keep agrees) c.loop-place-test.true
    c.index-accounts-place.is (c.let_go_of.ensures keep agrees ∙ ap f (sym c.index-accounts-place.is))

pub returns : goal.returns
returns g c keep agrees =
    changing_all (kept_where keep) c.args.held.now c.args.accounts.now c.loop-place.accounts c.loop-place.place-index
    (c.loop-place.invariant keep agrees)
    c.loop-place-test.false
