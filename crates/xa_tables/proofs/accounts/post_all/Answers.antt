use Rattle.xa_base.proofs.{◌≡◌, ◌<◌, ◌∙◌, sym, ap, arith, length, get_or}
use Rattle.xa_tables.specs.{posted_by}
use Rattle.xa_tables.proofs.PlaceLemmas.{changing_none, changing_at, changing_all, held_within, posted_untouched}
use Rattle.xa_tables.proofs.PlaceLemmas.{posted_twice, whole_more}
use Rattle.xa_tables.proofs.accounts.post_all.Goals as goal

pub bounds-accounts-place : goal.bounds-accounts-place
bounds-accounts-place c =
    omega (
      arith,
      held_within c.args.held.now c.args.accounts.now c.requires.held c.loop-place.place-index
          c.loop-place-test.true,
      c.loop-place.auto.accounts,
    )

pub loop-place-init : goal.loop-place-init
loop-place-init c = (
  changing_none (posted_by c.args.xid.now) (posted_untouched c.args.xid.now) c.args.held.now c.args.accounts.now
      c.requires.held,
  c.requires.whole,
)

pub loop-place-preserved : goal.loop-place-preserved
loop-place-preserved c =
    let f = posted_by c.args.xid.now in
    let now = c.loop-place.accounts in
    let place = get_or c.args.held.now c.loop-place.place-index 0 in
    let inside =
    held_within c.args.held.now c.args.accounts.now c.requires.held c.loop-place.place-index
    c.loop-place-test.true in
    let within : place < length now = omega (arith, c.loop-place.auto.accounts) in
    let a = c.index-accounts-place.result in
    let new : c.post_account.new.account ≡ f a = c.post_account.ensures ∙ ap f (sym c.index-accounts-place.is) in (
      changing_at f (posted_twice c.args.xid.now) c.args.held.now c.args.accounts.now now c.loop-place.place-index a
          c.post_account.new.account
          c.requires.held (omega (arith, c.loop-place.auto.accounts)) c.loop-place.invariant.0 c.loop-place-test.true
          c.index-accounts-place.is new,
      rw new (whole_more c.args.xid.now now place a within c.index-accounts-place.is c.loop-place.invariant.1),
    )

pub returns : goal.returns
returns c =
    changing_all (posted_by c.args.xid.now) c.args.held.now c.args.accounts.now c.loop-place.accounts
    c.loop-place.place-index c.loop-place.invariant.0
    c.loop-place-test.false
