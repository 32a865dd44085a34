use Rattle.xa_base.proofs.{◌≡◌, ◌∙◌, sym, ap, rules, get_or, list_any, or_from, take_all, list_any_at}
use Rattle.std.proofs.lemmas.List.Folds.{list_any_more}
use Rattle.xa_tables.specs.{passes_at}
use Rattle.xa_tables.proofs.PlaceLemmas.{held_within, passes_read, none_held}
use Rattle.xa_tables.proofs.accounts.any_at.Goals as goal

pub bounds-accounts-place : goal.bounds-accounts-place
bounds-accounts-place g c =
    held_within c.args.held.now c.args.accounts.now c.requires.held c.loop-place.place-index c.loop-place-test.true

pub returns-then-test : goal.returns-then-test
returns-then-test g c passes agrees only =
    let is : c.test.result ≡ passes c.index-accounts-place.result =
    agrees c.index-accounts-place.result c.test.result (search rules) in
    let inside =
    held_within c.args.held.now c.args.accounts.now c.requires.held c.loop-place.place-index
    c.loop-place-test.true in
    sym (list_any_at passes c.args.accounts.now (get_or c.args.held.now c.loop-place.place-index 0)
    c.index-accounts-place.result inside
    (ap passes (sym c.index-accounts-place.is) ∙ sym is ∙ c.if-test.true))

pub loop-place-preserved : goal.loop-place-preserved
loop-place-preserved g c passes agrees =
    let a = c.index-accounts-place.result in
    let is : c.test.result ≡ passes a = agrees a c.test.result (search rules) in
    let inside =
    held_within c.args.held.now c.args.accounts.now c.requires.held c.loop-place.place-index
    c.loop-place-test.true in
    list_any_more (λ p. passes_at passes c.args.accounts.now p) c.args.held.now c.loop-place.place-index 0
    c.loop-place-test.true
    ∙ or_from _ _ (c.loop-place.invariant passes agrees)
    (passes_read passes c.args.accounts.now (get_or c.args.held.now c.loop-place.place-index 0) a inside
    c.index-accounts-place.is ∙ sym is ∙ c.if-test.false)

pub returns : goal.returns
returns g c passes agrees only =
    sym (none_held passes only c.args.held.now c.args.accounts.now c.requires.held
    (ap (list_any (λ p. passes_at passes c.args.accounts.now p))
    (sym (take_all c.loop-place.place-index c.args.held.now c.loop-place-test.false))
    ∙ c.loop-place.invariant passes agrees))
