use Rattle.xa_base.proofs.{◌≡◌, arith, length, lookup, rules}
use Rattle.xa_words.specs.{key_eq}
use Rattle.xa_store_sqlite.proofs.Founding.{next_place}
use Rattle.xa_store_sqlite.proofs.kept.places_of.Goals as goal

pub loop-place-preserved : goal.loop-place-preserved
loop-place-preserved c = λ apart k.
    let us = c.args.accounts.now in
    let count : c.in-Ok.count ≡ length c.args.accounts.now = search (arith, rules) in
    next_place us c.loop-place.place c.index-accounts-place.result k (lookup (key_eq k) c.loop-place.places.entries)
    (lookup (key_eq k) c.insert.new.self.entries) apart
    (omega (arith, c.loop-place-test.true, count)) c.index-accounts-place.is (c.loop-place.invariant apart k)
    (c.in_ok-insert.ensures.updates.0 k)
