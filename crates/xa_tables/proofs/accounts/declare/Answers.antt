use Rattle.xa_base.proofs.{◌≡◌, ◌++◌, ◌∷◌, [], sym, ap, ◌∙◌, arith, length, map, to_z-of_z, get-empty, take_all, take}
use Rattle.std.proofs.lemmas.List.{map_more}
use Rattle.std.specs.FinMap as finmap
use Rattle.xa_words.specs.Orders.{key_cmp}
use Rattle.xa_tables.specs.{Account, account_of}
use Rattle.xa_tables.proofs.PlaceLemmas.{indexed_push, length_declared}
use Rattle.xa_tables.proofs.accounts.declare.Goals as goal

pub loop-place-init : goal.loop-place-init
loop-place-init c =
    let none = c.requires.none in (
      none,
      omega (arith, c.requires.spare),
      rw none
          (λ k. ap (λ m. finmap.get m k) c.requires.nowhere ∙ get-empty key_cmp k),
      c.requires.room,
    )

pub push_reserved-requires : goal.push_reserved-requires
push_reserved-requires c =
    omega (
      arith,
      ap length c.loop-place.invariant.0
          ∙ length_declared c.args.declared.now c.loop-place.place c.loop-place-test.true,
      c.loop-place.invariant.3,
    )

pub loop-place-preserved : goal.loop-place-preserved
loop-place-preserved c =
    let ds = c.args.declared.now in
    let i = c.loop-place.place in
    let d = c.index-declared-place.result in
    let old = c.loop-place.accounts.items in
    let a : Account = account_of d in
    let pushed : c.push_reserved.new.self.items ≡ old ++ a ∷ [] = search (arith, to_z-of_z, c.signed.result) in
    let place : length old ≡ i = ap length c.loop-place.invariant.0 ∙ length_declared ds i c.loop-place-test.true in (
      pushed ∙ ap (λ as1. as1 ++ a ∷ []) c.loop-place.invariant.0
          ∙ sym
          (map_more account_of ds i d c.loop-place-test.true
          ∙ ap (λ e. map account_of (take i ds) ++ account_of e ∷ []) (sym c.index-declared-place.is)),
      omega (arith, c.loop-place.invariant.1, c.put.ensures.room),
      rw pushed
          (rw (ap (finmap.insert c.loop-place.places.places d.0) place ∙ sym c.put.ensures.places) at
          (indexed_push c.loop-place.places.places old a c.loop-place.invariant.2)),
      omega (arith, c.loop-place.invariant.3, c.push_reserved.ensures.capacity),
    )

pub returns-clause-accounts : goal.returns-clause-accounts
returns-clause-accounts c =
    c.loop-place.invariant.0
    ∙ ap (map account_of) (take_all c.loop-place.place c.args.declared.now (omega (arith, c.loop-place-test.false)))

pub returns-clause-places : goal.returns-clause-places
returns-clause-places c = c.loop-place.invariant.2
