use Rattle.xa_base.proofs.{arith, ◌≡◌, ◌==◌, true, Some, eq-eqb}
use Rattle.demo_bank.specs.{store_if_at}
use Rattle.demo_bank.proofs.teller.shut.Goals as goal

pub returns-then-shuts-place-clause-shuts : goal.returns-then-shuts-place-clause-shuts
returns-then-shuts-place-clause-shuts g c =
    let is : c.args.habits.now.shuts ≡ Some c.in-Some.shuts = cc in
    let here : (c.in-Some.shuts.place == c.args.place) ≡ true =
    eq-eqb c.in-Some.shuts.place c.args.place c.if-shuts-place.true in
    let store : store_if_at c.args.habits.now.shuts c.args.place ≡ Some c.in-Some.shuts.store =
    search (arith, c.in-Some.shuts.store) in
    rw store (c.native.result, c.native.ensures.calls)
