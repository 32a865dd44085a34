use Rattle.xa_base.proofs.{ℕ, ◌^◌, ◌<◌, ◌≤◌, arith, length}
use Rattle.std.proofs.Common.{lit<}
use Rattle.std.proofs.Math.Nat.{pow-le-pow_right}
use Rattle.script_grammar.proofs.words.number_of.Goals as goal

-- A number of at most 18 digits is below 10 ^ 18.
digits_fit : (v i : ℕ) → v < 10 ^ i → i ≤ 18 → v < 1000000000000000000
digits_fit v i h le = let p : 10 ^ i ≤ 10 ^ 18 = pow-le-pow_right {n = 10} (lit< tt) le in omega (arith, h, p)

pub overflow_mul-value : goal.overflow_mul-value
overflow_mul-value c =
    let small : c.loop-b.value < 1000000000000000000 =
    digits_fit c.loop-b.value c.loop-b.b-index c.loop-b.invariant.small (omega arith) in
    omega (arith, small)

pub overflow_add-value : goal.overflow_add-value
overflow_add-value c =
    let small : c.loop-b.value < 1000000000000000000 =
    digits_fit c.loop-b.value c.loop-b.b-index c.loop-b.invariant.small (omega arith) in
    omega (arith, small, c.from.ensures)

pub returns-clause-fits : goal.returns-clause-fits
returns-clause-fits c =
    digits_fit c.loop-b.value (length c.args.word.now) (grind (arith, c.loop-b.invariant.small)) (omega arith)
