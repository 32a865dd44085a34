use Rattle.xa_base.proofs.{◌<◌, ◌+◌, w64, ap, inl, inr, arith, nat_eq, cases_lt}
use Rattle.std.proofs.lemmas.Nat.Bits.{bit_at-trailing_ones}
use Rattle.xa_desk.proofs.marks.Marks.first_clear.Goals as goal

pub returns : goal.returns
returns c =
    let bits = c.args.self.bits in
    let fits : bits < 18446744073709551616 = omega arith in
    let not_all : bits + 1 < 18446744073709551616 = elim (cases_lt (bits + 1) 18446744073709551616) [
      | inl below ↦ below
      | inr past ↦ search (arith, nat_eq, c.requires)
    ] in
    let (_, zero, ones) = bit_at-trailing_ones w64 bits not_all in
    rw c.trailing_ones.ensures
    (record { clear = ap (λ b. nat_eq b 1) zero; marked = λ k below. ap (λ b. nat_eq b 1) (ones k below) })
