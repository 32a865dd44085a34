use Rattle.xa_base.proofs.{◌<◌, w64, ap, arith, nat_eq}
use Rattle.std.proofs.lemmas.Nat.Bits.{bit_at-trailing_zeros}
use Rattle.xa_desk.proofs.marks.Marks.first.Goals as goal

pub returns-clause-found : goal.returns-clause-found
returns-clause-found c =
    let some : 0 < c.args.self.bits = omega arith in
    let fits : c.args.self.bits < 18446744073709551616 = omega arith in
    let (_, one, none) = bit_at-trailing_zeros w64 c.args.self.bits some fits in
    record { passes_ = ap (λ b. nat_eq b 1) one; least = λ j below. ap (λ b. nat_eq b 1) (none j below) }
