use Rattle.xa_base.proofs.{arith}
use Rattle.std.proofs.lemmas.Nat.Bits.{bit_at_set_same, bit_at_set_other}
use Rattle.xa_desk.proofs.marks.Marks.mark.Goals as goal

pub returns : goal.returns
returns c = search (arith, bit_at_set_same, bit_at_set_other, c.requires)
