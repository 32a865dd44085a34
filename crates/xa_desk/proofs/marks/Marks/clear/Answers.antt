use Rattle.xa_base.proofs.{◌<◌, w64, ap, sym, ◌∙◌, inl, inr, arith, nat_eq, ◌*◌, ◌^◌, ◌%◌, cases_lt}
use Rattle.std.specs.Prelude.{bit_and}
use Rattle.std.specs.Int.{bit_not}
use Rattle.std.proofs.lemmas.Nat.{and_le_l}
use Rattle.std.proofs.lemmas.Nat.Bits.{bit_at_clear_same, bit_at_clear_other, bit_at_above}
use Rattle.xa_desk.proofs.marks.Marks.clear.Goals as goal

pub returns : goal.returns
returns c =
    let bits = c.args.self.now.bits in
    let mask = bit_not w64 (1 * 2 ^ c.args.place % 2 ^ 64) in
    let fits : bits < 18446744073709551616 = omega arith in
    let fewer : bit_and bits mask < 18446744073709551616 = omega (arith, and_le_l bits mask) in
    record {
      cleared = ap (λ b. nat_eq b 1) (bit_at_clear_same w64 bits c.args.place c.requires);
      others = λ k apart. elim (cases_lt k 64) [
        | inl below ↦ ap (λ b. nat_eq b 1) (bit_at_clear_other w64 bits c.args.place c.requires k below apart)
        | inr past ↦ ap (λ b. nat_eq b 1)
            (bit_at_above (bit_and bits mask) 64 k fewer past ∙ sym (bit_at_above bits 64 k fits past))
      ];
    }
