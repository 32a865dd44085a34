use Rattle.xa_base.proofs.{◌≡◌, ℤ, true, false, List, take, pos, refl, sym, ap, ◌∙◌, arith, Vec, Global, to_z-of_z}
use Rattle.xa_base.proofs.{negsuc}
use Rattle.std.specs.Prelude.{nat_abs, int_lt}
use Rattle.xa_words.specs.{XidName}
use Rattle.script_transcript.specs.{Recovered}
use Rattle.script_session.specs.{ShowsListed}
use Rattle.script_session.proofs.calls.listed.Goals as goal

-- an answer that isn't negative tells how many were written
listed_so : (n z : ℤ) (xids : List XidName) (v : Vec XidName Global) → z ≡ n → int_lt z (pos 0) ≡ false
    → v.items ≡ take (nat_abs z) xids
    → ShowsListed n xids (Recovered v)
listed_so (pos n) z xids v same low is = (v, is ∙ ap (λ y. take (nat_abs y) xids) same, refl)
listed_so (negsuc n) z xids v same low is =
    absurd (let f : true ≡ false = ap (λ y. int_lt y (pos 0)) (sym same) ∙ low in cc)

pub returns : goal.returns
returns c = search (arith, listed_so, to_z-of_z, c.truncate.new.self, c.if-answer-lt0.false)
