-- `==` of global transactions tells all apart.
use Rattle.std.specs.Prelude.{◌≡◌, refl}
use Rattle.std.proofs.Common.{ap}
use Rattle.std.specs.Bool.{Decides}
use Rattle.std.proofs.lemmas.Bool.Decides.{Decides-and, Decides-eqb, Decides-int_eq}
use Rattle.std.proofs.lemmas.Slice.Eq.{slice_eq-Decides}
use Rattle.xa_words.specs.Tran.{TranName, tran_eq}

-- `==` of global transactions is true exactly of one name
pub Decides-tran_eq : (s t : TranName) → Decides (tran_eq s t) (s ≡ t)
Decides-tran_eq s t =
    let d = Decides-and _ _ (Decides-int_eq s.format t.format)
    (slice_eq-Decides Decides-eqb s.gtrid t.gtrid _ refl) in (
      λ is. let e = d.0 is in λ i. record { format = e.0 i; gtrid = e.1 i },
      λ e. d.1 (ap (λ n. n.format) e, ap (λ n. n.gtrid) e),
    )
