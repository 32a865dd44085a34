-- A global transaction's name as contracts see it.
use Rattle.std.specs.Prelude.{ℕ, ℤ, Bool, ◌&&◌, nat_eq, ◌-◌, List, ◌++◌, length, replicate, refl}
use Rattle.std.specs.Ordering.{int_eq}
use Rattle.std.specs.Cmp.Lexicographic.{pointwise}
use Rattle.std.specs.Coded.{Coded, code_by, coded×, coded_ℕ, coded_ℤ, coded_list}
use Rattle.xa_words.specs.Xid.{XidName}

-- the format with the gtrid
pub record TranName : Type 0 where
  pub format : ℤ
  pub gtrid : List ℕ

-- a name is stored as the pair of its parts
abbrev pub tran_code : Coded TranName
tran_code =
    code_by (ℤ × List ℕ) (coded× coded_ℤ (coded_list coded_ℕ))
    (λ t. (t.format, t.gtrid))
    (λ p. record { format = p.0; gtrid = p.1 })
    (λ _. refl)

-- the global transaction that a branch belongs to
abbrev pub tran_of : XidName → TranName
tran_of x = record { format = x.format; gtrid = x.gtrid }

-- the bytes of a name: the gtrid, then zeros up to 64
abbrev pub tran_bytes : TranName → List ℕ
tran_bytes t = t.gtrid ++ replicate (64 - length t.gtrid) 0

-- whether two names are one, as `==` tells
abbrev pub tran_eq : TranName → TranName → Bool
tran_eq s t = int_eq s.format t.format && pointwise nat_eq s.gtrid t.gtrid
