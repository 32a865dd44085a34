-- A transaction branch's name as contracts see it, and the order of names.
use Rattle.std.specs.Prelude.{ℕ, ℤ, Bool, ◌&&◌, nat_eq, ◌+◌, ◌-◌, List, ◌++◌, length, replicate, refl}
use Rattle.std.specs.Ordering.{nat_cmp, int_cmp, int_eq, ordering_then}
use Rattle.std.specs.Cmp.Lexicographic.{slice_cmp, pointwise}
use Rattle.std.specs.declared.cmp.Ordering.{Ordering}
use Rattle.std.specs.Coded.{Coded, code_by, coded×, coded_ℕ, coded_ℤ, coded_list}

-- the format, the global transaction identifier and the branch qualifier
pub record XidName : Type 0 where
  pub format : ℤ
  pub gtrid : List ℕ
  pub bqual : List ℕ

-- a name is stored as the triple of its parts
abbrev pub xid_code : Coded XidName
xid_code =
    code_by (ℤ × (List ℕ × List ℕ)) (coded× coded_ℤ (coded× (coded_list coded_ℕ) (coded_list coded_ℕ)))
    (λ x. (x.format, (x.gtrid, x.bqual)))
    (λ p. record { format = p.0; gtrid = p.1.0; bqual = p.1.1 })
    (λ _. refl)

-- the bytes of a name: the gtrid, then the bqual, then zeros up to 128
abbrev pub bytes_of : XidName → List ℕ
bytes_of x = x.gtrid ++ (x.bqual ++ replicate (128 - (length x.gtrid + length x.bqual)) 0)

-- by the format, then the length of the gtrid, then that of the bqual, then the bytes
abbrev pub xid_cmp : XidName → XidName → Ordering
xid_cmp x y =
    ordering_then (int_cmp x.format y.format)
    (ordering_then (nat_cmp (length x.gtrid) (length y.gtrid))
    (ordering_then (nat_cmp (length x.bqual) (length y.bqual))
    (slice_cmp nat_cmp (bytes_of x) (bytes_of y))))

-- whether two names are one, as `==` tells
abbrev pub xid_eq : XidName → XidName → Bool
xid_eq x y =
    int_eq x.format y.format
    && (nat_eq (length x.gtrid) (length y.gtrid) && pointwise nat_eq (x.gtrid ++ x.bqual) (y.gtrid ++ y.bqual))
