-- A global transaction's fields, and how they come back from its name.
use Rattle.std.specs.Prelude.{◌≡◌, ℕ, ◌-◌, ◌≤◌, List, ◌++◌, length, take, drop, replicate, refl}
use Rattle.std.proofs.Common.{arith, length-take-le, take-append-drop}

-- the gtrid's g bytes, and zeros after them up to 64
pub record IsPaddedTran (g : ℕ) (bytes : List ℕ) : Type 0 where
  pub gtrid_nonempty : 1 ≤ g
  pub gtrid_fits : g ≤ 64
  pub all : length bytes ≡ 64
  pub zeros_behind : drop g bytes ≡ replicate (64 - g) 0

-- the length of the gtrid is g
pub tran_length : (g : ℕ) (bs : List ℕ) → IsPaddedTran g bs → length (take g bs) ≡ g
tran_length g bs p =
    let fits : g ≤ 64 = p.gtrid_fits in
    let all : length bs ≡ 64 = p.all in
    length-take-le g bs (omega (arith, fits, all))

-- the gtrid and zeros up to 64 are the bytes
pub tran_bytes_again : (g : ℕ) (bs : List ℕ) → IsPaddedTran g bs
    → take g bs ++ replicate (64 - length (take g bs)) 0 ≡ bs
tran_bytes_again g bs p = rw (tran_length g bs p, ← p.zeros_behind, take-append-drop g bs) refl
