-- A branch name's fields, and how they come back from its parts.
use Rattle.std.specs.Prelude.{◌≡◌, ℕ, ◌+◌, ◌-◌, ◌≤◌, List, ◌++◌, length, take, drop, replicate, refl}
use Rattle.std.proofs.Common.{arith, length-drop, length-take-le, take-append-drop}
use Rattle.std.proofs.lemmas.List.{drop-drop}

-- the gtrid's g bytes stand before the bqual's b bytes, and zeros after them up to 128
pub record IsPaddedXid (g b : ℕ) (bytes : List ℕ) : Type 0 where
  pub gtrid_nonempty : 1 ≤ g
  pub gtrid_fits : g ≤ 64
  pub bqual_nonempty : 1 ≤ b
  pub bqual_fits : b ≤ 64
  pub all : length bytes ≡ 128
  pub zeros_behind : drop (g + b) bytes ≡ replicate (128 - (g + b)) 0

-- the length of the gtrid is g
pub length_first : (g b : ℕ) (bs : List ℕ) → IsPaddedXid g b bs → length (take g bs) ≡ g
length_first g b bs p =
    let fits : g ≤ 64 = p.gtrid_fits in
    let all : length bs ≡ 128 = p.all in
    length-take-le g bs (omega (arith, fits, all))

-- the length of the bqual is b
pub length_second : (g b : ℕ) (bs : List ℕ) → IsPaddedXid g b bs → length (take b (drop g bs)) ≡ b
length_second g b bs p =
    let first : g ≤ 64 = p.gtrid_fits in
    let second : b ≤ 64 = p.bqual_fits in
    let all : length bs ≡ 128 = p.all in
    length-take-le b (drop g bs) (omega (arith, first, second, all, length-drop g bs))

-- both parts and zeros up to 128 are the bytes
pub bytes_again : (g b : ℕ) (bs : List ℕ) → IsPaddedXid g b bs
    → take g bs ++ (take b (drop g bs) ++ replicate (128 - (length (take g bs) + length (take b (drop g bs)))) 0) ≡ bs
bytes_again g b bs p =
    rw (
      length_first g b bs p,
      length_second g b bs p,
      ← p.zeros_behind,
      ← drop-drop b g bs,
      take-append-drop b (drop g bs),
      take-append-drop g bs,
    ) refl
