-- A key's fields, and how they come back from its name.
use Rattle.std.specs.Prelude.{◌≡◌, ℕ, ◌-◌, ◌≤◌, List, length, take, drop, replicate, refl, IsTrue}
use Rattle.std.proofs.Common.{arith, length-take-le, take-append-drop}
use Rattle.xa_words.specs.Key.{is_key, padded_key}

-- the first n bytes are a key, and zeros stand after them up to 16
pub record IsPaddedKey (n : ℕ) (bytes : List ℕ) : Type 0 where
  pub valid : IsTrue (is_key (take n bytes))
  pub fits : n ≤ 16
  pub all : length bytes ≡ 16
  pub zeros_behind : drop n bytes ≡ replicate (16 - n) 0

-- the length of the key is n
pub length_key : (n : ℕ) (bs : List ℕ) → IsPaddedKey n bs → length (take n bs) ≡ n
length_key n bs p =
    let fits : n ≤ 16 = p.fits in
    let all : length bs ≡ 16 = p.all in
    length-take-le n bs (omega (arith, fits, all))

-- the key and zeros up to 16 are the bytes
pub padded_again : (n : ℕ) (bs : List ℕ) → IsPaddedKey n bs → padded_key (take n bs) ≡ bs
padded_again n bs p = rw (length_key n bs p, ← p.zeros_behind, take-append-drop n bs) refl
