-- Keys are the bytes of short names.
use Rattle.std.specs.Prelude.{ℕ, ◌-◌, Bool, ◌&&◌, ◌||◌, nat_eq, nat_le, if◌then◌else◌, Option, Some, None, List, ◌++◌}
use Rattle.std.specs.Prelude.{replicate, length}
use Rattle.std.specs.List.{list_all}
use Rattle.std.specs.Ordering.{nat_cmp}
use Rattle.std.specs.Cmp.Lexicographic.{slice_cmp, pointwise}
use Rattle.std.specs.declared.cmp.Ordering.{Ordering}

-- a to z and 0 to 9, in ASCII
abbrev pub is_key_byte : ℕ → Bool
is_key_byte b = (nat_le 97 b && nat_le b 122) || (nat_le 48 b && nat_le b 57)

-- 1 to 16 bytes of a to z and 0 to 9
abbrev pub is_key : List ℕ → Bool
is_key bytes = nat_le 1 (length bytes) && (nat_le (length bytes) 16 && list_all is_key_byte bytes)

-- the key with this name, if there is one
abbrev pub key_of : List ℕ → Option (List ℕ)
key_of bytes = if is_key bytes then Some bytes else None

-- a key's bytes, and zeros up to 16
abbrev pub padded_key : List ℕ → List ℕ
padded_key k = k ++ replicate (16 - length k) 0

-- whether two keys are one, as `==` tells
abbrev pub key_eq : List ℕ → List ℕ → Bool
key_eq k l = pointwise nat_eq (padded_key k) (padded_key l) && nat_eq (length k) (length l)

-- the order of keys is that of their bytes
abbrev pub key_cmp : List ℕ → List ℕ → Ordering
key_cmp = slice_cmp nat_cmp
