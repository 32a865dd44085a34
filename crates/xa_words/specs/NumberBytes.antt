-- Signed numbers kept as their bytes, the lowest first.
use Rattle.std.specs.Prelude.{◌≡◌, ℕ, ℤ, List}
use Rattle.std.specs.Int.{Width, cast_signed, cast_unsigned, from_le_bytes, to_le_bytes}

-- the number that the bytes are of
unfoldable pub number_of : Width → List ℕ → ℤ
number_of w bytes = cast_signed w (from_le_bytes w bytes)

-- the bytes of the number
unfoldable pub bytes_of_number : Width → ℤ → List ℕ
bytes_of_number w z = to_le_bytes w (cast_unsigned w z)

-- the number has just these bytes
pub record IsOfItsNumber (w : Width) (bytes : List ℕ) : Type 0 where
  pub again : bytes_of_number w (number_of w bytes) ≡ bytes
