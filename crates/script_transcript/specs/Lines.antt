-- What contracts see of lines that are put together.
use Rattle.std.specs.Prelude.{ℕ, List}

-- the bytes of the whole lines, and of what there is of the next
pub record LinesView : Type 0 where
  pub whole : List ℕ
  pub line : List ℕ
