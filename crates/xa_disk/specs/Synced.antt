-- The bytes of a file at its last sync, which only proofs read.
use Rattle.std.specs.Prelude.{ℕ, List, [], ◌∷◌, Vec}
use Rattle.std.specs.declared.alloc.Global.{Global}

-- what is remembered, the last of it first
abbrev pub Memories : Type 0
Memories = List (Unit × Vec ℕ Global)

-- the bytes that are remembered
abbrev pub remembered : Memories → List ℕ
remembered [] = []
remembered (e ∷ earlier) = e.1.items
