-- The words that name a mode.
use Rattle.std.specs.Prelude.{◌≡◌, ℕ, List, [], ◌∷◌, map, codes}
use Rattle.std.specs.Borrow.{Bor}
use Rattle.script_command.specs.declared.mode.RunMode.{RunMode}
use Rattle.script_command.specs.declared.mode.RunMode.TheVariants as mode

-- the word that stands for a mode
abbrev pub word_of : RunMode → List ℕ
word_of mode.Turns = codes "turns"
word_of mode.Threads = codes "threads"

-- the words are the one word of this mode
abbrev pub IsMode : List (Bor (List ℕ)) → RunMode → Type 0
IsMode words m = map (λ w. w.now) words ≡ word_of m ∷ []

-- the words are the one word of a mode
abbrev pub AreWords : List (Bor (List ℕ)) → Type 0
AreWords words = (m : RunMode) × IsMode words m
