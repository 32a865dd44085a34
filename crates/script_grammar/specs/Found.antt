-- How the declared keys are found: by a set of them, and by how many each manager has.
use Rattle.std.specs.Prelude.{◌≡◌, ℕ, ◌==◌, ◌&&◌, Bool, List, get_or}
use Rattle.std.specs.List.{list_any}
use Rattle.xa_words.specs.Key.{key_eq}
use Rattle.script_grammar.specs.declared.script.Declared.{Declared}
use Rattle.script_grammar.specs.Settings.{has_key, key_count}

-- Whether two keys are one key of one manager.
abbrev pub is_same : ℕ × List ℕ → ℕ × List ℕ → Bool
is_same k l = (k.0 == l.0) && key_eq k.1 l.1

-- The set has just the keys that are declared, and place m of the counts tells how many manager m has.
pub record Finds (keys : List Declared) (found : List (ℕ × List ℕ)) (counts : List ℕ) : Type 0 where
  pub has : (m : ℕ) (k : List ℕ) → list_any (is_same (m, k)) found ≡ has_key m k keys
  pub count : (m : ℕ) → get_or counts m 0 ≡ key_count m keys
