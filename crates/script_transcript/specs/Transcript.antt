-- The text of a run's lines and values.
use Rattle.std.specs.Prelude.{ℕ, List, ◌++◌, codes, decimal}
use Rattle.std.specs.List.{flat_map}
use Rattle.script_grammar.specs.declared.script.Declared.{Declared}
use Rattle.script_transcript.specs.declared.answer.TranscriptLine.{TranscriptLine}
use Rattle.script_transcript.specs.Text.{lines_text}

-- value M KEY V
abbrev pub value_text : Declared → List ℕ
value_text d = codes "value " ++ decimal d.manager ++ codes " " ++ d.key ++ codes " " ++ decimal d.value ++ codes "\n"

-- The values, each on a line of its own.
abbrev pub values_text : List Declared → List ℕ
values_text values = flat_map value_text values

-- The lines that were told stand first, then the values.
abbrev pub text : List TranscriptLine → List Declared → List ℕ
text told values = lines_text told ++ values_text values
