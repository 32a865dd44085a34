-- What comes of the bytes that are still to be read.
use Rattle.std.specs.Prelude.{◌≡◌, ℕ, Bool, true, List, ◌++◌}
use Rattle.script_grammar.specs.declared.fault.ScriptFault.{ScriptFault}
use Rattle.script_grammar.specs.declared.read.Reading.{Reading}
use Rattle.script_grammar.specs.Contents.{NoneReopens}
use Rattle.script_grammar.specs.Text.{lines_of}
use Rattle.script_grammar.specs.Grammar.{Verdict, script_from, script_of, Fails}

-- The whole lines so far are read, and the bytes go on with the next line.
abbrev pub goes_on : Reading → List ℕ → Verdict
goes_on r bytes = script_from r.threads_mode r.number r.script (lines_of (r.line.items ++ bytes))

-- Nothing is read yet: the bytes that come are the script.
abbrev pub IsFreshReading : Bool → Reading → Type 0
IsFreshReading mode r = (bytes : List ℕ) → goes_on r bytes ≡ script_of mode bytes

-- The piece is taken: whatever comes after it, the new reading goes on as the old one would.
abbrev pub HasTakenBytes : Reading → Reading → List ℕ → Type 0
HasTakenBytes old new piece = (bytes : List ℕ) → goes_on old (piece ++ bytes) ≡ goes_on new bytes

-- It is read for the same mode, and where that is threads, what it has is still of one opening.
abbrev pub StaysOne : Reading → Reading → Type 0
StaysOne old new =
    (new.threads_mode ≡ old.threads_mode)
    × (old.threads_mode ≡ true → NoneReopens old.script.steps → NoneReopens new.script.steps)

-- The piece has a fault: whatever comes after it, the grammar finds that fault.
abbrev pub FailsOn : Reading → List ℕ → ScriptFault → Type 0
FailsOn r piece fault = (bytes : List ℕ) → Fails fault (goes_on r (piece ++ bytes))
