-- What the program answers, and what it has then shown.
use Rattle.std.specs.Prelude.{◌≡◌, Bool, true, false, ◌⊎◌, ℕ, List, ◌++◌, Option, IfSome, Ok, Err, take}
use Rattle.std.specs.Prelude.{codes, decimal}
use Rattle.std.specs.Io.KnownBytes.{Appends}
use Rattle.script_grammar.specs.declared.fault.Reason.{Reason}
use Rattle.script_grammar.specs.declared.fault.ScriptFault.TheVariants as script
use Rattle.script_grammar.specs.Contents.{Content}
use Rattle.script_grammar.specs.Faults.{reason_text}
use Rattle.script_grammar.specs.Grammar.{script_of}
use Rattle.script_transcript.specs.declared.writing.RunFault.TheVariants as run
use Rattle.script_command.specs.declared.mode.RunMode.{RunMode}
use Rattle.script_command.specs.declared.mode.RunMode.TheVariants as mode
use Rattle.xa_script.specs.declared.entry.Fault.{Fault}
use Rattle.xa_script.specs.declared.entry.Fault.TheVariants.{Usage, NoMemory, Script, Run}
use Rattle.xa_script.specs.Outcome.{Writes}

-- Each thread of the script has a thread of its own, and no manager takes a turn.
abbrev pub has_threads : RunMode → Bool
has_threads mode.Turns = false
has_threads mode.Threads = true

-- The exit status of a fault.
abbrev pub status_of : Fault → ℕ
status_of Usage = 2
status_of NoMemory = 3
status_of (Script (script.Line n why)) = 1
status_of (Script script.Read) = 4
status_of (Script script.NoMemory) = 3
status_of (Run run.NoMemory) = 3
status_of (Run run.Write) = 4

-- What is told of a faulty line: its number and the reason.
abbrev pub fault_line_text : ℕ → Reason → List ℕ
fault_line_text n why = codes "line " ++ (decimal n ++ (codes ": " ++ (reason_text why ++ codes "\n")))

-- What is told of a fault, in one line.
abbrev pub text_of : Fault → List ℕ
text_of Usage = codes "usage: xaswitch turns or threads\n"
text_of NoMemory = codes "out of memory\n"
text_of (Script (script.Line n why)) = fault_line_text n why
text_of (Script script.Read) = codes "input failed\n"
text_of (Script script.NoMemory) = codes "out of memory\n"
text_of (Run run.NoMemory) = codes "out of memory\n"
text_of (Run run.Write) = codes "output failed\n"

-- What a writer holds grew by these bytes, as far as it took them.
abbrev pub AppendsSome : Option (List ℕ) → Option (List ℕ) → List ℕ → Type 0
AppendsSome before after bytes = (n : ℕ) × Appends before after (take n bytes)

-- A fault that is known before anything is read.
abbrev pub IsJudged : Fault → Type 0
IsJudged fault = (fault ≡ Usage) ⊎ (fault ≡ NoMemory)

-- There is a script of this mode, what the writer holds grew by its transcript, and where the bytes are known they are
-- that script.
abbrev pub ShowsRun : RunMode → Option (List ℕ) → Option (List ℕ) → Option (List ℕ) → Type 0
ShowsRun m bytes before after =
    (s : Content) × IfSome bytes (λ b. script_of (has_threads m) b ≡ Ok s) × Writes m s before after

-- The bytes are no script of this mode: a line is faulty.
abbrev pub IsFaulty : RunMode → List ℕ → Type 0
IsFaulty m bytes = (fault : ℕ × Reason) × (script_of (has_threads m) bytes ≡ Err fault)

-- On a fault nothing is shown, but where a write failed; and a faulty line is the one that the mode's grammar finds.
abbrev pub FailsBy : Fault → RunMode → Option (List ℕ) → Option (List ℕ) → Option (List ℕ) → Type 0
FailsBy (Run run.Write) m bytes before after = Unit {0}
FailsBy (Script (script.Line n why)) m bytes before after =
    (after ≡ before) × IfSome bytes (λ b. script_of (has_threads m) b ≡ Err (n, why))
FailsBy fault m bytes before after = after ≡ before
