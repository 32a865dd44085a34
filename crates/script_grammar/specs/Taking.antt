-- What comes of a line that is taken: the script has what its words say, or the line has the fault that the grammar
-- finds.
use Rattle.std.specs.Prelude.{◌≡◌, ℕ, Result, Ok, Err}
use Rattle.script_grammar.specs.declared.fault.Reason.{Reason}
use Rattle.script_grammar.specs.declared.fault.LineFault.{LineFault}
use Rattle.script_grammar.specs.declared.fault.LineFault.TheVariants as fault
use Rattle.script_grammar.specs.declared.step.Step.TheVariants as step
use Rattle.script_grammar.specs.Fields.{◌>>=◌}
use Rattle.script_grammar.specs.Steps.{ScriptAction, ScriptTask}
use Rattle.script_grammar.specs.Contents.{Content}
use Rattle.script_grammar.specs.Items.{Item}
use Rattle.script_grammar.specs.Items as item
use Rattle.script_grammar.specs.Grammar.{with_line}

-- Where there is memory, the new script is what was read; the fault of a line is the one that was found.
abbrev pub Gives : Result (Unit {0}) LineFault → Result Content Reason → Content → Type 0
Gives (Ok done) read new = read ≡ Ok new
Gives (Err (fault.Wrong why)) read new = read ≡ Err why
Gives (Err fault.NoMemory) read new = Unit {0}

-- The script with what a line says.
abbrev pub with_item_in : Content → Result Item Reason → Result Content Reason
with_item_in s said = said >>= λ i. Ok (with_line i s)

-- A line of a thread says that there is a task.
abbrev pub task_item : Result ScriptTask Reason → Result Item Reason
task_item task = task >>= λ p. Ok (item.Step (step.Task p))

-- The task that an action is, on a line of a thread.
abbrev pub as_task : ℕ → ℕ → Result ScriptAction Reason → Result ScriptTask Reason
as_task line t does = does >>= λ a. Ok (record { line = line; thread = t; action = a })
