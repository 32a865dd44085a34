-- The steps that are tasks of one thread.
use Rattle.std.specs.Prelude.{◌≡◌, ℕ, Bool, true, List, Option, Some, None, is_some, slice_get, filter, filter_map}
use Rattle.script_grammar.specs.declared.step.Task.{Task}
use Rattle.script_grammar.specs.declared.step.Step.{Step}
use Rattle.script_grammar.specs.declared.step.Step.TheVariants as step
use Rattle.script_grammar.specs.Steps.{ScriptTask, ScriptStep}
use Rattle.script_grammar.specs.Contents.{task_of}

-- the task that a step is
abbrev pub task_in : {X G K : Type 0} → Step X G K → Option (Task X G K)
task_in (step.Task p) = Some p
task_in (step.Turn line m) = None
task_in (step.Reopen line) = None

-- the step is a task
abbrev pub IsTask : ScriptStep → Type 0
IsTask p = is_some (task_in p) ≡ true

-- the step is a task of thread t
abbrev pub is_own : {X G K : Type 0} → ℕ → Step X G K → Bool
is_own t p = is_some (task_of t p)

-- those of the steps
abbrev pub own_steps : ℕ → List ScriptStep → List ScriptStep
own_steps t steps = filter (is_own t) steps

-- the tasks that steps are
abbrev pub tasks_in : List ScriptStep → List ScriptTask
tasks_in steps = filter_map task_in steps

-- the steps at these places
abbrev pub steps_at : List ScriptStep → List ℕ → List ScriptStep
steps_at steps places = filter_map (slice_get steps) places
