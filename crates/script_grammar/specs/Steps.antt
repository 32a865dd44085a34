-- What a line tells to do, and the names in it.
use Rattle.std.specs.Prelude.{◌≡◌, ℕ, List, IfSome, option_map}
use Rattle.xa_words.specs.Xid.{XidName}
use Rattle.xa_words.specs.Tran.{TranName}
use Rattle.script_grammar.specs.declared.step.ManagerCall.{ManagerCall}
use Rattle.script_grammar.specs.declared.step.ManagerCall.TheVariants as manager_call
use Rattle.script_grammar.specs.declared.step.Called.{Called}
use Rattle.script_grammar.specs.declared.step.Action.{Action}
use Rattle.script_grammar.specs.declared.step.Action.TheVariants as action
use Rattle.script_grammar.specs.declared.step.Task.{Task}
use Rattle.script_grammar.specs.declared.step.Step.{Step}
use Rattle.script_grammar.specs.declared.step.Step.TheVariants as step

-- What a thread of a script calls, with the names of branches and of keys.
abbrev pub ScriptCall : Type 0
ScriptCall = ManagerCall XidName (List ℕ)

-- A call of a manager.
abbrev pub ScriptCalled : Type 0
ScriptCalled = Called XidName (List ℕ)

-- What a thread of a script does, with the names of branches, of global transactions and of keys.
abbrev pub ScriptAction : Type 0
ScriptAction = Action XidName TranName (List ℕ)

-- It does that on a line of its own.
abbrev pub ScriptTask : Type 0
ScriptTask = Task XidName TranName (List ℕ)

-- A step of a script.
abbrev pub ScriptStep : Type 0
ScriptStep = Step XidName TranName (List ℕ)

-- ---- the names in a step

-- This holds of the branch that is called, where there is one, and that of the key that is changed.
abbrev pub CallHas : {X K : Type 0} → (X → Type 0) → (K → Type 0) → ManagerCall X K → Type 0
CallHas P R (manager_call.Xa c x) = IfSome x P
CallHas P R (manager_call.Heur x commits) = P x
CallHas P R (manager_call.Add k d) = R k
CallHas P R other = Unit {0}

-- This holds of the branch that the step names, that of its global transaction, and the last of its key.
abbrev pub ActionHas : {X G K : Type 0} → (X → Type 0) → (G → Type 0) → (K → Type 0) → Action X G K → Type 0
ActionHas P Q R (action.Call c) = CallHas P R c.call
ActionHas P Q R (action.CommitAll c) = Q c.tran
ActionHas P Q R action.Resolve = Unit {0}

abbrev pub StepHas : {X G K : Type 0} → (X → Type 0) → (G → Type 0) → (K → Type 0) → Step X G K → Type 0
StepHas P Q R (step.Task p) = ActionHas P Q R p.action
StepHas P Q R (step.Turn line m) = Unit {0}
StepHas P Q R (step.Reopen line) = Unit {0}

-- Whatever a call of this may answer is what the function gives.
abbrev pub Computes : {A B : Type 0} → (A → B → Type 0) → (A → B) → Type 0
Computes {A} {B} answers f = (x : A) (y : B) → answers x y → y ≡ f x

-- What is called, with its branch and its key named otherwise.
abbrev pub call_with : {X Y K J : Type 0} → (X → Y) → (K → J) → ManagerCall X K → ManagerCall Y J
call_with name key (manager_call.Xa c x) = manager_call.Xa c (option_map name x)
call_with name key (manager_call.Heur x commits) = manager_call.Heur (name x) commits
call_with name key (manager_call.Add k d) = manager_call.Add (key k) d
call_with name key manager_call.Shut = manager_call.Shut
call_with name key (manager_call.Complete h) = manager_call.Complete h
call_with name key (manager_call.Recover n) = manager_call.Recover n

-- The step with its branch, its global transaction and its key named otherwise.
abbrev pub action_with : {X Y G H K J : Type 0} → (X → Y) → (G → H) → (K → J) → Action X G K → Action Y H J
action_with name tran key (action.Call c) =
    action.Call (record { manager = c.manager; flags = c.flags; call = call_with name key c.call })
action_with name tran key (action.CommitAll c) =
    action.CommitAll (record { tran = tran c.tran; managers = c.managers; death = c.death })
action_with name tran key action.Resolve = action.Resolve

abbrev pub step_with : {X Y G H K J : Type 0} → (X → Y) → (G → H) → (K → J) → Step X G K → Step Y H J
step_with name tran key (step.Task p) =
    step.Task (record { line = p.line; thread = p.thread; action = action_with name tran key p.action })
step_with name tran key (step.Turn line m) = step.Turn line m
step_with name tran key (step.Reopen line) = step.Reopen line
