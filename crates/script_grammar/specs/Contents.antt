-- A script as contracts see it: its settings, the keys that it declares and the steps of its threads, in the order of
-- its lines.
use Rattle.std.specs.Prelude.{◌≡◌, ℕ, ◌≤◌, ◌-◌, ◌==◌, nat_lt, Bool, not, true, false, if◌then◌else◌, All, IfSome}
use Rattle.std.specs.Prelude.{Option, Some}
use Rattle.std.specs.Prelude.{None, unwrap_or, List, [], ◌∷◌, ◌++◌, map, filter, filter_map, get_or, slice_set}
use Rattle.std.specs.Prelude.{replicate}
use Rattle.std.specs.List.{list_any}
use Rattle.xa_base.specs.declared.limits.TheConstants.{MOST_HANDLES, MOST_MANAGERS, MOST_QUEUED, MOST_REQUESTS}
use Rattle.xa_base.specs.declared.limits.TheConstants.{MOST_THREADS}
use Rattle.script_grammar.specs.declared.setting.TheConstants.{MOST_APPENDS}
use Rattle.script_grammar.specs.declared.step.TheConstants.{MOST_COUNT}
use Rattle.xa_base.specs.Lists.{IsUpTo}
use Rattle.xa_words.specs.Accounts.{are_accounts}
use Rattle.script_grammar.specs.declared.script.Count.{Count}
use Rattle.script_grammar.specs.declared.script.Count.TheVariants.{Threads, Managers, Handles, Queue, Requests}
use Rattle.script_grammar.specs.declared.script.Settings.{Settings}
use Rattle.script_grammar.specs.declared.script.Declared.{Declared}
use Rattle.script_grammar.specs.declared.script.UnknownAppend.{UnknownAppend}
use Rattle.script_grammar.specs.declared.step.ManagerCall.{ManagerCall}
use Rattle.script_grammar.specs.declared.step.ManagerCall.TheVariants as manager_call
use Rattle.script_grammar.specs.declared.step.Action.{Action}
use Rattle.script_grammar.specs.declared.step.Action.TheVariants as action
use Rattle.script_grammar.specs.declared.step.Task.{Task}
use Rattle.script_grammar.specs.declared.step.Step.{Step}
use Rattle.script_grammar.specs.declared.step.Step.TheVariants as step
use Rattle.script_grammar.specs.Steps.{ScriptTask, ScriptStep}

-- ---- what a script says

pub record Content : Type 0 where
  pub settings : Settings
  pub keys : List Declared
  pub syncs : List ℕ
  -- Which append of a thread's log fails, at place t - 1 of thread t.
  pub failing : List (Option ℕ)
  -- Which append of a thread's log has an unknown end, at place t - 1 of thread t.
  pub unknown : List (Option UnknownAppend)
  pub steps : List ScriptStep

-- How many threads there are, 1 where no line sets it.
abbrev pub threads_of : Content → ℕ
threads_of s = unwrap_or s.settings.threads 1

-- How many managers there are, 1 where no line sets it. They are numbered from 1.
abbrev pub managers_of : Content → ℕ
managers_of s = unwrap_or s.settings.managers 1

-- How many handles a thread has, 4 where no line sets it.
abbrev pub handles_of : Content → ℕ
handles_of s = unwrap_or s.settings.handles 4

-- How many requests a manager's queue holds, 8 where no line sets it.
abbrev pub queue_of : Content → ℕ
queue_of s = unwrap_or s.settings.queue 8

-- How many requests a thread may put to a manager, 256 where no line sets it.
abbrev pub requests_of : Content → ℕ
requests_of s = unwrap_or s.settings.requests 256

-- What manager m is opened with: its keys and their values.
abbrev pub declared_accounts : ℕ → List Declared → List (List ℕ × ℕ)
declared_accounts m keys = map (λ d. (d.key, d.value)) (filter (λ d. d.manager == m) keys)

-- Manager m takes asynchronous calls, unless a line says that it doesn't.
abbrev pub declares_async : Content → ℕ → Bool
declares_async s m = not (list_any (λ n. n == m) s.syncs)

-- Which append of thread t's log fails, if one does.
abbrev pub failing_append : Content → ℕ → Option ℕ
failing_append s t = if nat_lt 0 t then get_or s.failing (t - 1) None else None

-- Which append of thread t's log has an unknown end, if one has.
abbrev pub unknown_append : Content → ℕ → Option UnknownAppend
unknown_append s t = if nat_lt 0 t then get_or s.unknown (t - 1) None else None

-- The step where it is a task of thread t.
abbrev pub task_of : {X G K : Type 0} → ℕ → Step X G K → Option (Task X G K)
task_of t (step.Task p) = if p.thread == t then Some p else None
task_of t (step.Turn line m) = None
task_of t (step.Reopen line) = None

-- The tasks of thread t, in the order of their lines.
abbrev pub tasks_of : ℕ → List ScriptStep → List ScriptTask
tasks_of t steps = filter_map (task_of t) steps

-- The line opens the managers again.
abbrev pub is_reopen : {X G K : Type 0} → Step X G K → Bool
is_reopen (step.Task p) = false
is_reopen (step.Turn line m) = false
is_reopen (step.Reopen line) = true

-- These lines are of one opening.
abbrev pub NoneReopens : List ScriptStep → Type 0
NoneReopens steps = list_any is_reopen steps ≡ false

-- ---- what a line adds to it

-- Nothing is set or declared, and nothing is to be done.
abbrev pub nothing : Content
nothing =
    record {
      settings = record { threads = None; managers = None; handles = None; queue = None; requests = None };
      keys = [];
      syncs = [];
      failing = replicate 8 None;
      unknown = replicate 8 None;
      steps = [];
    }

-- One more count is set.
abbrev pub with_setting : Count → ℕ → Settings → Settings
with_setting Threads n s = record s { threads = Some n }
with_setting Managers n s = record s { managers = Some n }
with_setting Handles n s = record s { handles = Some n }
with_setting Queue n s = record s { queue = Some n }
with_setting Requests n s = record s { requests = Some n }

abbrev pub with_count : Count → ℕ → Content → Content
with_count count n s = record s { settings = with_setting count n s.settings }

-- One more key is declared.
abbrev pub with_declared : Declared → Content → Content
with_declared declared s = record s { keys = s.keys ++ declared ∷ [] }

-- One more manager takes no asynchronous calls.
abbrev pub with_sync : ℕ → Content → Content
with_sync m s = record s { syncs = s.syncs ++ m ∷ [] }

-- From now on the k-th append of thread t's log fails, and no other.
abbrev pub with_failing : ℕ → ℕ → Content → Content
with_failing t k s = record s { failing = slice_set s.failing (t - 1) (Some k) }

-- From now on this append of thread t's log has an unknown end, and no other.
abbrev pub with_unknown : ℕ → UnknownAppend → Content → Content
with_unknown t u s = record s { unknown = slice_set s.unknown (t - 1) (Some u) }

-- One more step is to be done.
abbrev pub with_step : ScriptStep → Content → Content
with_step p s = record s { steps = s.steps ++ p ∷ [] }

-- ---- what holds of it

-- A key is of a manager that there is.
abbrev pub IsOfManager : Content → Declared → Type 0
IsOfManager s d = (1 ≤ d.manager) × (d.manager ≤ managers_of s)

-- A call asks for at most 64 xids.
abbrev pub AsksForFew : {X K : Type 0} → ManagerCall X K → Type 0
AsksForFew (manager_call.Recover n) = n ≤ MOST_COUNT
AsksForFew other = Unit {0}

-- So does whatever a thread does.
abbrev pub HasFewXids : {X G K : Type 0} → Action X G K → Type 0
HasFewXids (action.Call c) = AsksForFew c.call
HasFewXids (action.CommitAll c) = Unit {0}
HasFewXids action.Resolve = Unit {0}

-- With so many threads and managers, a task is of a thread that there is and asks for at most 64 xids, and a turn is of
-- a manager that there is.
abbrev pub Fits : {X G K : Type 0} → ℕ → ℕ → Step X G K → Type 0
Fits threads managers (step.Task p) = IsUpTo threads p.thread × HasFewXids p.action
Fits threads managers (step.Turn line m) = IsUpTo managers m
Fits threads managers (step.Reopen line) = Unit {0}

abbrev pub IsOfScript : Content → ScriptStep → Type 0
IsOfScript s p = Fits (threads_of s) (managers_of s) p

-- An append that fails is one of the first 1,000,000 of a log, and the log is of a thread that there is.
abbrev pub IsOfLog : Content → ℕ → Type 0
IsOfLog s t = IfSome (failing_append s t) (λ k. IsUpTo MOST_APPENDS k × IsUpTo (threads_of s) t)

-- So is an append whose end isn't known, and so is its log.
abbrev pub IsOfUnknown : Content → ℕ → Type 0
IsOfUnknown s t = IfSome (unknown_append s t) (λ u. IsUpTo MOST_APPENDS u.append × IsUpTo (threads_of s) t)

-- What holds of every script: its counts are within the limits, each key is of a manager that there is, each manager
-- can be opened with its keys, appends fail or have an unknown end in logs that there are, each task is of a thread
-- that there is and asks for at most 64 xids, and each turn is of a manager that there is.
pub record IsScript (s : Content) : Type 0 where
  pub threads : IsUpTo MOST_THREADS (threads_of s)
  pub managers : IsUpTo MOST_MANAGERS (managers_of s)
  pub handles : IsUpTo MOST_HANDLES (handles_of s)
  pub queue : IsUpTo MOST_QUEUED (queue_of s)
  pub requests : IsUpTo MOST_REQUESTS (requests_of s)
  pub of_managers : All (IsOfManager s) s.keys
  pub accounts : (m : ℕ) → are_accounts (declared_accounts m s.keys) ≡ true
  pub of_logs : (t : ℕ) → IsOfLog s t
  pub of_unknown : (t : ℕ) → IsOfUnknown s t
  pub of_steps : All (IsOfScript s) s.steps
