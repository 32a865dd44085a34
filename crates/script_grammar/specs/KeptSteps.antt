-- Steps as a script keeps them: the bytes of their names stand one after the other, and so do the keys of additions.
use Rattle.std.specs.Prelude.{◌==◌, ℕ, ◌+◌, ◌≤◌, ◌<◌, pos, Bool, true, false, List, [], ◌∷◌, length, map, take}
use Rattle.std.specs.Prelude.{drop, get_or}
use Rattle.xa_base.specs.Lists.{IsUpTo}
use Rattle.xa_words.specs.Xid.{XidName}
use Rattle.xa_words.specs.Tran.{TranName}
use Rattle.script_grammar.specs.declared.step.ManagerCall.TheVariants as manager_call
use Rattle.script_grammar.specs.declared.step.Action.TheVariants as action
use Rattle.script_grammar.specs.declared.step.Step.{Step}
use Rattle.script_grammar.specs.declared.step.Step.TheVariants as step
use Rattle.script_grammar.specs.declared.steps.NamePlace.{NamePlace}
use Rattle.script_grammar.specs.declared.steps.GtridPlace.{GtridPlace}
use Rattle.script_grammar.specs.declared.steps.KeyPlace.{KeyPlace}
use Rattle.script_grammar.specs.Steps.{ScriptCall, ScriptAction, ScriptStep, StepHas, step_with}

-- a step as it is kept: it says where its name and its key stand
abbrev pub KeptStep : Type 0
KeptStep = Step NamePlace GtridPlace KeyPlace

-- so many bytes from a place on
abbrev pub bytes_at : List ℕ → ℕ → ℕ → List ℕ
bytes_at bytes at n = take n (drop at bytes)

-- the name of a branch as a line has it: its gtrid, a dot and its bqual
abbrev pub word_at : List ℕ → NamePlace → List ℕ
word_at bytes p = bytes_at bytes p.at (p.gtrid + 1 + p.bqual)

-- the name of a branch that stands at a place
abbrev pub name_at : List ℕ → NamePlace → XidName
name_at bytes p = record {
  format = pos 1;
  gtrid = take p.gtrid (word_at bytes p);
  bqual = drop (p.gtrid + 1) (word_at bytes p);
}

-- the name of a global transaction whose gtrid stands at a place
abbrev pub gtrid_at : List ℕ → GtridPlace → TranName
gtrid_at bytes p = record { format = pos 1; gtrid = bytes_at bytes p.at p.len }

-- the key that stands at a place
abbrev pub key_at_place : List (List ℕ) → KeyPlace → List ℕ
key_at_place keys p = get_or keys p.at []

-- a branch's name stands there: both parts have 1 to 64 bytes
pub record IsName (bytes : List ℕ) (p : NamePlace) : Type 0 where
  pub within : p.at + (p.gtrid + 1 + p.bqual) ≤ length bytes
  pub gtrid : IsUpTo 64 p.gtrid
  pub bqual : IsUpTo 64 p.bqual

-- a gtrid stands there, of 1 to 64 bytes
pub record IsGtrid (bytes : List ℕ) (p : GtridPlace) : Type 0 where
  pub within : p.at + p.len ≤ length bytes
  pub long : IsUpTo 64 p.len

-- a key stands there
abbrev pub IsKey : List (List ℕ) → KeyPlace → Type 0
IsKey keys p = p.at < length keys

-- names and keys stand where the step says
abbrev pub IsNamed : List ℕ → List (List ℕ) → KeptStep → Type 0
IsNamed bytes keys = StepHas (IsName bytes) (IsGtrid bytes) (IsKey keys)

-- the step that a thread's action is
abbrev pub task_step : ℕ → ℕ → ScriptAction → ScriptStep
task_step line t a = step.Task (record { line = line; thread = t; action = a })

-- the step with the names and the keys that stand there
abbrev pub step_at : List ℕ → List (List ℕ) → KeptStep → ScriptStep
step_at bytes keys = step_with (name_at bytes) (gtrid_at bytes) (key_at_place keys)

-- ---- a step that comes

-- the keys of the call: one where it is an addition
abbrev pub keys_called : ScriptCall → List (List ℕ)
keys_called (manager_call.Add k d) = k ∷ []
keys_called other = []

-- those that a thread gives, and those of the step
abbrev pub keys_given : ScriptAction → List (List ℕ)
keys_given (action.Call c) = keys_called c.call
keys_given other = []

abbrev pub keys_in : ScriptStep → List (List ℕ)
keys_in (step.Task p) = keys_given p.action
keys_in other = []

-- where a name stands whose bytes come from a place on
abbrev pub place_from : ℕ → XidName → NamePlace
place_from at x = record { at = at; gtrid = length x.gtrid; bqual = length x.bqual }

-- where a gtrid stands whose bytes come from a place on
abbrev pub gtrid_place_from : ℕ → TranName → GtridPlace
gtrid_place_from at t = record { at = at; len = length t.gtrid }

-- where a key stands that comes at a place
abbrev pub key_place_from : ℕ → List ℕ → KeyPlace
key_place_from at k = record { at = at }

-- the step as it is kept, where its name's bytes come from a place on and its key at a place
abbrev pub kept_from : ℕ → ℕ → ScriptStep → KeptStep
kept_from at key = step_with (place_from at) (gtrid_place_from at) (key_place_from key)

-- ---- all steps

-- the steps that are kept
abbrev pub steps_of : List ℕ → List (List ℕ) → List KeptStep → List ScriptStep
steps_of bytes keys steps = map (step_at bytes keys) steps
