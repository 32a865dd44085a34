-- Actions: what the threads do.
use Rattle.std.specs.Prelude.{ℕ, pos, Bool, true, false, if◌then◌else◌, List, [], ◌∷◌, Option, Some, None, Result}
use Rattle.std.specs.Prelude.{Ok, Err, codes}
use Rattle.std.specs.Option.{ok_or}
use Rattle.std.specs.Map.{lookup}
use Rattle.std.specs.Str.{bytes_eq}
use Rattle.xa_words.specs.declared.flags.Call.TheVariants as call
use Rattle.script_grammar.specs.declared.fault.Reason.{Reason}
use Rattle.script_grammar.specs.declared.fault.Reason.TheVariants.{UnknownWord, TurnInThreadsMode, ReopenInThreadsMode}
use Rattle.script_grammar.specs.declared.step.ManagerCall.TheVariants as manager_call
use Rattle.script_grammar.specs.declared.step.Action.TheVariants as action
use Rattle.script_grammar.specs.declared.step.Verb.{Verb}
use Rattle.script_grammar.specs.declared.step.Verb.TheVariants as verb
use Rattle.script_grammar.specs.declared.step.TheConstants.{MOST_HANDLE, MOST_COUNT}
use Rattle.script_grammar.specs.declared.commit.TheConstants.{MOST_MANAGER}
use Rattle.script_grammar.specs.Fields.{◌>>=◌, Word, word_at, end_of, number_within, number_at, key_at, xid_at}
use Rattle.script_grammar.specs.Fields.{delta_at, flags_onto}
use Rattle.script_grammar.specs.Contents.{Content, threads_of, managers_of}
use Rattle.script_grammar.specs.Steps.{ScriptCall, ScriptCalled, ScriptAction, ScriptTask}
use Rattle.script_grammar.specs.Commits.{commit_of}

-- The fourteen verbs.
abbrev pub verbs : List (Word × Verb)
verbs =
    (codes "open", verb.Plain call.OpenRm)
    ∷ (codes "close", verb.Plain call.CloseRm)
    ∷ (codes "start", verb.OnBranch call.Start)
    ∷ (codes "end", verb.OnBranch call.End)
    ∷ (codes "prepare", verb.OnBranch call.Prepare)
    ∷ (codes "commit", verb.OnBranch call.Commit)
    ∷ (codes "rollback", verb.OnBranch call.Rollback)
    ∷ (codes "forget", verb.OnBranch call.Forget)
    ∷ (codes "heurcom", verb.Heur true)
    ∷ (codes "heurrb", verb.Heur false)
    ∷ (codes "add", verb.Add)
    ∷ (codes "shut", verb.Shut)
    ∷ (codes "complete", verb.Complete)
    ∷ (codes "recover", verb.Recover)
    ∷ []

-- What T calls is one of fourteen verbs.
abbrev pub verb_of : Word → Option Verb
verb_of w = lookup (bytes_eq w) verbs

-- The words between M and the flags: none, XID, KEY DELTA, HANDLE, or COUNT, which is at most 64.
unfoldable pub call_at : Verb → List Word → Result (ScriptCall × List Word) Reason
call_at (verb.Plain c) ws = Ok (manager_call.Xa c None, ws)
call_at (verb.OnBranch c) ws = do
  x ← xid_at ws
  Ok (manager_call.Xa c (Some x.0), x.1)
call_at (verb.Heur commits) ws = do
  x ← xid_at ws
  Ok (manager_call.Heur x.0 commits, x.1)
call_at verb.Add ws = do
  k ← key_at ws
  d ← delta_at k.1
  Ok (manager_call.Add k.0 d.0, d.1)
call_at verb.Shut ws = Ok (manager_call.Shut, ws)
call_at verb.Complete ws = do
  h ← number_at 0 MOST_HANDLE ws
  Ok (manager_call.Complete (pos h.0), h.1)
call_at verb.Recover ws = do
  c ← number_at 0 MOST_COUNT ws
  Ok (manager_call.Recover c.0, c.1)

-- The words after any other verb: M .. flags; M is any number up to 4,294,967,295.
unfoldable pub call_of : Word → List Word → Result ScriptCalled Reason
call_of w ws = do
  v ← ok_or (verb_of w) UnknownWord
  m ← number_at 0 MOST_MANAGER ws
  c ← call_at v m.1
  f ← flags_onto 0 c.1
  Ok (record { manager = m.0; call = c.0; flags = f })

-- The verb and the words after it: commitall G M M .., resolve, or a call.
abbrev pub action_of : Content → Word → List Word → Result ScriptAction Reason
action_of s w ws =
    if bytes_eq w (codes "commitall") then (commit_of s ws >>= λ c. Ok (action.CommitAll c))
    else if bytes_eq w (codes "resolve") then (end_of ws >>= λ last. Ok action.Resolve)
    else (call_of w ws >>= λ c. Ok (action.Call c))

-- T VERB .., on the line of this number; T is one of the threads.
unfoldable pub task_on : Content → ℕ → Word → List Word → Result ScriptTask Reason
task_on s line first ws = do
  t ← number_within 1 (threads_of s) first
  w ← word_at ws
  a ← action_of s w.0 w.1
  Ok (record { line = line; thread = t; action = a })

-- turn M, where threads take turns; M is one of the managers.
unfoldable pub turn_of : Bool → Content → List Word → Result ℕ Reason
turn_of threads_mode s ws =
    if threads_mode then Err TurnInThreadsMode
    else do
      m ← number_at 1 (managers_of s) ws
      last ← end_of m.1
      Ok m.0

-- reopen, where threads take turns, with nothing after it.
unfoldable pub reopen_of : Bool → List Word → Result (Unit {0}) Reason
reopen_of threads_mode ws = if threads_mode then Err ReopenInThreadsMode else end_of ws
