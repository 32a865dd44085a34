-- Settings: the lines that come before the first action.
use Rattle.std.specs.Prelude.{ℕ, Bool, true, false, ◌&&◌, ◌==◌, nat_le, is_some, if◌then◌else◌, List, [], ◌∷◌}
use Rattle.std.specs.Prelude.{count_by, Option, Result, Ok, Err, codes}
use Rattle.std.specs.List.{list_any}
use Rattle.std.specs.Option.{ok_or}
use Rattle.std.specs.Map.{lookup}
use Rattle.std.specs.Str.{bytes_eq}
use Rattle.xa_base.specs.declared.limits.TheConstants.{MOST_HANDLES, MOST_KEYS, MOST_MANAGERS, MOST_QUEUED}
use Rattle.script_grammar.specs.declared.setting.TheConstants.{MOST_APPENDS}
use Rattle.xa_base.specs.declared.limits.TheConstants.{MOST_REQUESTS, MOST_THREADS, MOST_VALUE}
use Rattle.xa_words.specs.Key.{key_eq}
use Rattle.script_grammar.specs.declared.fault.Reason.{Reason}
use Rattle.script_grammar.specs.declared.fault.Reason.TheVariants.{SettingAfterAction, SettingTwice, KeyTwice}
use Rattle.script_grammar.specs.declared.fault.Reason.TheVariants.{TooManyKeys, UnknownWord}
use Rattle.script_grammar.specs.declared.script.Count.{Count}
use Rattle.script_grammar.specs.declared.script.Count.TheVariants.{Threads, Managers, Handles, Queue, Requests}
use Rattle.script_grammar.specs.declared.script.Settings.{Settings}
use Rattle.script_grammar.specs.declared.script.Declared.{Declared}
use Rattle.script_grammar.specs.declared.script.UnknownAppend.{UnknownAppend}
use Rattle.script_grammar.specs.Steps.{ScriptStep}
use Rattle.script_grammar.specs.Fields.{◌>>=◌, Word, word_at, end_of, number_at, key_at}
use Rattle.script_grammar.specs.Contents.{Content, threads_of, managers_of}

-- Settings stand before the first action.
abbrev pub before_actions : List ScriptStep → Result (Unit {0}) Reason
before_actions [] = Ok tt
before_actions (step ∷ steps) = Err SettingAfterAction

-- ---- counts

-- What is set.
abbrev pub count_of : Count → Settings → Option ℕ
count_of Threads s = s.threads
count_of Managers s = s.managers
count_of Handles s = s.handles
count_of Queue s = s.queue
count_of Requests s = s.requests

-- A count is set once.
abbrev pub not_set : Option ℕ → Result (Unit {0}) Reason
not_set count = if is_some count then Err SettingTwice else Ok tt

-- The most that it may be.
abbrev pub limit_of : Count → ℕ
limit_of Threads = MOST_THREADS
limit_of Managers = MOST_MANAGERS
limit_of Handles = MOST_HANDLES
limit_of Queue = MOST_QUEUED
limit_of Requests = MOST_REQUESTS

-- threads N, managers N, handles N, queue N, requests N
unfoldable pub setting_of : Content → Count → List Word → Result ℕ Reason
setting_of s count ws = do
  first ← before_actions s.steps
  new ← not_set (count_of count s.settings)
  n ← number_at 1 (limit_of count) ws
  last ← end_of n.1
  Ok n.0

-- sync M; M is one of the managers that there are by then.
unfoldable pub sync_of : Content → List Word → Result ℕ Reason
sync_of s ws = do
  first ← before_actions s.steps
  m ← number_at 1 (managers_of s) ws
  last ← end_of m.1
  Ok m.0

-- logfail T K; T is one of the threads that there are by then, and K at most 1,000,000.
unfoldable pub logfail_of : Content → List Word → Result (ℕ × ℕ) Reason
logfail_of s ws = do
  first ← before_actions s.steps
  t ← number_at 1 (threads_of s) ws
  k ← number_at 1 MOST_APPENDS t.1
  last ← end_of k.1
  Ok (t.0, k.0)

-- What stands for a record that the log turns out to have, or not.
abbrev pub fates : List (Word × Bool)
fates = (codes "kept", true) ∷ (codes "lost", false) ∷ []

-- Whether the log turns out to have the record: kept, lost
abbrev pub is_kept : Word → Option Bool
is_kept w = lookup (bytes_eq w) fates

-- logunknown T K kept, logunknown T K lost; T is one of the threads that there are by then, and K at most 1,000,000.
unfoldable pub logunknown_of : Content → List Word → Result (ℕ × UnknownAppend) Reason
logunknown_of s ws = do
  first ← before_actions s.steps
  t ← number_at 1 (threads_of s) ws
  k ← number_at 1 MOST_APPENDS t.1
  w ← word_at k.1
  kept ← ok_or (is_kept w.0) UnknownWord
  last ← end_of w.1
  Ok (t.0, record { append = k.0; kept = kept })

-- ---- keys

-- Manager m has declared this key.
abbrev pub has_key : ℕ → List ℕ → List Declared → Bool
has_key m k keys = list_any (λ d. (d.manager == m) && key_eq d.key k) keys

-- How many keys manager m has declared.
abbrev pub key_count : ℕ → List Declared → ℕ
key_count m keys = count_by (λ d. d.manager == m) keys

-- A key is declared once, and a manager has at most 256.
abbrev pub new_key : List Declared → Declared → Result Declared Reason
new_key keys d =
    if has_key d.manager d.key keys then Err KeyTwice
    else if nat_le MOST_KEYS (key_count d.manager keys) then Err TooManyKeys
    else Ok d

-- key M KEY VALUE; M is one of the managers that there are by then, and VALUE at most 1,000,000,000,000.
unfoldable pub declared_of : Content → List Word → Result Declared Reason
declared_of s ws = do
  first ← before_actions s.steps
  m ← number_at 1 (managers_of s) ws
  k ← key_at m.1
  v ← number_at 0 MOST_VALUE k.1
  last ← end_of v.1
  new_key s.keys (record { manager = m.0; key = k.0; value = v.0 })
