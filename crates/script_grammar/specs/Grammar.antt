-- What a line says, the first fault in it, and the script that all lines make.
use Rattle.std.specs.Prelude.{◌≡◌, ℕ, ◌+◌, Bool, false, not, ◌==◌, nat_lt, if◌then◌else◌, List, [], ◌∷◌, length, Option}
use Rattle.std.specs.Prelude.{Some, None, Result, Ok, Err, codes}
use Rattle.std.specs.List.{list_all}
use Rattle.std.specs.Map.{lookup}
use Rattle.std.specs.Str.{bytes_eq}
use Rattle.script_grammar.specs.declared.read.TheConstants.{LONGEST_LINE, MOST_LINES}
use Rattle.script_grammar.specs.declared.fault.Reason.{Reason}
use Rattle.script_grammar.specs.declared.fault.Reason.TheVariants.{LineTooLong, BadByte, TooManyLines, UnknownWord}
use Rattle.script_grammar.specs.declared.fault.ScriptFault.{ScriptFault}
use Rattle.script_grammar.specs.declared.fault.ScriptFault.TheVariants as faults
use Rattle.script_grammar.specs.declared.script.Count.TheVariants.{Threads, Managers, Handles, Queue, Requests}
use Rattle.script_grammar.specs.declared.step.Step.TheVariants as steps
use Rattle.script_grammar.specs.declared.read.Head.{Head}
use Rattle.script_grammar.specs.declared.read.Head.TheVariants as head
use Rattle.script_grammar.specs.Items.{Item}
use Rattle.script_grammar.specs.Items as item
use Rattle.script_grammar.specs.Text.{hash, lines_of, words_of, without_return, is_script_byte}
use Rattle.script_grammar.specs.Fields.{◌>>=◌, Word, all_digits}
use Rattle.script_grammar.specs.Contents.{Content, nothing, with_count, with_declared, with_sync, with_failing}
use Rattle.script_grammar.specs.Contents.{with_unknown, with_step}
use Rattle.script_grammar.specs.Settings.{setting_of, sync_of, logfail_of, logunknown_of, declared_of}
use Rattle.script_grammar.specs.Actions.{task_on, turn_of, reopen_of}

-- ---- lines

-- A line whose first word begins with `#` is a comment.
abbrev pub is_comment : Word → Bool
is_comment [] = false
is_comment (b ∷ bs) = b == hash

-- These are the words of a comment.
abbrev pub are_comment : List Word → Bool
are_comment [] = false
are_comment (w ∷ ws) = is_comment w

-- The words that say what a line is; a comment and a line of a thread begin otherwise.
abbrev pub heads : List (Word × Head)
heads =
    (codes "threads", head.Count Threads)
    ∷ (codes "managers", head.Count Managers)
    ∷ (codes "handles", head.Count Handles)
    ∷ (codes "queue", head.Count Queue)
    ∷ (codes "requests", head.Count Requests)
    ∷ (codes "sync", head.Sync)
    ∷ (codes "logfail", head.LogFail)
    ∷ (codes "logunknown", head.LogUnknown)
    ∷ (codes "key", head.Key)
    ∷ (codes "turn", head.Turn)
    ∷ (codes "reopen", head.Reopen)
    ∷ []

-- The first word of a line tells what the line is.
abbrev pub head_of : Word → Option Head
head_of w =
    if is_comment w then Some head.Comment
    else if all_digits w then Some head.Thread
    else lookup (bytes_eq w) heads

-- What the words w and ws of line n say; mode is whether threads run side by side.
unfoldable pub item_by : Option Head → Bool → Content → ℕ → Word → List Word → Result Item Reason
item_by None mode s n w ws = Err UnknownWord
item_by (Some head.Comment) mode s n w ws = Ok item.Nothing
item_by (Some (head.Count count)) mode s n w ws = do
  number ← setting_of s count ws
  Ok (item.Count count number)
item_by (Some head.Sync) mode s n w ws = do
  m ← sync_of s ws
  Ok (item.Sync m)
item_by (Some head.LogFail) mode s n w ws = do
  x ← logfail_of s ws
  Ok (item.LogFail x.0 x.1)
item_by (Some head.LogUnknown) mode s n w ws = do
  x ← logunknown_of s ws
  Ok (item.LogUnknown x.0 x.1)
item_by (Some head.Key) mode s n w ws = do
  d ← declared_of s ws
  Ok (item.Key d)
item_by (Some head.Turn) mode s n w ws = do
  m ← turn_of mode s ws
  Ok (item.Step (steps.Turn n m))
item_by (Some head.Reopen) mode s n w ws = do
  last ← reopen_of mode ws
  Ok (item.Step (steps.Reopen n))
item_by (Some head.Thread) mode s n w ws = do
  p ← task_on s n w ws
  Ok (item.Step (steps.Task p))

-- What the words of line n say. Without words it says nothing.
abbrev pub item_of : Bool → Content → ℕ → List Word → Result Item Reason
item_of mode s n [] = Ok item.Nothing
item_of mode s n (w ∷ ws) = item_by (head_of w) mode s n w ws

-- What line n says. There are at most 100,000 lines, and a line has at most 512 bytes, each 32 to 126 or a tab.
unfoldable pub line_of : Bool → Content → ℕ → List ℕ → Result Item Reason
line_of mode s n line =
    if nat_lt MOST_LINES n then Err TooManyLines
    else if nat_lt LONGEST_LINE (length line) then Err LineTooLong
    else if not (list_all is_script_byte line) then Err BadByte
    else item_of mode s n (words_of line)

-- What a line says is added to the script.
abbrev pub with_line : Item → Content → Content
with_line item.Nothing s = s
with_line (item.Count count n) s = with_count count n s
with_line (item.Sync m) s = with_sync m s
with_line (item.LogFail t k) s = with_failing t k s
with_line (item.LogUnknown t u) s = with_unknown t u s
with_line (item.Key d) s = with_declared d s
with_line (item.Step p) s = with_step p s

-- The script with line n, whose carriage return is dropped.
unfoldable pub after_line : Bool → Content → ℕ → List ℕ → Result Content Reason
after_line mode s n line = do
  i ← line_of mode s n (without_return line)
  Ok (with_line i s)

-- ---- the script

-- What lines come to: a script, or the number of the first faulty line and its fault.
abbrev pub Verdict : Type 0
Verdict = Result Content (ℕ × Reason)

-- A fault has the number of its line, and the first faulty line decides.
abbrev pub then_on : ℕ → Result Content Reason → (Content → Verdict) → Verdict
then_on n (Ok s) rest = rest s
then_on n (Err why) rest = Err (n, why)

-- The script with these lines, the first of which has number n.
unfoldable pub script_from : Bool → ℕ → Content → List (List ℕ) → Verdict
script_from mode n s [] = Ok s
script_from mode n s (line ∷ lines) = then_on n (after_line mode s n line) (λ t. script_from mode (n + 1) t lines)

-- The script that the bytes are, or the first faulty line and its fault. Lines count from 1.
abbrev pub script_of : Bool → List ℕ → Verdict
script_of mode bytes = script_from mode 1 nothing (lines_of bytes)

-- ---- what was read

-- A fault of a line is the one that the grammar finds.
abbrev pub Fails : ScriptFault → Verdict → Type 0
Fails (faults.Line n why) read = read ≡ Err (n, why)
Fails faults.Read read = Unit {0}
Fails faults.NoMemory read = Unit {0}

-- The script is the one that the grammar reads, unless reading failed or memory ran out.
abbrev pub Reads : Result Content ScriptFault → Verdict → Type 0
Reads (Ok s) read = read ≡ Ok s
Reads (Err fault) read = Fails fault read

-- A fault of line n is the one that the grammar finds there.
abbrev pub FailsAt : ℕ → ScriptFault → Result Content Reason → Type 0
FailsAt n (faults.Line m why) read = (m ≡ n) × (read ≡ Err why)
FailsAt n faults.Read read = Unit {0}
FailsAt n faults.NoMemory read = Unit {0}
