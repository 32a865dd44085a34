-- The line of a commit of several branches, whose coordinator may die.
use Rattle.std.specs.Prelude.{ℕ, Bool, true, ◌&&◌, ◌||◌, ◌==◌, nat_lt, nat_le, if◌then◌else◌, List, [], ◌∷◌, Option}
use Rattle.std.specs.Prelude.{Some, None, Result, Ok, Err, codes}
use Rattle.std.specs.List.{list_any}
use Rattle.std.specs.Str.{bytes_eq}
use Rattle.script_grammar.specs.declared.fault.Reason.{Reason}
use Rattle.script_grammar.specs.declared.fault.Reason.TheVariants.{BadBranches, UnknownWord}
use Rattle.xa_words.specs.declared.death.Death.{Death}
use Rattle.xa_words.specs.declared.death.Death.TheVariants.{Preparing, Prepared, Decided, Telling, Told}
use Rattle.xa_words.specs.Tran.{TranName}
use Rattle.xa_words.specs.ManagerSet.{is_in, set_of}
use Rattle.script_grammar.specs.declared.step.CommitAll.{CommitAll}
use Rattle.script_grammar.specs.declared.named.Named.{Named}
use Rattle.script_grammar.specs.declared.commit.TheConstants.{MOST_MANAGER, MOST_ANSWERS}
use Rattle.script_grammar.specs.Fields.{◌>>=◌, Word, word_at, end_of, number_within, number_at, tran_at}
use Rattle.script_grammar.specs.Contents.{Content, managers_of}

-- ---- where the coordinator dies

-- K, how many answers of a round are collected, at most 7; or nothing.
unfoldable pub answers_of : List Word → Result (Option ℕ) Reason
answers_of [] = Ok None
answers_of (w ∷ ws) = do
  k ← number_within 0 MOST_ANSWERS w
  last ← end_of ws
  Ok (Some k)

-- It dies once all have voted, or when so many votes are collected.
abbrev pub once_prepared : Option ℕ → Death
once_prepared None = Prepared
once_prepared (Some k) = Preparing k

-- It dies once all are told, or when so many of them have answered.
abbrev pub once_told : Option ℕ → Death
once_told None = Told
once_told (Some k) = Telling k

-- prepared, prepared K, decided, told, told K
abbrev pub point_of : Word → List Word → Result Death Reason
point_of w ws =
    if bytes_eq w (codes "prepared") then (answers_of ws >>= λ k. Ok (once_prepared k))
    else if bytes_eq w (codes "decided") then (end_of ws >>= λ last. Ok Decided)
    else if bytes_eq w (codes "told") then (answers_of ws >>= λ k. Ok (once_told k))
    else Err UnknownWord

-- The words after `dies`: the point.
unfoldable pub death_at : List Word → Result Death Reason
death_at ws = do
  w ← word_at ws
  point_of w.0 w.1

-- ---- the managers

-- M .., or M .. dies POINT: numbers up to the end of the line, or up to the word `dies` and the point after it.
unfoldable pub managers_to_end : List Word → Result (List ℕ × Option Death) Reason
managers_to_end [] = Ok ([], None)
managers_to_end (w ∷ ws) =
    if bytes_eq w (codes "dies") then (death_at ws >>= λ death. Ok ([], Some death))
    else do
      m ← number_within 0 MOST_MANAGER w
      rest ← managers_to_end ws
      Ok (m ∷ rest.0, rest.1)

-- M M .., or M M .. dies POINT: one number or more.
unfoldable pub managers_at : List Word → Result (List ℕ × Option Death) Reason
managers_at ws = do
  m ← number_at 0 MOST_MANAGER ws
  rest ← managers_to_end m.1
  Ok (m.0 ∷ rest.0, rest.1)

-- Each is one of so many managers, and above the one before it.
abbrev pub are_rising : ℕ → ℕ → List ℕ → Bool
are_rising count last [] = true
are_rising count last (m ∷ ms) = nat_lt last m && (nat_le m count && are_rising count m ms)

-- Manager m is among these.
abbrev pub is_named : List ℕ → ℕ → Bool
is_named ms m = list_any (λ n. n == m) ms

-- Where the branches are: at managers that there are, which are named in rising order.
abbrev pub rising_branches : ℕ → List ℕ → Result (List Bool) Reason
rising_branches count ms = if are_rising count 0 ms then Ok (set_of (is_named ms)) else Err BadBranches

-- The managers are judged after the last word.
unfoldable pub branches_at : ℕ → List Word → Result (List Bool × Option Death) Reason
branches_at count ws = do
  ms ← managers_at ws
  managers ← rising_branches count ms.0
  Ok (managers, ms.1)

-- G M M .., or G M M .. dies POINT
unfoldable pub commit_of : Content → List Word → Result (CommitAll TranName) Reason
commit_of s ws = do
  g ← tran_at ws
  branches ← branches_at (managers_of s) g.1
  Ok (record { tran = g.0; managers = branches.0; death = branches.1 })

-- ---- while they are read

-- Where the branches are, if these managers are named after those so far.
abbrev pub goes_on : Named → List ℕ → Result (List Bool) Reason
goes_on so_far ms =
    if so_far.rising && are_rising so_far.count so_far.last ms
    then Ok (set_of (λ m. is_in so_far.managers m || is_named ms m))
    else Err BadBranches
