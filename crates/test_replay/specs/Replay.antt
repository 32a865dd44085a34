-- What a replay of a journal shows.
use Rattle.std.specs.Prelude.{◌≡◌, ℕ, pos, ◌+◌, List, length, map, option_map, slice_get, Option, Some}
use Rattle.std.specs.List.{All, Any, range_with_len}
use Rattle.std.specs.FinMap as finmap
use Rattle.xa_base.specs.Lists.{IsUpTo}
use Rattle.xa_words.specs.declared.code.Code.TheVariants.{Done}
use Rattle.xa_words.specs.declared.request.Op.TheVariants.{OpenRm}
use Rattle.xa_tables.specs.ManagerTables.{Tables}
use Rattle.xa_tables.specs.Managers.{opening}
use Rattle.xa_tables.specs.Histories.{of_thread}
use Rattle.xa_worker.specs.Journal.{Entry, Follows, requests}

-- the numbers of thread t's requests in a journal, in its order
abbrev pub numbers_of_thread : ℕ → List Entry → List ℕ
numbers_of_thread t journal = map (λ r. r.number) (of_thread t (requests journal))

-- the tables have these values of these keys
abbrev pub ShowsValues : Tables → List (List ℕ × Option ℕ) → Type 0
ShowsValues T values = All (λ v. option_map pos v.1 ≡ finmap.get T.values v.0) values

-- a thread opened the manager
abbrev pub WasOpened : List Entry → Type 0
WasOpened journal = Any (λ e. (e.0.op ≡ OpenRm) × (e.1 ≡ Done)) journal

-- The journal, what the threads sent, by their number, and the values of the keys are those of one opening of a manager
-- with these accounts.
pub record Agrees (accounts : List (List ℕ × ℕ)) (journal : List Entry) (sent : List ℕ)
    (values : List (List ℕ × Option ℕ)) : Type 0 where
  pub last : Tables
  -- from the tables with these accounts on, each request has the code of its place, and these are the last tables
  pub follows : Follows (opening accounts) journal last
  -- each request is of a thread that there is, and each thread's have the numbers 0, 1, .. in their order
  pub threads : All (λ e. IsUpTo (length sent) e.0.thread) journal
  pub orders : (k n : ℕ) → slice_get sent k ≡ Some n → numbers_of_thread (k + 1) journal ≡ range_with_len 0 n
  pub values_ : ShowsValues last values
