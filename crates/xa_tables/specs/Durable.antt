-- What of a manager's tables is durable: what a reopening finds of them. Few requests change it.
use Rattle.std.specs.Prelude.{◌≡◌, ℕ, Bool, true, false, ◌&&◌, List}
use Rattle.std.specs.FinMap as map
use Rattle.xa_words.specs.Xid.{XidName}
use Rattle.xa_words.specs.Codes.{is_done}
use Rattle.xa_words.specs.declared.code.Code.{Code}
use Rattle.xa_words.specs.declared.request.Op.{Op}
use Rattle.xa_words.specs.declared.request.Op.TheVariants.{Prepare, Commit, Rollback, Forget, Heur}
use Rattle.xa_tables.specs.ManagerTables.{Tables, state_of}
use Rattle.xa_tables.specs.Openings.{reopened}
use Rattle.xa_tables.specs.Prepared.{names}

-- a reopening finds the same of the branch x in U as in T
pub record FindsAlike (x : XidName) (T U : Tables) : Type 0 where
  pub state : state_of (reopened U) x ≡ state_of (reopened T) x
  pub sums : (k : List ℕ) → map.get (reopened U).sums (x, k) ≡ map.get (reopened T).sums (x, k)

-- the request prepares, ends or forgets a branch
abbrev pub is_settling : Op → Bool
is_settling (Prepare y) = true
is_settling (Commit y one_phase) = true
is_settling (Rollback y) = true
is_settling (Forget y) = true
is_settling (Heur y commits) = true
is_settling op = false

-- the request, so answered, may change what a reopening finds of the branch x
abbrev pub is_durable_at : XidName → Op → Code → Bool
is_durable_at x op c = is_done c && (is_settling op && names x op)

-- the request, so answered, may change values
abbrev pub moves_values : Op → Code → Bool
moves_values (Commit y one_phase) c = is_done c
moves_values (Heur y commits) c = commits && is_done c
moves_values op c = false
