-- What an opening is made with, and which plans can be opened.
use Rattle.std.specs.Prelude.{◌≡◌, ℕ, ◌+◌, ◌*◌, Bool, true, None, List, length, map, replicate}
use Rattle.std.specs.List.{All}
use Rattle.xa_base.specs.declared.limits.TheConstants.{MOST_HANDLES, MOST_MANAGERS, MOST_QUEUED, MOST_REQUESTS}
use Rattle.xa_base.specs.declared.limits.TheConstants.{MOST_THREADS}
use Rattle.xa_base.specs.Lists.{IsUpTo}
use Rattle.xa_words.specs.Accounts.{are_accounts}
use Rattle.xa_tables.specs.ManagerTables.{Tables}
use Rattle.xa_tables.specs.Managers.{Managed, opening}
use Rattle.xa_switch.specs.declared.plan.Plan.{Plan}
use Rattle.xa_switch.specs.declared.plan.ManagerPlan.{ManagerPlan}
use Rattle.xa_switch.specs.declared.plan.Again.{Again}

-- ---- what an opening is made with

-- its numbers, how many managers it has, of each whether it takes asynchronous calls, and the tables that it begins
-- with
pub record Setup : Type 0 where
  pub numbers : Again
  pub managers : ℕ
  pub use_async : List Bool
  pub first : List Tables

-- of so many managers as there are flags
abbrev pub setup : Again → List Bool → List Tables → Setup
setup numbers use_async first =
    record { numbers = numbers; managers = length use_async; use_async = use_async; first = first }

-- how many requests may be put to a manager
abbrev pub manager_room : Again → ℕ
manager_room n = n.threads * n.requests

-- a manager that has done nothing since it began with these tables
abbrev pub new_manager : Again → Tables → Managed
new_manager n T = record { tables = T; threads = n.threads; room = manager_room n; reserved = None }

-- how many completions and end marks a thread's lane holds: one for each handle and one for a synchronous call, and an
-- end mark of each manager
abbrev pub completion_room : Again → ℕ → ℕ
completion_room n managers = n.handles + 1 + managers

-- each number is within its limits, of so many managers
pub record IsWithinLimits (n : Again) (many : ℕ) : Type 0 where
  pub threads : IsUpTo MOST_THREADS n.threads
  pub managers : IsUpTo MOST_MANAGERS many
  pub handles : IsUpTo MOST_HANDLES n.handles
  pub queue : IsUpTo MOST_QUEUED n.queue
  pub requests : IsUpTo MOST_REQUESTS n.requests

-- ---- a plan

-- its numbers
abbrev pub numbers_of : Plan → Again
numbers_of p =
    record { opening = p.opening; threads = p.threads; handles = p.handles; queue = p.queue; requests = p.requests }

-- of each manager whether it takes asynchronous calls
abbrev pub use_async : List ManagerPlan → List Bool
use_async managers = map (λ m. m.use_async) managers

-- the numbers that most programs do with, for so many threads
abbrev pub usual_numbers : ℕ → Again
usual_numbers threads = record { opening = 1; threads = threads; handles = 8; queue = 8; requests = 64 }

-- the plan has the usual numbers and so many managers, each of which takes asynchronous calls and has these accounts
pub record IsUniform (threads : ℕ) (many : ℕ) (accounts : List (List ℕ × ℕ)) (p : Plan) : Type 0 where
  pub numbers : numbers_of p ≡ usual_numbers threads
  pub flags : use_async p.managers.items ≡ replicate many true
  pub alike : map (λ m. m.accounts.items) p.managers.items ≡ replicate many accounts

-- what is made by a plan: each manager begins with its accounts
abbrev pub planned : Plan → Setup
planned p =
    record {
      numbers = numbers_of p;
      managers = length p.managers.items;
      use_async = use_async p.managers.items;
      first = map (λ m. opening m.accounts.items) p.managers.items;
    }

-- the accounts can be had
abbrev pub IsSoundManager : ManagerPlan → Type 0
IsSoundManager m = are_accounts m.accounts.items ≡ true

-- a manager of the plan, for so many threads and requests
abbrev pub opened_by : ℕ → ℕ → ManagerPlan → Managed
opened_by threads room m =
    record { tables = opening m.accounts.items; threads = threads; room = room; reserved = None }

-- the plan can be opened: its numbers are within their limits, and each manager's accounts can be had
pub record IsSound (p : Plan) : Type 0 where
  pub limits : IsWithinLimits (numbers_of p) (length p.managers.items)
  pub accounts : All IsSoundManager p.managers.items
