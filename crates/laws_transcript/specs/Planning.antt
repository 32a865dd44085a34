-- What a script opens: a desk for each of its threads and a worker for each of its managers.
use Rattle.std.specs.Prelude.{◌≡◌, ℕ, Bool, List, map}
use Rattle.std.specs.List.{range_with_len}
use Rattle.xa_tables.specs.ManagerTables.{Tables}
use Rattle.xa_desk.specs.DeskViews.{DeskView}
use Rattle.xa_worker.specs.Workers.{WorkerView}
use Rattle.xa_switch.specs.declared.plan.Again.{Again}
use Rattle.xa_switch.specs.declared.plan.Plan.{Plan}
use Rattle.xa_switch.specs.declared.plan.ManagerPlan.{ManagerPlan}
use Rattle.xa_switch.specs.Plans.{Setup, IsWithinLimits, numbers_of}
use Rattle.xa_switch.specs.OpenedPieces.{AreOfOneOpening}
use Rattle.script_grammar.specs.Contents.{Content, threads_of, managers_of, handles_of, queue_of, requests_of}
use Rattle.script_grammar.specs.Contents.{declared_accounts, declares_async}

-- The numbers of an opening are the script's.
pub record AreNumbersOf (s : Content) (opening : ℕ) (n : Again) : Type 0 where
  pub opening_ : n.opening ≡ opening
  pub threads : n.threads ≡ threads_of s
  pub handles : n.handles ≡ handles_of s
  pub queue : n.queue ≡ queue_of s
  pub requests : n.requests ≡ requests_of s

-- ---- the first opening

-- What a plan says of a manager: whether it takes asynchronous calls, and its keys with their values.
abbrev pub plan_says : ManagerPlan → Bool × List (List ℕ × ℕ)
plan_says p = (p.use_async, p.accounts.items)

-- What a script says of manager m.
abbrev pub script_says : Content → ℕ → Bool × List (List ℕ × ℕ)
script_says s m = (declares_async s m, declared_accounts m s.keys)

-- The plan is the script's: the first opening has number 1, and the counts and the managers are those of the script.
pub record IsPlanOf (s : Content) (p : Plan) : Type 0 where
  pub numbers : AreNumbersOf s 1 (numbers_of p)
  pub managers : map plan_says p.managers.items ≡ map (script_says s) (range_with_len 1 (managers_of s))

-- ---- any opening

-- What opening n of the script is made with: the counts and the flags of the script, and these tables of its managers.
pub record IsSetupOf (s : Content) (n : ℕ) (tables : ℕ → Tables) (p : Setup) : Type 0 where
  pub numbers : AreNumbersOf s n p.numbers
  pub managers : p.managers ≡ managers_of s
  pub use_async : p.use_async ≡ map (declares_async s) (range_with_len 1 (managers_of s))
  pub first : p.first ≡ map tables (range_with_len 1 (managers_of s))
  pub limits : IsWithinLimits p.numbers p.managers

-- These are the desks and the workers of opening n of the script, in which the managers begin with these tables.
pub record AreOpened (s : Content) (n : ℕ) (tables : ℕ → Tables) (desks : List DeskView) (workers : List WorkerView)
    : Type 0 where
  pub setup : Setup
  pub said : IsSetupOf s n tables setup
  pub opened : AreOfOneOpening setup desks workers
