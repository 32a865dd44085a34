-- What all accounts of a settled opening are worth together, and what each thread has moved.
use Rattle.std.specs.Prelude.{◌≡◌, ℕ, ◌-◌, ℤ, pos, ◌+ℤ◌, Option, None, Some, unwrap_or, List, [], length, slice_get}
use Rattle.std.specs.List.{range_with_len}
use Rattle.xa_base.specs.Sums.{total}
use Rattle.xa_tables.specs.Managers.{opening}
use Rattle.xa_tables.specs.Worth.{worth_declared, moved, is_of}
use Rattle.xa_switch.specs.declared.plan.Plan.{Plan}
use Rattle.xa_switch.specs.declared.plan.ManagerPlan.{ManagerPlan}
use Rattle.xa_switch.specs.Settled.{Settling, value}
use Rattle.xa_switch.specs.Fates.{history}

-- the threads and the managers of a plan, by number
abbrev pub threads_of_plan : Plan → List ℕ
threads_of_plan p = range_with_len 1 p.threads

abbrev pub managers_of_plan : Plan → List ℕ
managers_of_plan p = range_with_len 1 (length p.managers.items)

-- what is declared for a manager; nothing where there is none
abbrev pub accounts_in : Option ManagerPlan → List (List ℕ × ℕ)
accounts_in None = []
accounts_in (Some m) = m.accounts.items

-- what the plan declares for manager m
abbrev pub accounts_of : Plan → ℕ → List (List ℕ × ℕ)
accounts_of p m = accounts_in (slice_get p.managers.items (m - 1))

-- what all accounts were declared with, together
abbrev pub plan_worth : Plan → ℤ
plan_worth p = total (λ m. worth_declared (accounts_of p m)) (managers_of_plan p)

-- what they are worth together after the journals
abbrev pub settled_worth : Plan → Settling → ℤ
settled_worth p s = total (λ m. total (λ d. unwrap_or (value s m d.0) (pos 0)) (accounts_of p m)) (managers_of_plan p)

-- what thread t's requests have moved at manager m, and at all managers together
abbrev pub moved_at : Plan → Settling → ℕ → ℕ → ℤ
moved_at p s t m = moved (accounts_of p m) (is_of t) (history s m) (opening (accounts_of p m))

abbrev pub moved_by_thread : Plan → Settling → ℕ → ℤ
moved_by_thread p s t = total (moved_at p s t) (managers_of_plan p)

-- the accounts are worth what was declared and what the threads have moved
abbrev pub WorthIsOfThreads : Plan → Settling → Type 0
WorthIsOfThreads p s = settled_worth p s ≡ plan_worth p +ℤ total (moved_by_thread p s) (threads_of_plan p)
