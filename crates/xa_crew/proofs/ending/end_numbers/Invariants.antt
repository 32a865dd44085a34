use Rattle.xa_base.proofs.{◌≡◌, ◌⊎◌, ℕ, ◌+◌, ◌<◌, ◌≤◌, length, None, vec_capacity, range_with_len}
use Rattle.std.specs.FinMap as finmap
use Rattle.xa_desk.specs.{GoesOn}
use Rattle.xa_base.specs.{Chain}
use Rattle.xa_crew.specs.{EndsNumber}
use Rattle.xa_crew.proofs.ending.end_numbers.Given as goal

-- the first numbers are done, and nothing is kept under them, under 0 and past the handles
abbrev pub invariant-loop-before : goal.invariant-loop-before
invariant-loop-before g l = record {
  ends : Chain EndsNumber (l.fn.desk, l.fn.told.items) (range_with_len 1 l.before) (l.desk, l.told.items);
  none : (k : ℕ) → (k ≤ l.before) ⊎ (l.fn.desk.handles < k) → finmap.get l.desk.kept k ≡ None;
  goes_on : GoesOn l.fn.desk l.desk;
  idled : g.I.Idle.leads l.fn.idle l.idle;
  few : length l.told.items ≤ length l.fn.told.items + l.before;
  room : vec_capacity l.told ≡ vec_capacity l.fn.told;
}
