use Rattle.xa_base.proofs.{◌≡◌, length, vec_capacity, All}
use Rattle.xa_switch.specs.{IsScanOf}
use Rattle.xa_switch.proofs.opening.scans.scans_of.Given as goal

-- each scan so far is of what is left
abbrev pub invariant-loop : goal.invariant-loop
invariant-loop l = record {
  counted : length l.scans.items ≡ l.counter;
  room : vec_capacity l.scans ≡ vec_capacity l.initial.scans;
  each : All (IsScanOf l.settled) l.scans.items;
}
