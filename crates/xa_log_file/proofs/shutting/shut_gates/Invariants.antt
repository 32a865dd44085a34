use Rattle.xa_base.proofs.{◌≡◌, ℕ, ◌≤◌, true, List}
use Rattle.xa_log_file.specs.{LeavesOnly, MayShow}
use Rattle.xa_log_file.proofs.Stands.{IsShutBelow}
use Rattle.xa_log_file.proofs.shutting.shut_gates.Given as goal

abbrev pub invariant-loop-place : goal.invariant-loop-place
invariant-loop-place g l = record {
  shown : (c : List ℕ) → g.D.Device.may_leave l.device c → MayShow l.slots c;
  shutting : IsShutBelow l.slots l.place (g.D.Device.seen l.device);
  run : LeavesOnly g.D.Device.moment g.D.Device.left_since l.fn.device l.device (MayShow l.slots);
  clean : l.is_clean ≡ true → l.device ≡ l.fn.device;
  faults : g.D.Device.faults l.fn.device ≤ g.D.Device.faults l.device;
}
