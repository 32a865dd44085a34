use Rattle.xa_base.proofs.{ℕ, ◌≤◌, List, length}
use Rattle.xa_log_file.specs.{LeavesOnly, StandsFor, on_file, table_of}
use Rattle.xa_log_file.proofs.Stands.{HasSlots, Between, Has}
use Rattle.xa_log_file.proofs.Grouped.{IsOnTheWay, IsBodied}
use Rattle.xa_log_file.proofs.writing.write_bodies.Given as goal

abbrev pub invariant-loop-place : goal.invariant-loop-place
invariant-loop-place g l = record {
  way : IsOnTheWay l.slots l.decisions l.place l.next;
  writing : HasSlots (length l.slots) (Between (IsBodied l.slots l.decisions) (Has on_file l.slots) l.place)
      (g.D.Device.seen l.device);
  keeps : (c : List ℕ) → g.D.Device.may_leave l.device c → StandsFor (table_of l.slots) c;
  run : LeavesOnly g.D.Device.moment g.D.Device.left_since l.fn.device l.device (StandsFor (table_of l.slots));
  faults : g.D.Device.faults l.fn.device ≤ g.D.Device.faults l.device;
}
