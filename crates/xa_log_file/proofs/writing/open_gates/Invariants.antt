use Rattle.xa_base.proofs.{ℕ, ◌≤◌, List, length}
use Rattle.xa_log_file.specs.{LeavesOnly, MayShow, on_file, placed, coming}
use Rattle.xa_log_file.proofs.Stands.{HasSlots, Between, Has}
use Rattle.xa_log_file.proofs.Grouped.{IsOnTheWay, IsBodied, MayCome}
use Rattle.xa_log_file.proofs.writing.open_gates.Given as goal

abbrev pub invariant-loop-place : goal.invariant-loop-place
invariant-loop-place g l = record {
  way : IsOnTheWay l.slots l.decisions l.place l.next;
  opening : HasSlots (length l.slots)
      (Between (Has on_file (placed l.slots l.decisions)) (IsBodied l.slots l.decisions) l.place)
      (g.D.Device.seen l.device);
  comes : (c : List ℕ) → g.D.Device.may_leave l.device c → HasSlots (length l.slots) (MayCome l.slots l.decisions) c;
  run : LeavesOnly g.D.Device.moment g.D.Device.left_since l.fn.device l.device (MayShow (coming l.slots l.decisions));
  faults : g.D.Device.faults l.fn.device ≤ g.D.Device.faults l.device;
}
