use Rattle.std.proofs.Common.{◌≡◌, ◌++◌, map, length}
use Rattle.std.specs.Vec.Iter.{into_iter_items, into_iter_len}
use Rattle.xa_switch.specs.{desk_seats, seat_of_desk}
use Rattle.test_switch.proofs.switch.settling.end_all.Given as goal

abbrev pub invariant-loop-desk : goal.invariant-loop-desk
invariant-loop-desk g l = record {
  so_far : l.yielded ++ into_iter_items l.desk-iterator ≡ into_iter_items l.initial.desk-iterator;
  counted : into_iter_len l.desk-iterator ≡ length (into_iter_items l.desk-iterator);
  seats : desk_seats l.ended.items ≡ map seat_of_desk l.yielded;
}
