use Rattle.xa_base.proofs.{All, into_iter_items}
use Rattle.xa_desk.specs.{IsEndedDesk}
use Rattle.xa_switch.specs.{desk_lane, thread_part}
use Rattle.xa_switch.proofs.Dealing.{Gathers}
use Rattle.xa_switch.proofs.settling.gathered.take_desks.Given as goal

abbrev pub invariant-loop-desk : goal.invariant-loop-desk
invariant-loop-desk l = record {
  gathers : Gathers (λ d. d.requests) desk_lane thread_part (into_iter_items l.initial.desk-iterator) l.yielded
      l.desk-iterator l.room;
  known : All IsEndedDesk l.yielded;
}
