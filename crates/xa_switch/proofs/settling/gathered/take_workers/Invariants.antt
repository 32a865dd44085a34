use Rattle.xa_base.proofs.{All, into_iter_items}
use Rattle.xa_worker.specs.{IsServed, IsOrdered}
use Rattle.xa_switch.specs.{worker_lane, ready_part}
use Rattle.xa_switch.proofs.Dealing.{Gathers}
use Rattle.xa_switch.proofs.settling.gathered.take_workers.Given as goal

abbrev pub invariant-loop-worker : goal.invariant-loop-worker
invariant-loop-worker l = record {
  gathers : Gathers (λ w. w.ends) worker_lane ready_part (into_iter_items l.initial.worker-iterator) l.yielded
      l.worker-iterator l.room;
  known : All IsServed l.yielded;
  ordered : All IsOrdered l.yielded;
}
