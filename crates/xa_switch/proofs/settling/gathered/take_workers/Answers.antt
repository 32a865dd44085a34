use Rattle.xa_base.proofs.{length, rules, arith, ap, All-push}
use Rattle.xa_worker.specs.{Served, IsServed, IsOrdered}
use Rattle.xa_switch.specs.{TakesInPiece, worker_lane, ready_part}
use Rattle.xa_switch.proofs.Dealing.{room_left, row_fits, one_more_taken}
use Rattle.xa_switch.proofs.settling.gathered.take_workers.Goals as goal

pub take_in-room-requires : goal.take_in-room-requires
take_in-room-requires c =
    let i = c.loop-worker.invariant.gathers in
    let next = c.in-Some.ensures.steps.0 in
    let row = ap (λ (w : Served). length w.ends) c.apart-manager.ensures.parts in
    record {
      row =
          row_fits i c.next.new.self c.in-Some.worker next (λ w. w.manager.threads) c.args.workers.items _
          c.into_iter-worker-iterator.ensures.into_iter_gives.0
          c.requires.few (omega (arith, row, c.apart-manager.ensures.served.lanes));
      room = room_left i c.next.new.self c.in-Some.worker next;
    }

pub loop-worker-preserved : goal.loop-worker-preserved
loop-worker-preserved c =
    let x = c.in-Some.worker in
    let takes : TakesInPiece x.ends (worker_lane x) (ready_part x) c.loop-worker.room c.take_in-room.result =
    search rules in
    record {
      gathers = one_more_taken c.loop-worker.invariant.gathers c.next.new.self x c.in-Some.ensures.steps.0
          c.in-Some.ensures.steps.1 _ takes;
      known = All-push IsServed c.loop-worker.yielded x c.loop-worker.invariant.known c.apart-manager.ensures.served;
      ordered = All-push IsOrdered c.loop-worker.yielded x c.loop-worker.invariant.ordered
          c.apart-manager.ensures.ordered;
    }
