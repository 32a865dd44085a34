use Rattle.xa_base.proofs.{length, rules, arith, ap, All-push}
use Rattle.xa_switch.specs.{TakesInPiece, desk_lane, thread_part}
use Rattle.xa_switch.proofs.Dealing.{room_left, row_fits, one_more_taken}
use Rattle.xa_switch.proofs.settling.gathered.take_desks.Goals as goal

pub take_in-room-requires : goal.take_in-room-requires
take_in-room-requires c =
    let i = c.loop-desk.invariant.gathers in
    let next = c.in-Some.ensures.steps.0 in
    let row = ap length c.apart-requests.ensures.requests in
    record {
      row =
          row_fits i c.next.new.self c.in-Some.desk next (λ d. length d.ledgers) c.args.desks.items _
          c.into_iter-desk-iterator.ensures.into_iter_gives.0
          c.requires.few (omega (arith, row, c.apart-requests.ensures.known.tied.ends.number));
      room = room_left i c.next.new.self c.in-Some.desk next;
    }

pub loop-desk-preserved : goal.loop-desk-preserved
loop-desk-preserved c =
    let steps = c.in-Some.ensures.steps in
    let takes : TakesInPiece c.in-Some.desk.requests (desk_lane c.in-Some.desk) (thread_part c.in-Some.desk)
    c.loop-desk.room
    c.take_in-room.result =
    search rules in
    search (
      arith,
      one_more_taken,
      All-push,
      c.loop-desk.invariant.gathers,
      c.next.new.self,
      steps.0,
      steps.1,
      c.loop-desk.invariant.known,
    )
