use Rattle.xa_base.proofs.{length, ap, arith}
use Rattle.xa_driver.proofs.Flights.{left_one_more, kept_one_more, last_more, nothing_left, rest_owned}
use Rattle.xa_driver.proofs.round.keep_all.Goals as goal

pub loop-place-init : goal.loop-place-init
loop-place-init c = search (arith, nothing_left, c.args.tickets.now.items, c.desks_go_on.ensures.same)

pub loop-place-preserved : goal.loop-place-preserved
loop-place-preserved c =
    let d = c.loop-place.desk in
    let d1 = c.keep.new.desk in
    let t = c.in-Some.ticket in
    let ts = c.pop_front.new.self.items in
    let first = c.in-Some.ensures.items in
    let last = rw first at c.loop-place.invariant.last in
    record {
      owned = rest_owned d d1 t ts (rw first at c.loop-place.invariant.owned) c.keep.ensures.others;
      kept = λ but. kept_one_more d d1 t ts (rw first at (c.loop-place.invariant.kept but)) c.keep.ensures.kept;
      left = left_one_more c.args.tickets.now.items c.args.desk.now d d1 t ts last c.loop-place.invariant.left
          c.keep.ensures.kept c.keep.ensures.others;
      goes_on = c.desks_go_on.ensures.further c.args.desk.now d d1 c.loop-place.invariant.goes_on
          c.keep.ensures.goes_on;
      last = last_more t ts c.args.tickets.now.items last;
      counted = let a = ap (λ l. length l) first in let b = c.loop-place.invariant.counted in omega (arith, a, b);
    }
