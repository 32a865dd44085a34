use Rattle.xa_base.proofs.{arith, ◌≡◌, refl, sym, ap, ◌∙◌, Some, set, slice_get, slice_get-get_or}
use Rattle.xa_driver.specs.{Ask, with_code, next_ticket}
use Rattle.xa_driver.proofs.Requests.{same_set}
use Rattle.xa_driver.proofs.Stepping.{flight_owned, matched_some, first_one, one_more_collected, place_is, place_within}
use Rattle.xa_driver.proofs.round.Round.collect_place.Goals as goal

pub index-requires : goal.index-requires
index-requires g c =
    omega (
      arith,
      place_within c.args.self.now c.args.desk.now c.requires c.in-Some.ticket c.pop_front.new.self.items
          c.in-Some.ensures.items,
    )

pub index_mut-requires : goal.index_mut-requires
index_mut-requires g c =
    omega (
      arith,
      place_within c.args.self.now c.args.desk.now c.requires c.in-Some.ticket c.pop_front.new.self.items
          c.in-Some.ensures.items,
    )

pub overflow_add-self : goal.overflow_add-self
overflow_add-self g c =
    let within =
    place_within c.args.self.now c.args.desk.now c.requires c.in-Some.ticket c.pop_front.new.self.items
    c.in-Some.ensures.items in
    omega (arith, within, c.args.self.now.asks.ok.0)

pub end-code-requires : goal.end-code-requires
end-code-requires g c =
    let one =
    first_one c.args.self.now c.args.desk.now c.requires c.in-Some.ticket c.pop_front.new.self.items
    c.in-Some.ensures.items in
    flight_owned one.0 c.in-Some.ticket _ c.args.desk.now one.1.1.1.0

pub returns : goal.returns
returns g c =
    let r = c.args.self.now in
    let desk = c.args.desk.now in
    let t = c.in-Some.ticket in
    let ts = c.pop_front.new.self.items in
    let first = c.in-Some.ensures.items in
    let e = c.end-code.ensures in
    let one = first_one r desk c.requires t ts first in
    let is : c.index.result.now ≡ one.0 = c.index.ensures ∙ place_is r desk c.requires t ts first c.index.result.now in
    let is_mut : c.index_mut.result.now ≡ one.0 =
    c.index_mut.ensures.value ∙ place_is r desk c.requires t ts first c.index_mut.result.now in
    let entered = ap (set r.asks.items r.collected) c.enter.ensures in
    record {
      under_way = search
          (arith, one_more_collected, c.requires, c.end-code.result, c.end-code.new.desk, r.asks.items, r.collected);
      collects = matched_some _ _ (next_ticket r) t (ap (λ l. slice_get l 0) first) (
        refl,
        record {
          ask = c.index.result.now;
          place =
              slice_get-get_or r.asks.items r.collected c.index.result.now (place_within r desk c.requires t ts first)
              ∙ ap (λ k. Some k) (sym c.index.ensures);
          code = c.end-code.result;
          ended = e.ended;
          asks = entered
              ∙ ap (λ (k : Ask). set r.asks.items r.collected (with_code k c.end-code.result)) (is_mut ∙ sym is);
          tickets = first;
          left = e.others;
          collected = refl;
        },
      );
      waited = matched_some _ _ (next_ticket r) t (ap (λ l. slice_get l 0) first) e.waited;
      before = refl;
      same = search (arith, same_set, r.asks.items, r.collected, c.index_mut.result.now);
      idled = e.idled;
    }
