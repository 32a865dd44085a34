use Rattle.xa_base.proofs.{◌≡◌, ◌+◌, ◌<◌, length, refl, Some, arith, slice_get, slice_get-get_or}
use Rattle.xa_driver.specs.{next_ask, sent_count}
use Rattle.xa_driver.proofs.Stepping.{matched_some, can_now, free_now, one_more_leaves, one_more_sent}
use Rattle.xa_driver.proofs.round.Round.send_place.Goals as goal

pub begin-ticket-requires : goal.begin-ticket-requires
begin-ticket-requires g c =
    let r = c.args.self.now in
    let count : r.collected + c.len.result ≡ sent_count r = let a = c.len.ensures in
    let b = r.tickets.ok.0 in omega (arith, a, b) in
    let within : r.collected + c.len.result < length r.asks.items = let a = c.if-place-len.false in
    let b = c.len-2.ensures in let d = r.asks.ok.0 in omega (arith, a, b, d) in
    search (arith, can_now, free_now, c.args.desk.now, c.requires, c.index.result.now)

pub returns : goal.returns
returns g c =
    let r = c.args.self.now in
    let desk = c.args.desk.now in
    let began = c.begin-ticket.ensures.began in
    let place = r.collected + c.len.result in
    let k = c.index.result.now in
    let count : place ≡ sent_count r = let a = c.len.ensures in let b = r.tickets.ok.0 in omega (arith, a, b) in
    let within : place < length r.asks.items = let a = c.if-place-len.false in
    let b = c.len-2.ensures in let d = r.asks.ok.0 in omega (arith, a, b, d) in
    let next : next_ask r ≡ Some k = search (arith, slice_get, slice_get-get_or, r.asks.items) in
    record {
      under_way = one_more_sent r desk c.requires place count k within c.index.ensures c.begin-ticket.result
          c.begin-ticket.new.desk began _ refl c.push_back_reserved.ensures.items c.push_back_reserved.ensures.capacity;
      sends = matched_some _ _ (next_ask r) k next (
        refl,
        record {
          ticket = c.begin-ticket.result;
          began = began;
          tickets = c.push_back_reserved.ensures.items;
          left = one_more_leaves r desk c.requires place count k within c.index.ensures c.begin-ticket.result
              c.begin-ticket.new.desk began;
          asks = refl;
          collected = refl;
        },
      );
      waited = matched_some _ _ (next_ask r) k next c.begin-ticket.ensures.waited;
      before = refl;
      same = λ js s. s;
      idled = c.begin-ticket.ensures.idled;
    }
