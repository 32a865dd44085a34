use Rattle.xa_tables.specs.{Tables}
use Rattle.test_replay.proofs.agrees.Goals as goal

pub returns : goal.returns
returns c = λ shown.
    let last : Tables = c.replays.new.tables.tables in
    record {
      last = last;
      follows = rw c.in-Ok.ensures.tables at (c.replays.ensures.follows c.if-not-replays.false);
      threads = c.replays.ensures.threads c.if-not-replays.false;
      orders = c.are_in_order.ensures c.if-not-are_in_order.false;
      values_ = c.have_values.ensures shown;
    }
