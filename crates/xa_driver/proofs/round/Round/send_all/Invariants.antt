use Rattle.xa_base.proofs.{◌≡◌, ◌≤◌, length, List}
use Rattle.xa_driver.specs.{Ask, SameAsks, among_asks, IdlesAt, SendsMore, IsUnderWay, sent_count}
use Rattle.xa_driver.proofs.round.Round.send_all.Given as goal

abbrev pub invariant-loop-place : goal.invariant-loop-place
invariant-loop-place g l = record {
  under_way : IsUnderWay l.self l.desk;
  reached : l._place ≤ sent_count l.self;
  long : length l.self.asks.items ≡ length l.initial.self.asks.items;
  before : l.self.before ≡ l.initial.self.before;
  same : (js : List Ask) → SameAsks js l.initial.self.asks.items → SameAsks js l.self.asks.items;
  waited : IdlesAt g.I.Idle.leads_by (among_asks l.initial.self.asks.items) l.initial.idle l.idle;
  asks : (l.self.asks ≡ l.initial.self.asks) × (l.self.collected ≡ l.initial.self.collected);
  ordered : SendsMore l.initial.self.tickets.items l.self.tickets.items l.initial.desk l.desk;
  idled : g.I.Idle.leads l.initial.idle l.idle;
}
