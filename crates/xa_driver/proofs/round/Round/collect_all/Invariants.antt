use Rattle.xa_base.proofs.{◌≡◌, ◌≤◌, length, List}
use Rattle.xa_driver.specs.{Ask, SameAsks, among_asks, IdlesAt, CollectsFirst, AllAreSent, IsUnderWay}
use Rattle.xa_driver.proofs.round.Round.collect_all.Given as goal

abbrev pub invariant-loop-place : goal.invariant-loop-place
invariant-loop-place g l = record {
  under_way : IsUnderWay l.self l.desk;
  reached : l._place ≤ l.self.collected;
  all : AllAreSent l.self;
  long : length l.self.asks.items ≡ length l.initial.self.asks.items;
  before : l.self.before ≡ l.initial.self.before;
  same : (js : List Ask) → SameAsks js l.initial.self.asks.items → SameAsks js l.self.asks.items;
  waited : IdlesAt g.I.Idle.leads_by (among_asks l.initial.self.asks.items) l.initial.idle l.idle;
  ordered : CollectsFirst l.initial.self.tickets.items l.self.tickets.items l.initial.desk l.desk;
  idled : g.I.Idle.leads l.initial.idle l.idle;
}
