use Rattle.xa_base.proofs.{◌≡◌, ◌+◌, length, take, List}
use Rattle.xa_driver.specs.{Ask, SameAsks, among_asks, IdlesAt, CollectsFirst, count_asked, AllAreSent, IsUnderWay}
use Rattle.xa_driver.proofs.round.Round.collect_first.Given as goal

-- so many answers are left to come
abbrev pub invariant-answers : goal.invariant-answers
invariant-answers g l = record {
  under_way : IsUnderWay l.self l.desk;
  all : AllAreSent l.self;
  counted : count_asked (take l.self.collected l.self.asks.items) + l.left ≡ l.initial.left;
  before : l.self.before ≡ l.initial.self.before;
  same : (js : List Ask) → SameAsks js l.initial.self.asks.items → SameAsks js l.self.asks.items;
  waited : IdlesAt g.I.Idle.leads_by (among_asks l.initial.self.asks.items) l.initial.idle l.idle;
  ordered : CollectsFirst l.initial.self.tickets.items l.self.tickets.items l.initial.desk l.desk;
  idled : g.I.Idle.leads l.initial.idle l.idle;
}

abbrev pub decreases-answers : goal.decreases-answers
decreases-answers g l = length l.self.tickets.items
