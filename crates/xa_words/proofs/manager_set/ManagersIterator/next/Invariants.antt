use Rattle.xa_base.proofs.{◌≡◌, ◌≤◌, ◌-◌}
use Rattle.xa_base.specs.{MOST_MANAGERS}
use Rattle.xa_words.specs.{managers_above}
use Rattle.xa_words.proofs.manager_set.ManagersIterator.next.Given as goal

-- none of the set was passed over
abbrev pub invariant-loop-self : goal.invariant-loop-self
invariant-loop-self l = record {
  low : l.self-inside.last ≤ MOST_MANAGERS;
  left : managers_above l.self-inside.last l.self-inside.set ≡ l.fn.self;
}

abbrev pub decreases-loop-self : goal.decreases-loop-self
decreases-loop-self l = MOST_MANAGERS - l.self-inside.last
