-- A round that goes on is still the round of its stage.
use Rattle.xa_base.proofs.{◌≡◌, List, map, sym, ap, ◌∙◌, subst}
use Rattle.xa_desk.specs.{LedgerView, DeskView, GoesOn}
use Rattle.xa_driver.specs.{Round, Told, Forgetting, Ask, HaveComeSoFar, SameAsks, third_ask, IsForgetting, IsUnderWay}

-- what a step of a round keeps
abbrev Steps : Round → Round → Type 0
Steps r next = (js : List Ask) → SameAsks js r.asks.items → SameAsks js next.asks.items

forgetting : (t : Told) (desk : DeskView) (f : Forgetting) (next : Round) → IsForgetting t desk f
    → next.before ≡ f.round.before → Steps f.round next
    → IsForgetting t desk (record { round = next; done = f.done })
forgetting t desk f next h before steps =
    record {
      before = ap (λ b. b.value) before ∙ h.before;
      same = steps (map third_ask t.round.asks.items) h.same;
      done = h.done;
    }

-- two steps
pub forgetting_on : (t : Told) (desk : DeskView) (f : Forgetting) (one next : Round) → IsForgetting t desk f
    → one.before ≡ f.round.before
    → next.before ≡ one.before → Steps f.round one → Steps one next
    → IsForgetting t desk (record { round = next; done = f.done })
forgetting_on t desk f one next h before again steps more =
    forgetting t desk (record { round = one; done = f.done }) next (forgetting t desk f one h before steps) again more

-- and so its desk went on
pub went_on : (r : Round) (desk start now left : DeskView)
    → ((old mid new : DeskView) → GoesOn old mid → GoesOn mid new → GoesOn old new)
    → r.before.value ≡ start → GoesOn desk start → IsUnderWay r now → GoesOn now left → GoesOn desk left
went_on r desk start now left further before goes under_way leaves =
    further desk now left
    (further desk start now goes (subst (λ (d : DeskView). GoesOn d now) before under_way.keeps.goes_on)) leaves

-- what was done of it when it was left
pub left_so_far : (r : Round) (desk now : DeskView) (left : List LedgerView)
    → ((r : Round) (now : DeskView) → IsUnderWay r now → HaveComeSoFar r.asks.items r.before.value.ledgers now.ledgers)
    → r.before.value ≡ desk
    → left ≡ now.ledgers → IsUnderWay r now → HaveComeSoFar r.asks.items desk.ledgers left
left_so_far r desk now left law before lists under_way =
    subst (λ (d : DeskView). HaveComeSoFar r.asks.items d.ledgers left) before
    (subst (λ (l : List LedgerView). HaveComeSoFar r.asks.items r.before.value.ledgers l) (sym lists)
    (law r now under_way))
