use Rattle.xa_base.proofs.{◌≡◌, ◌<◌, ◌∷◌, ◌++◌, ◌∙◌, Some, ap, sym, refl, length, All-head, All-tail}
use Rattle.std.specs.Prelude.{option_to_list}
use Rattle.xa_lane.specs.{sent_at}
use Rattle.xa_lane.proofs.Parcels.{sent_at-full}
use Rattle.xa_worker.specs.{Addressed, waiting_at}
use Rattle.xa_worker.proofs.Lanes.{put-first}
use Rattle.xa_worker.proofs.outbox.Outbox.send_first.Given.{Over}
use Rattle.xa_worker.proofs.outbox.Outbox.send_first.Goals as goal

pub returns-then-not-offer_at-clause-put : goal.returns-then-not-offer_at-clause-put
returns-then-not-offer_at-clause-put g c k =
    let waiting = waiting_at k c.self.inside.waiting.items in
    rw (← c.self.view_is)
    (ap (λ ss. sent_at k ss ++ waiting) c.if-not-offer_at.ensures.offered
    ∙ ap (λ xs. xs ++ waiting) (sent_at-full k _ _))

-- the first that waits was taken out
first_is : (g : Over) (c : goal.After-pop_front g)
    → c.self.inside.waiting.items ≡ c.in-Some.field-0.now ∷ c.pop_front.new.self.items
first_is g c =
    c.pop_front.ensures.items
    ∙ ap (λ o. option_to_list o ++ c.pop_front.new.self.items)
    (c.pop_front.ensures.value c.in-Some.field-0.now (c.in-Some.ensures.variant.0 refl)
    ∙ ap Some (sym c.in-Some.ensures.lookup))

pub invariant_of-self-2 : goal.invariant_of-self-2
invariant_of-self-2 g c =
    let within = rw (first_is g c) at c.self.invariant.0 in (
      rw c.if-not-offer_at.ensures.len
          (All-tail (λ (p : Addressed). p.0 < length c.self.inside.senders.items) _ _ within),
      rw
          c.pop_front.ensures.capacity c.self.invariant.1,
    )

pub returns-clause-put : goal.returns-clause-put
returns-clause-put g c k =
    let within = rw (first_is g c) at c.self.invariant.0 in
    rw (← c.self.view_is)
    (put-first k _ _
    (record {
      first = c.in-Some.field-0.now;
      waits = first_is g c;
      senders =
          c.if-not-offer_at.ensures.offered;
    })
    (All-head (λ (p : Addressed). p.0 < length c.self.inside.senders.items) _ _ within))
