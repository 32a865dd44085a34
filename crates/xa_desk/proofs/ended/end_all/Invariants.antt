use Rattle.xa_base.proofs.{◌≡◌, length, vec_capacity, Handled}
use Rattle.xa_lane.specs.{but_full}
use Rattle.xa_desk.specs.{MarkEnds}
use Rattle.xa_desk.proofs.ended.end_all.Given as goal

-- the senders so far have ended, and the idle has changed by idling alone
abbrev pub invariant-loop-sender : goal.invariant-loop-sender
invariant-loop-sender g l = record {
  ended : Handled (λ s e. but_full e ≡ but_full s) l.fn.requests.items l.yielded l.sender-iterator l.ends
      (vec_capacity l.fn.ends);
  named : l.manager ≡ length l.yielded;
  marked : MarkEnds g.I.Idle.leads_by 0 l.yielded l.ends.items l.fn.idle l.idle;
  idled : g.I.Idle.leads l.fn.idle l.idle;
}
