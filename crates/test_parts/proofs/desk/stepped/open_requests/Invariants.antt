use Rattle.xa_base.proofs.{◌≡◌, [], length, All}
use Rattle.xa_words.specs.{Request}
use Rattle.xa_lane.specs.{Sending}
use Rattle.xa_desk.specs.{AreEndsTo}
use Rattle.test_parts.proofs.desk.stepped.open_requests.Given as goal

-- the senders so far
abbrev pub invariant-loop-place : goal.invariant-loop-place
invariant-loop-place g l = record {
  ends : AreEndsTo 1 1 l.senders.items;
  number : length l.senders.items ≡ l._place;
  named : l.manager ≡ l._place;
  new : All (λ (s : Sending Request). s.sent ≡ []) l.senders.items;
}
