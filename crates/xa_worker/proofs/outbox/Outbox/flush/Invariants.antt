use Rattle.xa_base.proofs.{◌≡◌, ◌+◌, ℕ, length}
use Rattle.xa_worker.specs.{put_to}
use Rattle.xa_worker.proofs.Lanes.{HasSent}
use Rattle.xa_worker.proofs.outbox.Outbox.flush.Given as goal

abbrev pub invariant-loop-place : goal.invariant-loop-place
invariant-loop-place g l = record {
  sent : HasSent l.initial.self l.self;
  put : (k : ℕ) → put_to k l.self ≡ put_to k l.initial.self;
  left : l._place + length l.self.waiting ≡ length l.initial.self.waiting;
}
