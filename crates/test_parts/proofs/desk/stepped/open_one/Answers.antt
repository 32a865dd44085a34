use Rattle.xa_base.proofs.{◌≡◌, ◌∙◌, ◌+◌, ℕ, List, [], ◌∷◌, ◌++◌, sym, ap}
use Rattle.xa_words.specs.{Request}
use Rattle.xa_lane.specs.{LaneName, QueueId, Sending, new_sender, new_senders}
use Rattle.test_parts.proofs.desk.stepped.open_one.Goals as goal

abbrev name_of : ℕ → LaneName
name_of manager = record { opening = 1; kind = 0; index = manager }

-- the sender of a lane that has one
only_sender : (lane : LaneName) (line : QueueId) (capacity : ℕ) (rest : List (Sending Request)) (x : Sending Request)
    → rest ++ x ∷ [] ≡ new_senders lane line capacity 1
    → (x.index ≡ 0) × (x.lane ≡ lane) × (x.sent ≡ [])
only_sender lane line capacity [] x e =
    let is : x ≡ new_sender lane line capacity 0 = cc in (
      ap (λ (s : Sending Request). s.index) is,
      ap (λ (s : Sending Request). s.lane) is,
      ap
          (λ (s : Sending Request). s.sent) is,
    )
only_sender lane line capacity (y ∷ []) x e = absurd (cc)
only_sender lane line capacity (y ∷ (z ∷ ys)) x e = absurd (cc)

pub returns-clause-end : goal.returns-clause-end
returns-clause-end g c =
    let popped = rw c.expect-sender.ensures at c.pop.ensures.items in
    let senders = rw c.expect-senders.ensures at c.open_lane.ensures.senders in
    let only =
    only_sender (name_of c.args.manager) c.expect-senders.result.1.line c.args.capacity c.pop.new.self.items
    c.expect-sender.result (sym popped ∙ senders) in
    record {
      sender = ap (λ n. n + 1) only.0;
      opening_ = ap (λ (l : LaneName). l.opening) only.1;
      lane = ap (λ (l : LaneName). l.index) only.1;
    }

pub returns-clause-new : goal.returns-clause-new
returns-clause-new g c =
    let popped = rw c.expect-sender.ensures at c.pop.ensures.items in
    let senders = rw c.expect-senders.ensures at c.open_lane.ensures.senders in
    (only_sender (name_of c.args.manager) c.expect-senders.result.1.line c.args.capacity c.pop.new.self.items
    c.expect-sender.result (sym popped ∙ senders)).2
