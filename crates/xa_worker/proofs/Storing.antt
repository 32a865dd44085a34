-- What a crash leaves of a worker's manager, after each kind of step.
use Rattle.xa_base.proofs.{◌≡◌, ℕ, Bool, false, sym, ap, ◌∙◌, [], append-nil, inl, inr, begins_on}
use Rattle.xa_lane.specs.{sent_at}
use Rattle.xa_store.specs.{AreDurable}
use Rattle.xa_tables.specs.{Tables, reopened, tables_after}
use Rattle.xa_words.specs.{Completion}
use Rattle.xa_worker.specs.Outgoing.{Outgoing}
use Rattle.xa_worker.specs.{AnswersOrWaits, Extends, IsStored, IsTiedWorker, WorkerView, requests, waiting_at}

-- all of the journal is durable, and whatever was sent or waits is owed by it
pub all_durable : (knows may_leave : Tables → Type 0) (w : WorkerView) → IsTiedWorker w → knows w.manager.tables
    → AreDurable may_leave w.manager.tables
    → IsStored knows may_leave w
all_durable knows may_leave w t known durable = record {
  known = known;
  leaves = λ K may. record {
    kept = w.journal;
    begins = ([], sym (append-nil w.journal));
    left = durable K may ∙ ap reopened t.follows.tables_then;
    owed = λ k. (waiting_at k w.out.waiting, sym (t.sent k));
  };
}

module _ (knows may_leave knows' may_leave' : Tables → Type 0) (w w' : WorkerView) where
  -- the journal has only grown, and nothing more was sent
  pub still_stored : IsStored knows may_leave w → knows' w'.manager.tables → ((K : Tables) → may_leave' K → may_leave K)
      → w'.number ≡ w.number
      → w'.first ≡ w.first → Extends w.journal w'.journal
      → ((k : ℕ) → sent_at k w'.out.senders ≡ sent_at k w.out.senders)
      → IsStored knows' may_leave' w'
  still_stored s known less number first more sent = record {
    known = known;
    leaves = λ K may.
        let l = s.leaves K (less K may) in
        record {
          kept = l.kept;
          begins = begins_on l.kept w.journal w'.journal l.begins more;
          left = l.left ∙ ap (λ T. reopened (tables_after (requests l.kept) T)) (sym first);
          owed = λ k. rw (sent k, number) (l.owed k);
        };
  }

  -- and an answer was sent, or waits for a store that owes something
  pub answered_stored : (owing : Bool) (place : ℕ) (c : Completion) → AnswersOrWaits owing w.out place c w'.out
      → IsTiedWorker w'
      → IsStored knows may_leave w
      → knows' w'.manager.tables → (owing ≡ false → AreDurable may_leave' w'.manager.tables)
      → ((K : Tables) → may_leave' K → may_leave K)
      → w'.number ≡ w.number → w'.first ≡ w.first → Extends w.journal w'.journal → IsStored knows' may_leave' w'
  answered_stored owing place c (inl (free, none, puts)) t s known settled less number first more =
      all_durable knows' may_leave' w' t known (settled free)
  answered_stored owing place c (inr (why, waits)) t s known settled less number first more =
      still_stored s known less number first more (λ k. ap (λ (o : Outgoing). sent_at k o.senders) waits)
