-- A decision log for trials, over another one: it refuses one of its appends, and loses one.
use Rattle.std.specs.Prelude.{◌≡◌, ◌+◌, ◌%◌, ◌^◌, Bool, true, false, if◌then◌else◌, List, nat_eq}
use Rattle.xa_words.specs.Tran.{TranName}
use Rattle.xa_log.specs.declared.trial.TrialLog.{TrialLog}
use Rattle.xa_log.specs.Log.{LogState, counted_up, with_failure, with_record}

-- nothing was appended to it yet, and it refuses and loses nothing
abbrev pub new_trial : {L : Type 0} → L → TrialLog L
new_trial found = record {
  found = found;
  appends = 0;
  failures = 0;
  failing = 0;
  losing = 0;
  keeps = false;
  is_lost = false;
}

-- it is opened again
abbrev pub trial_reopened : {L : Type 0} → TrialLog L → TrialLog L
trial_reopened l = record l { is_lost = false }

-- Its records are those of the log that it stands over, and its failures those that it has counted.
abbrev pub trial_state : {L : Type 0} → (L → LogState) → TrialLog L → LogState
trial_state state l = record { records = (state l.found).records; failures = l.failures }

-- neither it nor the log that it stands over has lost an append
pub record TrialIsKnown {L : Type 0} (knows : L → Type 0) (l : TrialLog L) : Type 0 where
  pub kept : l.is_lost ≡ false
  pub found : knows l.found

-- the next append is the one that it refuses
abbrev pub fails_next : {L : Type 0} → TrialLog L → Bool
fails_next l = nat_eq (counted_up l.appends) l.failing

-- the next append is the one that it loses
abbrev pub loses_next : {L : Type 0} → TrialLog L → Bool
loses_next l = nat_eq (counted_up l.appends) l.losing

-- what it refuses and loses stays as it was said
pub record IsSameTrial {L : Type 0} (old new : TrialLog L) : Type 0 where
  pub failing : new.failing ≡ old.failing
  pub losing : new.losing ≡ old.losing
  pub keeps : new.keeps ≡ old.keeps

-- An append that isn't lost: the one that it refuses does nothing, and any other one is an append to the log that it
-- stands over. It counts, and so does a refusal.
pub record AppendsOver {L : Type 0} (appends : TranName → List Bool → Bool → L → L → Type 0) (tran : TranName)
    (yes : List Bool) (taken : Bool) (old new : TrialLog L) : Type 0 where
  pub next : loses_next old ≡ false
  pub refused : fails_next old ≡ true → (taken ≡ false) × (new.found ≡ old.found)
  pub below : fails_next old ≡ false → appends tran yes taken old.found new.found
  pub counted : new.appends ≡ counted_up old.appends
  pub failures : new.failures ≡ (if taken then old.failures else (old.failures + 1) % 2 ^ 64)
  pub same : IsSameTrial old new
  pub lost : new.is_lost ≡ old.is_lost

-- The log that it stands over was asked to append: it answered, or lost the record itself.
pub data TrialWasAsked {L : Type 0} (state : L → LogState) (knows : L → Type 0)
    (appends : TranName → List Bool → Bool → L → L → Type 0) (loses : TranName → List Bool → L → L → Type 0)
    (tran : TranName) (yes : List Bool) (old new : L) : Type 0 where
  answered : (taken : Bool) → state new ≡ (if taken then with_record (state old) tran yes else with_failure (state old))
      → knows new → appends tran yes taken old new → TrialWasAsked state knows appends loses tran yes old new
  lost : (knows new → ⊥) → loses tran yes old new → TrialWasAsked state knows appends loses tran yes old new

-- An append with an unknown end. It is the one that it loses: where the log is to turn out to have the record it was
-- appended to the one that it stands over, and else that is as it was. Or that one lost it. It counts, and no refusal
-- does.
pub record LosesOver {L : Type 0} (state : L → LogState) (knows : L → Type 0)
    (appends : TranName → List Bool → Bool → L → L → Type 0) (loses : TranName → List Bool → L → L → Type 0)
    (tran : TranName) (yes : List Bool) (old new : TrialLog L) : Type 0 where
  pub kept : loses_next old ≡ true → old.keeps ≡ true
      → TrialWasAsked state knows appends loses tran yes old.found new.found
  pub gone : loses_next old ≡ true → old.keeps ≡ false → new.found ≡ old.found
  pub below : loses_next old ≡ false
      → (fails_next old ≡ false) × (knows new.found → ⊥) × loses tran yes old.found new.found
  pub lost : new.is_lost ≡ (if loses_next old then true else old.is_lost)
  pub known : knows old.found
  pub counted : new.appends ≡ counted_up old.appends
  pub failures : new.failures ≡ old.failures
  pub same : IsSameTrial old new

-- What forgetting does to it is what it does to the log that it stands over.
pub record ForgetsOver {L : Type 0} (forgets : L → L → Type 0) (old new : TrialLog L) : Type 0 where
  pub below : forgets old.found new.found
  pub same : new ≡ record old { found = new.found }
