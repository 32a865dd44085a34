-- A log for trials, over another one: the append that it loses, and what it has after that.
use Rattle.xa_base.proofs.{◌≡◌, ◌⊎◌, ⊎_elim, inl, inr, Bool, true, false, if◌then◌else◌, List, Result, Ok, Err, ap}
use Rattle.xa_base.proofs.{refl, sym, ◌∙◌}
use Rattle.std.specs.Prelude.{OnOk, IsErrOf}
use Rattle.std.specs.FinMap as map
use Rattle.xa_words.specs.{TranName}
use Rattle.xa_log.specs.{IsEither, TrialIsKnown, LogState, LosesOver, TrialLog, TrialWasAsked, counted_up, loses_next}
use Rattle.xa_log.specs.{trial_state, with_failure, with_record}
use Rattle.xa_log.specs.declared.log.LogFault.{LogFault}
use Rattle.xa_log.specs.declared.log.LogFault.TheVariants as fault

-- it has lost one more append, after which the log that it stands over is this
abbrev pub one_lost : {L : Type 0} → TrialLog L → L → TrialLog L
one_lost old found = record old { found = found; appends = counted_up old.appends; is_lost = true }

-- its records are those from before, or these with one more
abbrev HasEither : LogState → LogState → TranName → List Bool → Type 0
HasEither old later t managers = (later.records ≡ old.records) ⊎ (later.records ≡ map.insert old.records t managers)

module _ {L : Type 0} (state : L → LogState) (knows : L → Type 0)
    (appends : TranName → List Bool → Bool → L → L → Type 0)
    (loses : TranName → List Bool → L → L → Type 0) (t : TranName) (managers : List Bool) where
  -- what a log answers to an append that it is asked for
  pub was_asked : (r : Result (Unit {0}) LogFault) (old new : L)
      → OnOk r ((state new ≡ with_record (state old) t managers) × knows new × appends t managers true old new)
      → (IsErrOf r fault.Refused
      → (state new ≡ with_failure (state old)) × knows new × appends t managers false old new)
      → (IsErrOf r fault.Unknown → (knows new → ⊥) × loses t managers old new)
      → TrialWasAsked state knows appends loses t managers old new
  was_asked (Ok x) old new taken refused unknown = TrialWasAsked.answered true taken.0 taken.1 taken.2
  was_asked (Err fault.Refused) old new taken refused unknown =
      let it = refused refl in TrialWasAsked.answered false it.0 it.1 it.2
  was_asked (Err fault.Unknown) old new taken refused unknown = let it = unknown refl in TrialWasAsked.lost it.0 it.1

  -- it loses it itself
  pub loses_itself : (old : TrialLog L) (found : L) → TrialIsKnown knows old → loses_next old ≡ true
      → (old.keeps ≡ true → TrialWasAsked state knows appends loses t managers old.found found)
      → (old.keeps ≡ false → found ≡ old.found)
      → (TrialIsKnown knows (one_lost old found) → ⊥) × LosesOver state knows appends loses t managers old
      (one_lost old found)
  loses_itself old found known lost kept gone = (
    λ (is : TrialIsKnown knows (one_lost old found)). let z : true ≡ false = is.kept in cc,
    record {
      kept = λ _. kept;
      gone = λ _. gone;
      below = λ is. let z : false ≡ true = sym is ∙ lost in cc;
      lost = sym (ap (λ b. if b then true else old.is_lost) lost);
      known = known.found;
      counted = refl;
      failures = refl;
      same = record { failing = refl; losing = refl; keeps = refl };
    },
  )

  asked_either : (old new : L) → TrialWasAsked state knows appends loses t managers old new → knows new
      → HasEither (state old) (state new) t managers
  asked_either old new (TrialWasAsked.answered true is known it) still = inr (ap (λ (s : LogState). s.records) is)
  asked_either old new (TrialWasAsked.answered false is known it) still = inl (ap (λ (s : LogState). s.records) is)
  asked_either old new (TrialWasAsked.lost unknown it) still = absurd (unknown still)

  kept_or_gone : (old new : TrialLog L) → LosesOver state knows appends loses t managers old new → knows new.found
      → loses_next old ≡ true → (keeps : Bool)
      → old.keeps ≡ keeps → HasEither (state old.found) (state new.found) t managers
  kept_or_gone old new it known next true keeps = asked_either old.found new.found (it.kept next keeps) known
  kept_or_gone old new it known next false keeps = inl (ap (λ (l : L). (state l).records) (it.gone next keeps))

  loses_it : (old new : TrialLog L) → LosesOver state knows appends loses t managers old new → knows new.found
      → (lost : Bool) → loses_next old ≡ lost
      → loses_next old ≡ true
  loses_it old new it known true next = next
  loses_it old new it known false next = absurd ((it.below next).1 known)

  either_of : (old new : TrialLog L) → new.failures ≡ old.failures
      → HasEither (state old.found) (state new.found) t managers
      → IsEither (trial_state state old) (trial_state state new) t managers
  either_of old new same either =
      ⊎_elim
      (λ (is : (state new.found).records ≡ (state old.found).records). inl
      (λ i. record { records = is i; failures = same i }))
      (λ (is : (state new.found).records ≡ map.insert (state old.found).records t managers). inr
      (λ i. record { records = is i; failures = same i })) either

  -- Where the log that it stands over is known it lost the append itself: its records are those from before, or these
  -- with one more.
  pub lost_itself : (old new : TrialLog L) → LosesOver state knows appends loses t managers old new → knows new.found
      → (new.is_lost ≡ true) × IsEither (trial_state state old) (trial_state state new) t managers
  lost_itself old new it known =
      let next = loses_it old new it known (loses_next old) refl in (
        it.lost
            ∙ ap (λ b. if b then true else old.is_lost) next,
        either_of old new it.failures
            (kept_or_gone old new it known next old.keeps refl),
      )
