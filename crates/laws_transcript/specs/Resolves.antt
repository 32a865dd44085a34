-- What a resolve does to its thread's part.
use Rattle.std.specs.Prelude.{◌≡◌, ℕ, false, List, Vec}
use Rattle.std.specs.Global.{Global}
use Rattle.xa_base.specs.declared.limits.TheConstants.{MOST_MANAGERS}
use Rattle.xa_driver.specs.declared.resolved.Outcome.{Outcome}
use Rattle.xa_driver.specs.Resolving.{Resolves}
use Rattle.script_transcript.specs.declared.answer.Answer.{Answer}
use Rattle.script_transcript.specs.declared.answer.Answer.TheVariants as answer
use Rattle.laws_transcript.specs.Parts.{Part}
use Rattle.laws_transcript.specs.Commits.{CarriesOut}

-- What a resolve does to thread t's part where this came of it: its course over the thread's entries, one list for
-- each manager, by the thread's log, which is known, and of what the thread's scans have as left.
pub record EndsLeft (t : ℕ) (outcomes : List Outcome) (old new : Part) : Type 0 where
  pub course : Resolves (CarriesOut t) old.log.records old.scan MOST_MANAGERS old.entries new.entries
      outcomes
  pub nowhere : new.entries 0 ≡ old.entries 0
  pub handles : new.handles ≡ old.handles
  pub log : new.log ≡ old.log
  pub known : old.is_lost ≡ false
  pub still_known : new.is_lost ≡ false
  pub scan : new.scan ≡ old.scan

-- What a resolve does to thread t's part: nothing where it is refused.
pub data ResolveTakes (t : ℕ) (a : Answer) (old new : Part) : Type 0 where
  refused : a ≡ answer.Refused → new ≡ old → ResolveTakes t a old new
  resolved : (outcomes : Vec Outcome Global) → a ≡ answer.Resolved outcomes → EndsLeft t outcomes.items old new
      → ResolveTakes t a old new
