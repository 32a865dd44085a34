-- The openings of a script one after another, and what a transcript tells of them.
use Rattle.std.specs.Prelude.{◌≡◌, ℕ, suc, ◌≤◌, All, List, [], ◌∷◌, ◌++◌, map}
use Rattle.std.specs.List.{flat_map}
use Rattle.xa_base.specs.Lists.{Chain}
use Rattle.xa_tables.specs.ManagerTables.{Tables}
use Rattle.xa_tables.specs.Histories.{tables_after}
use Rattle.xa_tables.specs.Openings.{reopened}
use Rattle.xa_switch.specs.Settled.{Settling, IsSettled}
use Rattle.xa_switch.specs.Fates.{history}
use Rattle.xa_scan.specs.Left.{ScanView, no_scan}
use Rattle.xa_switch.specs.Recovery.{IsScanOf}
use Rattle.xa_log.specs.Log.{LogState, no_records}
use Rattle.script_grammar.specs.declared.script.Declared.{Declared}
use Rattle.script_grammar.specs.declared.step.Step.TheVariants as step
use Rattle.script_grammar.specs.Steps.{ScriptStep}
use Rattle.script_grammar.specs.Contents.{Content, threads_of, managers_of, NoneReopens}
use Rattle.script_transcript.specs.declared.answer.TranscriptLine.{TranscriptLine}
use Rattle.script_transcript.specs.declared.answer.TranscriptLine.TheVariants as told
use Rattle.laws_transcript.specs.Parts.{Part, new_part}
use Rattle.laws_transcript.specs.Journals.{AreCarriedOut}
use Rattle.script_transcript.specs.Values.{opened, AreOfScript, AreValues}

-- ---- one opening

-- What an opening begins with: its number, of which the first is 1; the tables of each manager; and of each thread its
-- log and its scans.
pub record Beginning : Type 0 where
  pub opening : ℕ
  pub tables : ℕ → Tables
  pub logs : ℕ → LogState
  pub scans : ℕ → ScanView

-- Thread t's part as the opening begins.
abbrev pub part_at : Beginning → ℕ → Part
part_at b t = new_part (b.logs t) (b.scans t)

-- An opening of a run: its lines of the script, what they answered and what was outstanding after them, and what it was
-- settled to.
pub record ToldOpening : Type 0 where
  pub steps : List ScriptStep
  pub answers : List TranscriptLine
  pub settled : Settling

-- What the answers tell of an opening that begins so: what was sent, carried out and collected agrees; each manager
-- goes on from its tables; and of every thread the journals have what its lines put to the managers, with the codes
-- that they answer.
pub record TellsOf (s : Content) (b : Beginning) (o : ToldOpening) : Type 0 where
  pub agree : IsSettled o.settled
  pub managers : AreOfScript s b.tables o.settled.managers
  pub carried : (t : ℕ) → AreCarriedOut o.steps o.answers o.settled t (part_at b t)

-- ---- several

-- An opening with the line that reopened it.
pub record Former : Type 0 where
  pub opening : ToldOpening
  pub line : ℕ

-- What the answers tell of it, and what the next one begins with: the next number; each manager with what the reopening
-- makes of its tables; each thread with the log that it has, or turns out to have where that wasn't known, and with new
-- scans of what is left.
pub record Leaves (s : Content) (f : Former) (old new : Beginning) : Type 0 where
  pub tells : TellsOf s old f.opening
  pub opening : new.opening ≡ suc old.opening
  pub tables : (m : ℕ) → 1 ≤ m → m ≤ managers_of s
      → new.tables m ≡ reopened (tables_after (history f.opening.settled m) (old.tables m))
  pub logs : (t : ℕ) → new.logs t ≡ (tells.carried t).log
  pub scans : (t : ℕ) → 1 ≤ t → t ≤ threads_of s → IsScanOf f.opening.settled (new.scans t)

-- What the first opening of the script begins with.
abbrev pub beginning : Content → Beginning
beginning s = record { opening = 1; tables = opened s; logs = λ t. no_records; scans = λ t. no_scan }

-- The lines of these openings, with one that reopens after each but the last, and what they answered.
abbrev pub steps_over : List Former → ToldOpening → List ScriptStep
steps_over before last = flat_map (λ f. f.opening.steps ++ step.Reopen f.line ∷ []) before ++ last.steps

abbrev pub answers_over : List Former → ToldOpening → List TranscriptLine
answers_over before last = flat_map (λ f. f.opening.answers ++ told.Reopened f.line ∷ []) before ++ last.answers

-- What each was settled to.
abbrev pub settled_over : List Former → ToldOpening → List Settling
settled_over before last = map (λ f. f.opening.settled) before ++ last.settled ∷ []

-- ---- the whole transcript

-- What a transcript of these answers and values tells of the openings of a script, of which the last follows these: its
-- lines are those of the openings, and so are its answers; it tells of one opening after the other, each of which
-- begins with what those before it left; and the values are those after all journals.
pub record Tells (s : Content) (answers : List TranscriptLine) (values : List Declared) (before : List Former)
    (last : ToldOpening)
    : Type 0 where
  pub steps : s.steps ≡ steps_over before last
  pub answers_ : answers ≡ answers_over before last
  pub ones : All (λ f. NoneReopens f.opening.steps) before × NoneReopens last.steps
  pub begins : Beginning
  pub former : Chain (Leaves s) (beginning s) before begins
  pub latest : TellsOf s begins last
  pub shown : AreValues s (settled_over before last) values
