-- What a worker's deeds make of its log, and what they answer.
use Rattle.std.specs.Prelude.{◌≡◌, ℕ, ◌==◌, ◌<◌, ◌||◌, Bool, true, false, if◌then◌else◌, cond, List, [], ◌∷◌, ◌++◌, map}
use Rattle.std.specs.Prelude.{None, is_some, length, get_or}
use Rattle.std.specs.List.{list_any}
use Rattle.xa_words.specs.Tran.{TranName, tran_eq}
use Rattle.xa_log.specs.Log.{LogState, record_of, with_record, with_failure, without_record}
use Rattle.xa_log.specs.declared.log.CommitRecord.{CommitRecord}
use Rattle.xa_log_shared.specs.declared.ask.LogRequest.{LogRequest}
use Rattle.xa_log_shared.specs.declared.ask.LogRequest.TheVariants.{Append, Forget}
use Rattle.xa_log_shared.specs.declared.ask.AppendAnswer.{AppendAnswer}
use Rattle.xa_log_shared.specs.declared.ask.AppendAnswer.TheVariants.{Taken, Refused, Unknown}
use Rattle.xa_log_shared.specs.declared.ask.Answered.{Answered}
use Rattle.xa_log_shared.specs.declared.ask.Deed.{Deed}
use Rattle.xa_log_shared.specs.declared.ask.Deed.TheVariants.{Answers, Forgets, IsRefused}
use Rattle.xa_log_shared.specs.declared.group.Waiting.{Waiting}

-- a record of this coordinator, with its answer
abbrev pub answered_by : ℕ → CommitRecord → AppendAnswer → Answered
answered_by from r answer = record { from = from; decision = r; answer = answer }

-- ---- the log

-- A record that is taken is in the log. One that is refused isn't put there: its transaction has a record already, or
-- the log counts a failure.
abbrev pub after_answer : LogState → CommitRecord → AppendAnswer → LogState
after_answer log r Taken = with_record log r.tran r.yes
after_answer log r Refused = if is_some (record_of log r.tran) then log else with_failure log
after_answer log r Unknown = log

-- the log after a deed
abbrev pub after_deed : LogState → Deed → LogState
after_deed log (Answers a) = after_answer log a.decision a.answer
after_deed log (Forgets from tran) = without_record log tran
after_deed log IsRefused = with_failure log

-- the log after these deeds, one after another
abbrev pub after : LogState → List Deed → LogState
after log [] = log
after log (d ∷ ds) = after (after_deed log d) ds

-- only a record of a transaction that has none is taken, and while the log is known no answer is unknown
abbrev pub IsRightAnswer : LogState → CommitRecord → AppendAnswer → Type 0
IsRightAnswer log r Taken = record_of log r.tran ≡ None
IsRightAnswer log r Refused = Unit {0}
IsRightAnswer log r Unknown = ⊥

abbrev pub IsRight : LogState → Deed → Type 0
IsRight log (Answers a) = IsRightAnswer log a.decision a.answer
IsRight log (Forgets from tran) = Unit {0}
IsRight log IsRefused = Unit {0}

-- each of these deeds, one after another
abbrev pub AreRight : LogState → List Deed → Type 0
AreRight log [] = Unit {0}
AreRight log (d ∷ ds) = IsRight log d × AreRight (after_deed log d) ds

-- what is done of a log that isn't known: each record is answered so
abbrev pub IsUnknownDeed : Deed → Type 0
IsUnknownDeed (Answers a) = a.answer ≡ Unknown
IsUnknownDeed (Forgets from tran) = Unit {0}
IsUnknownDeed IsRefused = ⊥

abbrev pub AreUnknown : List Deed → Type 0
AreUnknown [] = Unit {0}
AreUnknown (d ∷ ds) = IsUnknownDeed d × AreUnknown ds

-- what was done before the log was lost is right, and since then each record is answered so
pub record Loses (before : LogState) (deeds : List Deed) : Type 0 where
  pub done : List Deed
  pub rest : List Deed
  pub parts : deeds ≡ done ++ rest
  pub right : AreRight before done
  pub unknown : AreUnknown rest

-- From a log that is known or isn't, to one that is or isn't. While it is known, each deed is right, and the log is
-- what they make of it. Once it isn't known, it never is again.
abbrev pub Does : Bool → LogState → List Deed → Bool → LogState → Type 0
Does true before deeds true now = AreRight before deeds × (now ≡ after before deeds)
Does true before deeds false now = Loses before deeds
Does false before deeds true now = ⊥
Does false before deeds false now = AreUnknown deeds

-- the flag tells whether a log is known
abbrev pub IsToldBy : Bool → Type 0 → Type 0
IsToldBy flag knows = (flag ≡ true → (knows → ⊥) → ⊥) × (knows → flag ≡ true)

-- ---- the answers

-- the deeds in a worker's ghost list
abbrev pub deeds_in : List (Deed × Unit {0}) → List Deed
deeds_in items = map (λ x. x.0) items

abbrev pub answers_of_deed : Deed → List Answered
answers_of_deed (Answers a) = a ∷ []
answers_of_deed (Forgets from tran) = []
answers_of_deed IsRefused = []

-- the answers among the deeds
abbrev pub answers_in : List Deed → List Answered
answers_in [] = []
answers_in (d ∷ ds) = answers_of_deed d ++ answers_in ds

-- a record with its coordinator, as it waited
abbrev pub as_waiting : Answered → Waiting
as_waiting a = record { from = a.from; decision = a.decision }

-- the records that wait
abbrev pub records_waiting : List Waiting → List CommitRecord
records_waiting ws = map (λ w. w.decision) ws

-- the same answer to each of them
abbrev pub answer_each : AppendAnswer → List Waiting → List Answered
answer_each answer ws = map (λ w. answered_by w.from w.decision answer) ws

-- ---- the requests

-- what a coordinator asks, where it is this one
abbrev pub asked_if : ℕ → ℕ → LogRequest → List LogRequest
asked_if k from ask = cond (from == k) (ask ∷ []) []

-- what coordinator k asked of which this was done
abbrev pub asked_by : ℕ → Deed → List LogRequest
asked_by k (Answers a) = asked_if k a.from (Append a.decision)
asked_by k (Forgets from tran) = asked_if k from (Forget tran)
asked_by k IsRefused = []

abbrev pub asked_in : ℕ → List Deed → List LogRequest
asked_in k [] = []
asked_in k (d ∷ ds) = asked_by k d ++ asked_in k ds

-- what coordinator k asked that waits for its group
abbrev pub waits_of : ℕ → List Waiting → List LogRequest
waits_of k [] = []
waits_of k (w ∷ ws) = asked_if k w.from (Append w.decision) ++ waits_of k ws

-- these requests, each with its coordinator, of coordinator k
abbrev pub asks_of_coordinator : ℕ → List (ℕ × LogRequest) → List LogRequest
asks_of_coordinator k [] = []
asks_of_coordinator k (r ∷ rs) = asked_if k r.0 r.1 ++ asks_of_coordinator k rs

-- each is of a coordinator below n
abbrev pub AreBelow : ℕ → List Waiting → Type 0
AreBelow n ws = (k : ℕ) (d : Waiting) → k < length ws → (get_or ws k d).from < n

-- These deeds more were done: they answer each record that waited, in order, and what they make of the log is right.
pub record Settles (waiting : List Waiting) (answered : List Answered) (old new : List (Deed × Unit {0}))
    (knew : Bool) (before : LogState) (knows : Bool) (now : LogState) : Type 0 where
  pub deeds : List Deed
  pub grown : deeds_in new ≡ deeds_in old ++ deeds
  pub answers : answers_in deeds ≡ answered
  pub each : map as_waiting answered ≡ waiting
  pub asked : (k : ℕ) → asked_in k deeds ≡ waits_of k waiting
  pub does : Does knew before deeds knows now

-- whether a record waits that is of this coordinator or of this transaction
abbrev pub is_clash : ℕ → TranName → List Waiting → Bool
is_clash from tran ws = list_any (λ w. (w.from == from) || tran_eq w.decision.tran tran) ws

-- the transaction that a request is about
abbrev pub tran_in : LogRequest → TranName
tran_in (Append r) = r.tran
tran_in (Forget tran) = tran
