-- What a call of XA puts to a manager, and what it answers.
use Rattle.std.specs.Prelude.{◌≡◌, ℕ, ℤ, pos, Bool, true, false, not, ◌&&◌, is_some, if◌then◌else◌, Option, Some, None}
use Rattle.std.specs.Prelude.{option_map, Result, Ok, Err}
use Rattle.std.specs.FinMap as map
use Rattle.std.specs.Option.{option_or}
use Rattle.xa_words.specs.CodeNumbers.{number_of}
use Rattle.xa_words.specs.declared.code.Code.{Code}
use Rattle.xa_words.specs.declared.code.Code.TheVariants.{Async, Inval, RmErr, RmFail}
use Rattle.xa_desk.specs.declared.refused.Refused.{Refused}
use Rattle.xa_desk.specs.declared.refused.Refused.TheVariants.{NoSuchManager, Shut, TooMany, Spent, Full}
use Rattle.xa_desk.specs.DeskViews.{DeskView, ledger, next_operation, IsLeastFree, reach_refusal, submit_refusal}
use Rattle.xa_desk.specs.DeskViews.{call_refusal}
use Rattle.xa_desk.specs.GoingOn.{GoesOn}
use Rattle.xa_desk.specs.Lanes.{submitted, after_full, after_fulls}
use Rattle.xa_desk.specs.Looks.{Collects}
use Rattle.xa_desk.specs.Tickets.{LeavesTickets}
use Rattle.xa_desk.specs.Waits.{SendsAndWaits}
use Rattle.xa_calls.specs.declared.putting.Asked.{Asked}

-- What a call leaves: its desk has gone on with the tickets that are out, and what was lent has idled on, or stays.
pub record CallLeaves {I : Type 0} (leads : I → I → Type 0) (old new : DeskView) (before after : I) : Type 0 where
  pub goes_on : GoesOn old new
  pub tickets : LeavesTickets old new
  pub idled : leads before after

-- the code that a refusal of a desk is answered as
abbrev pub code_of : Refused → Code
code_of NoSuchManager = Inval
code_of Shut = RmFail
code_of TooMany = Async
code_of Spent = RmErr
code_of Full = Async

-- why nothing asynchronous may be put to manager m: it takes no such call
abbrev pub async_refusal : DeskView → ℕ → Option Code
async_refusal d m = if (ledger d.ledgers m).carries_async then None else Some Async

-- Why nothing may be put to manager m, a full queue aside: the desk's refusal, as a code. An asynchronous call asks
-- whether the manager takes any before handles and planned requests are looked at.
abbrev pub put_refusal : DeskView → ℕ → Bool → Option Code
put_refusal d m false = option_map code_of (call_refusal d m)
put_refusal d m true =
    option_or (option_map code_of (reach_refusal d m))
    (option_or (async_refusal d m) (option_map code_of (submit_refusal d m)))

-- What becomes of what is asked for, and the answer: a refusal; XAER_ASYNC where the queue was full, which the end of
-- the lane counts; the handle under which the request that was sent is kept; or the collected code of the request that
-- was sent once the queue was found full n times.
pub data Puts (old : DeskView) (m : ℕ) (asked : Asked) (new : DeskView) (answer : ℤ) : Type 0 where
  refused : (c : Code) → put_refusal old m asked.asynchronous ≡ Some c → answer ≡ number_of c → new ≡ old
      → Puts old m asked new answer
  full : put_refusal old m asked.asynchronous ≡ None → asked.asynchronous ≡ true → answer ≡ number_of Async
      → new ≡ after_full old m → Puts old m asked new answer
  kept : put_refusal old m asked.asynchronous ≡ None → asked.asynchronous ≡ true → (k : ℕ) → answer ≡ pos k
      → IsLeastFree old.kept k
      → new ≡ record (submitted old m asked.op) { kept = map.insert old.kept k (next_operation old.ledgers m) }
      → Puts old m asked new answer
  answered : put_refusal old m asked.asynchronous ≡ None → asked.asynchronous ≡ false → (n : ℕ) (c : Code)
      → answer ≡ number_of c
      → Collects (submitted (after_fulls n old m) m asked.op) new (next_operation old.ledgers m) c
      → Puts old m asked new answer

-- A call that asks for nothing is refused, and the desk stays.
abbrev pub Calls : Result Asked Code → DeskView → ℕ → DeskView → ℤ → Type 0
Calls (Ok asked) old m new answer = Puts old m asked new answer
Calls (Err c) old m new answer = (answer ≡ number_of c) × (new ≡ old)

-- Only a synchronous call that isn't refused may wait.
abbrev pub call_waits : DeskView → ℕ → Result Asked Code → Bool
call_waits d m (Ok asked) = not asked.asynchronous && not (is_some (put_refusal d m asked.asynchronous))
call_waits d m (Err c) = false

-- And where it may, it waits as its desk does, at its manager, and idles nowhere else.
abbrev pub CallsAndWaits : {I : Type 0} → (ℕ → I → I → Type 0) → Result Asked Code → DeskView → ℕ → DeskView → I → I
    → ℤ → Type 0
CallsAndWaits by (Ok asked) old m new before after answer =
    call_waits old m (Ok asked) ≡ true
    → (c : Code) × (answer ≡ number_of c) × SendsAndWaits (by m) old new before after m asked.op c
CallsAndWaits by (Err why) old m new before after answer = Unit {0}
