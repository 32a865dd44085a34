-- What a script's calls do to the desk of their thread, and what they answer.
use Rattle.std.specs.Prelude.{◌≡◌, ℕ, ℤ, pos, negsuc, Bool, if◌then◌else◌, List, Vec, length, take}
use Rattle.std.specs.Global.{Global}
use Rattle.std.specs.Ordering.{int_eq}
use Rattle.xa_desk.specs.DeskViews.{DeskView}
use Rattle.xa_calls.specs.Asking.{asked_of, native}
use Rattle.xa_calls.specs.Putting.{Calls, call_waits}
use Rattle.xa_calls.specs.Completing.{HasCompleted, completion_waits}
use Rattle.xa_calls.specs.Scans.{HasRecovered, asks}
use Rattle.xa_scan.specs.Left.{ScanView}
use Rattle.xa_words.specs.Flags.{check_flags}
use Rattle.xa_words.specs.Xid.{XidName}
use Rattle.xa_words.specs.declared.flags.Call.TheVariants as call
use Rattle.xa_words.specs.declared.request.RmOp.TheVariants as rm
use Rattle.xa_words.specs.declared.xid.Xid.{Xid}
use Rattle.script_grammar.specs.declared.step.ManagerCall.TheVariants as manager_call
use Rattle.script_grammar.specs.Steps.{ScriptCall, ScriptCalled}
use Rattle.script_transcript.specs.declared.answer.Answer.{Answer}
use Rattle.script_transcript.specs.declared.answer.Answer.TheVariants.{Called as shown, Completed, Recovered}

-- What a call of these effects does to its thread's desk, and what it answers.
pub record HasAnswered (effects : DeskView → ℕ → DeskView → ℤ → Type 0) (c : ScriptCalled) (old new : DeskView)
    (a : Answer) : Type 0 where
  pub answer : ℤ
  pub calls : effects old c.manager new answer
  pub shown : a ≡ shown answer

-- XA_OK is shown with the handle and its code.
abbrev pub shown_completion : ℤ → ℤ → ℤ → Answer
shown_completion handle retval n = if int_eq n (pos 0) then Completed handle retval else shown n

-- What an xa_complete of this handle does to its thread's desk, and what it answers.
pub record HasCollected (c : ScriptCalled) (old : DeskView) (h : ℤ) (new : DeskView) (a : Answer) : Type 0 where
  pub handle : ℤ
  pub retval : ℤ
  pub answer : ℤ
  pub completes : HasCompleted old h (pos 0) c.manager c.flags new handle retval answer
  pub shown : a ≡ shown_completion handle retval answer

-- A negative answer is shown alone, and another with what was written.
abbrev pub ShowsListed : ℤ → List XidName → Answer → Type 0
ShowsListed (negsuc n) xids a = a ≡ shown (negsuc n)
ShowsListed (pos n) xids a = (v : Vec Xid Global) × (v.items ≡ take n xids) × (a ≡ Recovered v)

-- What an xa_recover with room for n xids does to its thread's desk and scan, and what it answers.
pub record HasListed (c : ScriptCalled) (n : ℕ) (old : DeskView) (z : ScanView) (new : DeskView) (z' : ScanView)
    (a : Answer) : Type 0 where
  pub before : List XidName
  pub after : List XidName
  pub answer : ℤ
  pub room : length before ≡ n
  pub recovers : HasRecovered c.manager c.flags old z before new z' after answer
  pub shown : ShowsListed answer after a

-- What a call does to its thread's desk and scan, and what it answers. Only an xa_recover moves the scan.
abbrev pub CallAnswers : ScriptCall → ScriptCalled → DeskView → ScanView → DeskView → ScanView → Answer → Type 0
CallAnswers (manager_call.Xa f x) c old z new z' a = HasAnswered (Calls (asked_of f x c.flags)) c old new a × (z' ≡ z)
CallAnswers (manager_call.Heur x commits) c old z new z' a =
    HasAnswered (Calls (native (rm.Heur x commits) c.flags)) c old new a × (z' ≡ z)
CallAnswers (manager_call.Add k d) c old z new z' a =
    HasAnswered (Calls (native (rm.Add k d) c.flags)) c old new a × (z' ≡ z)
CallAnswers manager_call.Shut c old z new z' a = HasAnswered (Calls (native rm.Shut c.flags)) c old new a × (z' ≡ z)
CallAnswers (manager_call.Complete h) c old z new z' a = HasCollected c old h new a × (z' ≡ z)
CallAnswers (manager_call.Recover n) c old z new z' a = HasListed c n old z new z' a

-- Whether a call may wait: a synchronous call that isn't refused may, an xa_complete without TMNOWAIT, and an
-- xa_recover that asks its manager.
abbrev pub manager_call_waits : ScriptCall → ScriptCalled → DeskView → ScanView → Bool
manager_call_waits (manager_call.Xa f x) c d z = call_waits d c.manager (asked_of f x c.flags)
manager_call_waits (manager_call.Heur x commits) c d z = call_waits d c.manager (native (rm.Heur x commits) c.flags)
manager_call_waits (manager_call.Add k delta) c d z = call_waits d c.manager (native (rm.Add k delta) c.flags)
manager_call_waits manager_call.Shut c d z = call_waits d c.manager (native rm.Shut c.flags)
manager_call_waits (manager_call.Complete h) c d z = completion_waits (check_flags call.Complete c.flags)
manager_call_waits (manager_call.Recover n) c d z = asks d z c.manager (check_flags call.Recover c.flags)
