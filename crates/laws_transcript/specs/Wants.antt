-- What a call asks its manager for.
use Rattle.std.specs.Prelude.{◌≡◌, ℕ, Bool, true, false, if◌then◌else◌, Option, Result, Ok, Err, List, [], ◌∷◌}
use Rattle.std.specs.List.{Contains}
use Rattle.xa_words.specs.Xid.{XidName}
use Rattle.xa_words.specs.declared.code.Code.{Code}
use Rattle.xa_words.specs.declared.code.Code.TheVariants.{Async, Inval, Proto, Retry, RmErr, RmFail}
use Rattle.xa_words.specs.declared.flags.Call.{Call}
use Rattle.xa_words.specs.declared.request.Op.{Op}
use Rattle.xa_words.specs.declared.request.RmOp.{RmOp}
use Rattle.xa_words.specs.declared.request.RmOp.TheVariants as rm
use Rattle.xa_calls.specs.Asking.{asked_of, native}
use Rattle.script_grammar.specs.declared.step.ManagerCall.TheVariants as manager_call
use Rattle.script_grammar.specs.Steps.{ScriptCall, ScriptCalled}

-- What a call asks its manager for: the code of an op; with TMASYNC a handle for it; nothing, for this reason; in an
-- xa_complete, what was asked for before; or, in an xa_recover, as many of the branches that are left there.
pub data Wanted : Type 0 where
  code_of : Op → Wanted
  handle_for : Op → Wanted
  in_vain : Code → Wanted
  completion : Wanted
  listing : ℕ → Wanted

abbrev pub wanted : {A : Type 0} → Result A Code → (A → Op) → (A → Bool) → Wanted
wanted (Ok asked) op asynchronous = if asynchronous asked then handle_for (op asked) else code_of (op asked)
wanted (Err why) op asynchronous = in_vain why

-- What an XA call asks for, and what a call outside XA does.
abbrev pub in_xa : Call → Option XidName → ℕ → Wanted
in_xa c x f = wanted (asked_of c x f) (λ asked. asked.op) (λ asked. asked.asynchronous)

abbrev pub outside_xa : RmOp → ℕ → Wanted
outside_xa o f = wanted (native o f) (λ asked. asked.op) (λ asked. asked.asynchronous)

-- What a call with these flags asks for.
abbrev pub wanted_by : ScriptCall → ℕ → Wanted
wanted_by (manager_call.Xa c x) f = in_xa c x f
wanted_by (manager_call.Heur x commits) f = outside_xa (rm.Heur x commits) f
wanted_by (manager_call.Add k d) f = outside_xa (rm.Add k d) f
wanted_by manager_call.Shut f = outside_xa rm.Shut f
wanted_by (manager_call.Complete h) f = completion
wanted_by (manager_call.Recover n) f = listing n

abbrev pub wanted_in : ScriptCalled → Wanted
wanted_in q = wanted_by q.call q.flags

-- Why nothing is put to a manager: there is none of that number, the thread has learnt that it is shut, or the thread's
-- requests are used up; with TMASYNC also that it takes no such calls, or that no handle or no place is free.
abbrev pub refusals : Bool → List Code
refusals false = Inval ∷ RmFail ∷ RmErr ∷ []
refusals true = Inval ∷ RmFail ∷ RmErr ∷ Async ∷ []

-- A code with which what is asked for may be refused. An xa_complete may find no such handle, nothing outstanding, or
-- nothing ready. What becomes of an xa_recover is said by itself.
abbrev pub IsRefusal : Wanted → Code → Type 0
IsRefusal (code_of o) c = Contains (refusals false) c
IsRefusal (handle_for o) c = Contains (refusals true) c
IsRefusal (in_vain why) c = c ≡ why
IsRefusal completion c = Contains (Inval ∷ Proto ∷ Retry ∷ []) c
IsRefusal (listing n) c = ⊥
