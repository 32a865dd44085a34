-- What a thread's calls do to its desk, and why they may be refused.
use Rattle.std.specs.FinMap as finmap
use Rattle.script_grammar.specs.declared.step.ManagerCall.TheVariants as manager_call
use Rattle.script_transcript.specs.declared.answer.Answer.TheVariants as answer
use Rattle.xa_base.proofs.{◌≡◌, ℕ, ℤ, ◌≤◌, Bool, true, false, not, Option, Some, None, Result, Ok, Err, sym, refl, ap}
use Rattle.xa_base.proofs.{◌∙◌, arith, pos, if◌then◌else◌, option_map, option_or, Contains, rules}
use Rattle.xa_words.specs.CodeNumbers.{number_of}
use Rattle.xa_words.specs.{Async, Op, Code}
use Rattle.xa_desk.specs.{Operation, Refused, NoSuchManager, Shut, TooMany, Spent, learnt_shut, IsKnown, is_known}
use Rattle.xa_desk.specs.{ledger, next_operation, after_sent, DeskView}
use Rattle.xa_scan.specs.{ScanView}
use Rattle.xa_calls.specs.{code_of as to_code, put_refusal, Puts, Calls, number_in, WritesHandle}
use Rattle.xa_calls.proofs.Kept.{known_here}
use Rattle.xa_calls.proofs.Effects.{kept_at, ledgers_at, Stays, stays_same, HasAsked, has_asked, HasTaken, Comes, left}
use Rattle.xa_calls.proofs.Effects.{took, completes_come}
use Rattle.script_grammar.specs.{ScriptCall, ScriptCalled}
use Rattle.script_transcript.specs.{Answer, Called as shown}
use Rattle.script_session.specs.{HasListed, shown_completion, CallAnswers}
use Rattle.laws_transcript.specs.{Wanted, wanted, wanted_by, wanted_in, refusals, IsRefusal}
use Rattle.laws_transcript.specs.Wants.Wanted.{code_of, handle_for, completion, listing}

-- What a call does to its desk, if it is no xa_recover.
pub data Does (q : ScriptCalled) (a : Answer) (old new : DeskView) : Type 0 where
  -- its manager is asked, and it answers the code
  answered : (o : Op) (c : Code) → wanted_in q ≡ code_of o → a ≡ shown (number_of c) → HasAsked q.manager o c old new
      → Does q a old new
  -- its request is sent, and it answers a handle that was free, under which the request is kept
  kept : (o : Op) (k : ℕ) → wanted_in q ≡ handle_for o → 1 ≤ k → a ≡ shown (pos k) → finmap.get old.kept k ≡ None
      → IsKnown old.ledgers q.manager
      → new.ledgers ≡ after_sent old.ledgers q.manager o
      → new.kept ≡ finmap.insert old.kept k (next_operation old.ledgers q.manager) → Does q a old new
  -- nothing is done, and it answers why
  refused : (c : Code) → IsRefusal (wanted_in q) c → a ≡ shown (number_of c) → Stays old new → Does q a old new
  -- what was kept under a handle is collected, and it answers both
  completes : (o : Operation) (k : ℕ) (c : Code) → wanted_in q ≡ completion → a ≡ answer.Completed (pos k) (number_of c)
      → HasTaken o k c old new
      → Does q a old new

-- What any call does to its desk and its scan.
pub data CallDoes (q : ScriptCalled) (a : Answer) (old : DeskView) (z : ScanView) (new : DeskView)
    (z' : ScanView) : Type 0 where
  plain : z' ≡ z → Does q a old new → CallDoes q a old z new z'
  lists : (n : ℕ) → wanted_in q ≡ listing n → HasListed q n old z new z' a → CallDoes q a old z new z'

-- ---- refusals, by what holds: the manager is known (k), it is learnt to be shut (s), it takes asynchronous calls
-- (ca),
-- no handle is free (fh), no request is left (sp)

abbrev reach_by : (k s : Bool) → Option Refused
reach_by k s = if not k then Some NoSuchManager else if s then Some Shut else None

abbrev async_by : Bool → Option Code
async_by ca = if ca then None else Some Async

abbrev spent_by : Bool → Option Refused
spent_by sp = if sp then Some Spent else None

abbrev submit_by : (k s fh sp : Bool) → Option Refused
submit_by k s fh sp = option_or (reach_by k s) (option_or (if fh then Some TooMany else None) (spent_by sp))

-- each is among those that there are
called_in : (c : Code) (k s sp : Bool) → option_map to_code (option_or (reach_by k s) (spent_by sp)) ≡ Some c
    → Contains (refusals false) c
called_in c k s sp e = search (arith, rules)

async_in : Contains (refusals true) Async
async_in = (3, omega arith, refl)

put_later_in : (c : Code) (k s ca fh sp : Bool)
    → option_or (option_map to_code (reach_by k s))
    (option_or (async_by ca) (option_map to_code (submit_by k s fh sp))) ≡ Some c
    → Contains (refusals true) c
put_later_in c k s ca fh sp e = search (arith, rules, async_in)

pub is_refusal : (old : DeskView) (n : ℕ) (b : Bool) (c : Code) → put_refusal old n b ≡ Some c → Contains (refusals b) c
is_refusal old n false c e = called_in c (is_known old.ledgers n) (learnt_shut (ledger old.ledgers n)) _ e
is_refusal old n true c e =
    put_later_in c (is_known old.ledgers n) (learnt_shut (ledger old.ledgers n)) (ledger old.ledgers n).carries_async _
    _ e

-- ---- a call that puts something

-- what is asked for, where TMASYNC is there or not
abbrev asks : Bool → Op → Wanted
asks b o = if b then handle_for o else code_of o

-- where that may be refused
refusal_by : (b : Bool) (o : Op) (c : Code) → Contains (refusals b) c → IsRefusal (asks b o) c
refusal_by true o c is = is
refusal_by false o c is = is

puts_do : (q : ScriptCalled) (old new : DeskView) (a : Answer) (n : ℤ) (asked : _) → Puts old q.manager asked new n
    → asks asked.asynchronous asked.op ≡ wanted_in q → a ≡ shown n → Does q a old new
puts_do q old new a n asked (Puts.refused c why of same) e told =
    refused c (rw e at (refusal_by asked.asynchronous asked.op c (is_refusal old q.manager asked.asynchronous c why)))
    (told ∙ ap (λ z. shown z) of) (stays_same old new same)
puts_do q old new a n asked (Puts.full why async of same) e told =
    refused Async (rw (← ap (λ b. asks b asked.op) (sym async) ∙ e) (3, omega arith, refl))
    (told ∙ ap (λ z. shown z) of)
    (ap ledgers_at same, ap kept_at same)
puts_do q old new a n asked (Puts.kept why async k of is same) e told =
    kept asked.op k (sym e ∙ ap (λ b. asks b asked.op) async) is.positive (told ∙ ap (λ z. shown z) of) is.free
    (known_here old q.manager asked.asynchronous why) (ap ledgers_at same) (ap kept_at same)
puts_do q old new a n asked (Puts.answered why async times c of is) e told =
    answered asked.op c (sym e ∙ ap (λ b. asks b asked.op) async) (told ∙ ap (λ z. shown z) of)
    (has_asked times q.manager asked.asynchronous old asked.op new c why is)

calls_do : (q : ScriptCalled) (old new : DeskView) (a : Answer) (n : ℤ) (r : Result _ Code)
    → Calls r old q.manager new n
    → wanted r (λ asked. asked.op) (λ asked. asked.asynchronous) ≡ wanted_in q → a ≡ shown n → Does q a old new
calls_do q old new a n (Ok asked) is e told = puts_do q old new a n asked is e told
calls_do q old new a n (Err c) is e told =
    refused c (rw (← e)) (told ∙ ap (λ z. shown z) is.0) (stays_same old new is.1)

-- ---- an xa_complete

completes_do : (q : ScriptCalled) (old new : DeskView) (a : Answer) (h h' r' n : ℤ) (collected : Result (ℕ × Code) Code)
    → completion ≡ wanted_in q
    → Comes old new collected → WritesHandle collected h (pos 0) h' r' n → a ≡ shown_completion h' r' n
    → Does q a old new
completes_do q old new a h h' r' n collected e (took o k c ok is) tells told =
    let t = rw ok at tells in
    completes o k c (sym e) (told ∙ (λ i. shown_completion (t.0 i) (t.1.0 i) (t.1.1 i))) is
completes_do q old new a h h' r' n collected e (left why err among bad stays) tells told =
    let t = rw err at tells in
    refused why (rw (← e) among)
    (told ∙ ap (λ z. shown_completion h' r' z) t.1.1
    ∙ ap (λ b. if b then answer.Completed h' r' else shown (number_of why)) bad) stays

-- a call of a line
pub answers_do : (x : ScriptCall) (q : ScriptCalled) → wanted_by x q.flags ≡ wanted_in q
    → (old new : DeskView) (z z' : ScanView) (a : Answer)
    → CallAnswers x q old z new z' a → CallDoes q a old z new z'
answers_do (manager_call.Recover n) q e old new z z' a is = lists n (sym e) is
answers_do (manager_call.Complete h) q e old new z z' a (is, still) =
    plain still (completes_do q old new a h is.handle is.retval is.answer is.completes.collected e
    (completes_come q.flags old (number_in h) q.manager new is.completes.collected is.completes.completes)
    is.completes.tells is.shown)
answers_do x q e old new z z' a (is, still) = plain still (calls_do q old new a is.answer _ is.calls e is.shown)
