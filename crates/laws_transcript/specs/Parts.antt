-- A thread's part in the journals, and what a call does to it.
use Rattle.std.specs.Prelude.{◌≡◌, ℕ, ◌≤◌, pos, Bool, false, ◌==◌, if◌then◌else◌, Some, None, Result, List, [], ◌∷◌}
use Rattle.std.specs.Prelude.{◌++◌}
use Rattle.std.specs.Prelude.{length, slice_get}
use Rattle.std.specs.List.{Contains}
use Rattle.std.specs.Ordering.{nat_cmp}
use Rattle.std.specs.FinMap as finmap
use Rattle.xa_words.specs.CodeNumbers.{number_of}
use Rattle.xa_words.specs.Xid.{XidName}
use Rattle.xa_words.specs.Flags.{check_flags}
use Rattle.xa_words.specs.declared.code.Code.{Code}
use Rattle.xa_words.specs.declared.flags.Call.TheVariants as call
use Rattle.xa_words.specs.declared.request.Op.{Op}
use Rattle.xa_desk.specs.declared.operation.Operation.{Operation}
use Rattle.xa_worker.specs.Journal.{Entry, entry}
use Rattle.xa_switch.specs.Settled.{Settling, journal, answers}
use Rattle.xa_calls.specs.Scans.{RecoversBy, told_as}
use Rattle.xa_scan.specs.Left.{ScanView}
use Rattle.xa_log.specs.Log.{LogState}
use Rattle.script_transcript.specs.declared.answer.Answer.{Answer}
use Rattle.script_transcript.specs.declared.answer.Answer.TheVariants.{Called as shown, Completed}
use Rattle.script_session.specs.ManagerCalls.{ShowsListed}
use Rattle.laws_transcript.specs.Wants.{wanted_in, refusals, IsRefusal}
use Rattle.laws_transcript.specs.Wants.Wanted.{code_of, handle_for, completion, listing}
use Rattle.script_grammar.specs.Steps.{ScriptCalled}

-- A thread's part in the journals, its log and its scans: its entries in each manager's journal, the requests that its
-- handles stand for, what it has logged, and where it stands in what the opening found left. Where an append had an
-- unknown end the log is lost from sight: nobody knows what it turns out to have before the next opening.
pub record Part : Type 0 where
  pub entries : ℕ → List Entry
  pub handles : finmap.FinMap nat_cmp Operation
  pub log : LogState
  pub is_lost : Bool
  pub scan : ScanView

-- The part of a thread that has done nothing since the opening, at which it had this log and these scans.
abbrev pub new_part : LogState → ScanView → Part
new_part log scan =
    record { entries = λ m. []; handles = finmap.empty; log = log; is_lost = false; scan = scan }

-- The next entry of thread t: its op, with the next number.
abbrev pub next_entry : ℕ → List Entry → Op → Code → Entry
next_entry t before o c = entry (record { thread = t; number = length before; op = o }) c

-- The part with one more entry of thread t at manager m.
abbrev pub with_next_entry : ℕ → ℕ → Op → Code → Part → Part
with_next_entry t m o c p =
    record p { entries = λ n. if n == m then p.entries n ++ next_entry t (p.entries n) o c ∷ [] else p.entries n }

-- The thread's next request to a manager.
abbrev pub next_of_part : Part → ℕ → Operation
next_of_part p m = record { manager = m; number = length (p.entries m) }

-- How many entries a thread's part has, manager by manager: its next request to a manager has that number.
abbrev pub entered_so_far : Part → ℕ → ℕ
entered_so_far p m = length (p.entries m)

-- The part with a handle that stands for a request, and without one.
abbrev pub with_handle : ℕ → Operation → Part → Part
with_handle k o p = record p { handles = finmap.insert p.handles k o }

abbrev pub without_handle : ℕ → Part → Part
without_handle k p = record p { handles = finmap.remove p.handles k }

-- The code that stands in its manager's journal for a request of thread t.
abbrev pub HasCode : Settling → ℕ → Operation → Code → Type 0
HasCode settled t o c = slice_get (answers t (journal settled o.manager)) o.number ≡ Some (o.number, c)

-- Thread t asks manager m of an op: it is carried out with this code, or nothing is put to the manager, for this
-- reason.
pub data PartAsked (t m : ℕ) (old : Part) (op : Op) (new : Part) (c : Code) : Type 0 where
  answered : new ≡ with_next_entry t m op c old → PartAsked t m old op new c
  refused : Contains (refusals false) c → new ≡ old → PartAsked t m old op new c

-- What an xa_recover of thread t with room for n xids does to the thread's part, and what it answers: its manager is
-- asked whether it answers, and then of one after the other of the branches that the opening found left, from where the
-- scan stands.
pub record Lists (t : ℕ) (q : ScriptCalled) (n : ℕ) (a : Answer) (old new : Part) : Type 0 where
  pub there : Bool
  pub asked : Part
  pub before : List XidName
  pub after : List XidName
  pub result : Result ℕ Code
  pub room : length before ≡ n
  pub recovers : RecoversBy (PartAsked t q.manager) there (check_flags call.Recover q.flags) q.manager old old.scan
      before asked new.scan after result
  pub stands : new ≡ record asked { scan = new.scan }
  pub tells : ShowsListed (told_as result) after a

-- What a call of thread t does to the thread's part, and what it answers.
pub data CallTakes (settled : Settling) (t : ℕ) (q : ScriptCalled) (a : Answer) (old new : Part) : Type 0 where
  -- its manager carries its op out, and the call answers the code
  answered : (o : Op) (c : Code) → wanted_in q ≡ code_of o → a ≡ shown (number_of c)
      → new ≡ with_next_entry t q.manager o c old → CallTakes settled t q a old new
  -- its manager carries its op out, and the call answers a handle that was free, which now stands for it
  kept : (o : Op) (c : Code) (k : ℕ) → wanted_in q ≡ handle_for o → 1 ≤ k → a ≡ shown (pos k)
      → finmap.get old.handles k ≡ None
      → new ≡ with_handle k (next_of_part old q.manager) (with_next_entry t q.manager o c old)
      → CallTakes settled t q a old new
  -- nothing is done, and the call answers why
  refused : (c : Code) → IsRefusal (wanted_in q) c → a ≡ shown (number_of c) → new ≡ old
      → CallTakes settled t q a old new
  -- a handle is completed, and its call answers the code of what it stood for
  completes : (o : Operation) (k : ℕ) (c : Code) → wanted_in q ≡ completion → finmap.get old.handles k ≡ Some o
      → HasCode settled t o c → a ≡ Completed (pos k) (number_of c) → new ≡ without_handle k old
      → CallTakes settled t q a old new
  -- branches are listed
  lists : (n : ℕ) → wanted_in q ≡ listing n → Lists t q n a old new → CallTakes settled t q a old new
