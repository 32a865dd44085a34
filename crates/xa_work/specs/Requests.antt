-- What a request of a unit of work does to its thread's desk.
use Rattle.std.specs.Prelude.{◌≡◌, ◌≢◌, ◌⊎◌, ℕ, ◌-◌, zero, suc, ◌<◌, ℤ, pos, negsuc, ◌≤ℤ◌, Bool, true, false, ◌&&◌}
use Rattle.std.specs.Prelude.{Some, None}
use Rattle.std.specs.Prelude.{List}
use Rattle.std.specs.FinMap as map
use Rattle.xa_words.specs.Xid.{XidName}
use Rattle.xa_words.specs.declared.code.Code.{Code}
use Rattle.xa_words.specs.CodeNumbers.{number_of}
use Rattle.xa_words.specs.declared.code.Code.TheVariants.{Async, Done}
use Rattle.xa_words.specs.declared.request.Op.{Op}
use Rattle.xa_words.specs.declared.request.Op.TheVariants as ops
use Rattle.xa_words.specs.declared.request.StartHow.TheVariants.{Fresh}
use Rattle.xa_words.specs.declared.request.EndHow.TheVariants.{Success}
use Rattle.xa_desk.specs.declared.operation.Operation.{Operation}
use Rattle.xa_desk.specs.LedgerViews.{LedgerView}
use Rattle.xa_desk.specs.DeskViews.{DeskView, after_sent, after_collected, is_known, ledger, next_operation}
use Rattle.xa_desk.specs.DeskViews.{outstanding}
use Rattle.xa_calls.specs.Completing.{keeps_by, may_complete, number_in}
use Rattle.xa_calls.specs.Putting.{Puts, put_refusal}
use Rattle.xa_work.specs.declared.step.WorkStep.{WorkStep}
use Rattle.xa_work.specs.declared.step.WorkStep.TheVariants.{Start, Add, End}

-- what a step of a branch's work asks its manager for
abbrev pub op_of_step : XidName → WorkStep → Op
op_of_step x Start = ops.Start x Fresh
op_of_step x (Add k d) = ops.Add k d
op_of_step x End = ops.End x Success

-- ---- asynchronous calls

-- manager m is there, and takes asynchronous calls
abbrev pub carries_async : DeskView → ℕ → Bool
carries_async d m = is_known d.ledgers m && (ledger d.ledgers m).carries_async

-- what was sent, collected and kept stays
pub record StaysSo (old new : DeskView) : Type 0 where
  pub ledgers : new.ledgers ≡ old.ledgers
  pub kept : new.kept ≡ old.kept

-- the op was put to manager m, and is kept under number k, which was free
pub record IsPut (m : ℕ) (op : Op) (k : ℕ) (old new : DeskView) : Type 0 where
  pub free : map.get old.kept k ≡ None
  pub ledgers : new.ledgers ≡ after_sent old.ledgers m op
  pub kept : new.kept ≡ map.insert old.kept k (next_operation old.ledgers m)

-- a call with the op was answered by a code, and nothing was done; calls before it found the queue full
pub record IsTurnedAway (m : ℕ) (op : Op) (answer : ℤ) (old new : DeskView) : Type 0 where
  pub last : DeskView
  pub waited : StaysSo old last
  pub answered : Puts last m (record { op = op; asynchronous = true }) new answer
  pub stays : StaysSo old new

-- what the answer to an asynchronous call tells: a handle is the number that it is kept under, and with a code nothing
-- was done
abbrev pub PutsOp : ℕ → Op → ℤ → DeskView → DeskView → Type 0
PutsOp m op (pos zero) old new = IsTurnedAway m op (pos zero) old new
PutsOp m op (pos (suc k)) old new = IsPut m op (suc k) old new
PutsOp m op (negsuc k) old new = IsTurnedAway m op (negsuc k) old new

-- the answer is that the queue of manager m was full: it takes asynchronous calls, and a handle was free
pub record QueueIsFull (m : ℕ) (answer : ℤ) (d : DeskView) : Type 0 where
  pub answered : answer ≡ number_of Async
  pub carries : carries_async d m ≡ true
  pub free : 0 < d.handles - outstanding d.ledgers

-- the op was put or turned away so, and not for a full queue
pub record PutsAtLast (m : ℕ) (op : Op) (answer : ℤ) (old new : DeskView) : Type 0 where
  pub puts : PutsOp m op answer old new
  pub unfull : QueueIsFull m answer new → ⊥

-- what was kept under number k was collected with this code
pub record IsCollected (k : ℕ) (c : Code) (old new : DeskView) : Type 0 where
  pub operation : Operation
  pub was : map.get old.kept k ≡ Some operation
  pub ledgers : new.ledgers ≡ after_collected old.ledgers operation c
  pub kept : new.kept ≡ map.remove old.kept k

-- nothing of manager m is kept under the handle: it is a code, or there is no such manager, or none is kept there
abbrev pub IsNoHandle : ℕ → ℤ → DeskView → Type 0
IsNoHandle m handle d =
    (handle ≤ℤ pos 0) ⊎ ((may_complete d m false ≡ false) ⊎ (keeps_by d (number_in handle) m ≡ false))

-- what became of a handle of manager m: it was collected with XA_OK, or with another code; or nothing was collected, as
-- by a code
pub data CollectsOp (m : ℕ) (handle : ℤ) (ok : Bool) (old new : DeskView) : Type 0 where
  done : (k : ℕ) → handle ≡ pos k → 0 < k → ok ≡ true → IsCollected k Done old new
      → CollectsOp m handle ok old new
  undone : (k : ℕ) (c : Code) → c ≢ Done → handle ≡ pos k → ok ≡ false → IsCollected k c old new
      → CollectsOp m handle ok old new
  nothing : ok ≡ false → IsNoHandle m handle old → StaysSo old new → CollectsOp m handle ok old new

-- ---- synchronous calls

-- the op was put to manager m, and collected with this code
abbrev pub after_called : List LedgerView → ℕ → Op → Code → List LedgerView
after_called at m op c = after_collected (after_sent at m op) (next_operation at m) c

-- what became of a synchronous call: the op was put to manager m, and collected with XA_OK, or with another code; or it
-- was refused for this reason, and nothing was put
pub data CallsOp (m : ℕ) (op : Op) (ok : Bool) (old new : DeskView) : Type 0 where
  called : ok ≡ true → new.ledgers ≡ after_called old.ledgers m op Done → CallsOp m op ok old new
  failed : (c : Code) → c ≢ Done → ok ≡ false → new.ledgers ≡ after_called old.ledgers m op c → CallsOp m op ok old new
  uncalled : (why : Code) → put_refusal old m false ≡ Some why → ok ≡ false → new.ledgers ≡ old.ledgers
      → CallsOp m op ok old new
