-- What xa_complete collects, writes and answers.
use Rattle.std.specs.Prelude.{◌≡◌, ℕ, ℤ, pos, negsuc, Bool, true, false, not, ◌&&◌, ◌||◌, ◌==◌, Option, Some, None}
use Rattle.std.specs.Prelude.{Result, Ok, Err, IfOk}
use Rattle.std.specs.FinMap as map
use Rattle.xa_words.specs.CodeNumbers.{number_of}
use Rattle.xa_words.specs.Flags.{check_flags}
use Rattle.xa_words.specs.declared.code.Code.{Code}
use Rattle.xa_words.specs.declared.code.Code.TheVariants.{Inval, Proto, Retry}
use Rattle.xa_words.specs.declared.flags.Call.TheVariants as call
use Rattle.xa_words.specs.declared.flags.Mode.{Mode}
use Rattle.xa_desk.specs.declared.operation.Operation.{Operation}
use Rattle.xa_desk.specs.DeskViews.{DeskView, is_known, IsHandle, keeps_at, ready_at}
use Rattle.xa_desk.specs.Looks.{EndsQuiet, Collects, CollectsKept, CollectsLeast}
use Rattle.xa_desk.specs.Waits.{WaitsFor, WaitsForAny}

-- The number that a handle from outside stands for.
abbrev pub number_in : ℤ → Option ℕ
number_in (pos n) = Some n
number_in (negsuc n) = None

-- An operation of manager m is kept under the number.
abbrev pub is_of_manager : ℕ → Option Operation → Bool
is_of_manager m None = false
is_of_manager m (Some o) = o.manager == m

abbrev pub keeps_for : DeskView → ℕ → ℕ → Bool
keeps_for d k m = is_of_manager m (map.get d.kept k)

-- It is kept under the number that a handle stands for.
abbrev pub keeps_by : DeskView → Option ℕ → ℕ → Bool
keeps_by d None m = false
keeps_by d (Some k) m = keeps_for d k m

-- The operation was taken off its number, and then collected.
pub record CollectsRedeemed (old new : DeskView) (k : ℕ) (c : Code) : Type 0 where
  pub operation : Operation
  pub kept : map.get old.kept k ≡ Some operation
  pub collects : Collects (record old { kept = map.remove old.kept k }) new operation c

-- What comes of collecting by a handle: XAER_INVAL where no operation of the manager is kept under it; without waiting,
-- XA_RETRY after a quiet moment with its completion not drained; else its number and its code.
pub data CompletesOne (old : DeskView) (number : Option ℕ) (m : ℕ) (nowait : Bool) (new : DeskView)
    (result : Result (ℕ × Code) Code) : Type 0 where
  unknown : keeps_by old number m ≡ false → result ≡ Err Inval → new ≡ old → CompletesOne old number m nowait new result
  retry : (k : ℕ) → number ≡ Some k → keeps_for old k m ≡ true → nowait ≡ true → result ≡ Err Retry → EndsQuiet old new
      → ready_at new 0 k ≡ false → CompletesOne old number m nowait new result
  ready : (k : ℕ) (c : Code) → number ≡ Some k → keeps_for old k m ≡ true → nowait ≡ true → result ≡ Ok (k, c)
      → CollectsKept old new k c → CompletesOne old number m nowait new result
  waited : (k : ℕ) (c : Code) → number ≡ Some k → keeps_for old k m ≡ true → nowait ≡ false → result ≡ Ok (k, c)
      → CollectsRedeemed old new k c → CompletesOne old number m nowait new result

-- Nothing of manager m, of any manager for 0, is kept.
abbrev pub KeepsNothing : DeskView → ℕ → Type 0
KeepsNothing d m = (k : ℕ) → keeps_at d m k ≡ false

-- What comes of collecting any operation of m: XAER_PROTO where nothing of it is kept; without waiting, XA_RETRY after
-- a quiet moment with nothing of it ready; else the least number that is ready at a quiet moment, and its code.
pub data CompletesAny (old : DeskView) (m : ℕ) (nowait : Bool) (new : DeskView)
    (result : Result (ℕ × Code) Code) : Type 0 where
  nothing : KeepsNothing old m → result ≡ Err Proto → new ≡ old → CompletesAny old m nowait new result
  retry : (k : ℕ) → keeps_at old m k ≡ true → nowait ≡ true → result ≡ Err Retry → EndsQuiet old new
      → ((j : ℕ) → ready_at new m j ≡ false) → CompletesAny old m nowait new result
  least : (k : ℕ) (c : Code) → result ≡ Ok (k, c) → CollectsLeast old new m k c → CompletesAny old m nowait new result

-- ---- xa_complete

-- m is the number of a manager; with TMMULTIPLE it may be 0, for any manager.
abbrev pub may_complete : DeskView → ℕ → Bool → Bool
may_complete d m multiple = is_known d.ledgers m || (multiple && (m == 0))

-- What comes of an xa_complete at m, where it may be called there, with TMMULTIPLE or not, with TMNOWAIT or not.
abbrev pub CompletesAt : Bool → Bool → Bool → DeskView → Option ℕ → ℕ → DeskView → Result (ℕ × Code) Code → Type 0
CompletesAt false multiple nowait old number m new result = (result ≡ Err Inval) × (new ≡ old)
CompletesAt true true nowait old number m new result = CompletesAny old m nowait new result
CompletesAt true false nowait old number m new result = CompletesOne old number m nowait new result

abbrev pub CompletesIn : Mode → DeskView → Option ℕ → ℕ → DeskView → Result (ℕ × Code) Code → Type 0
CompletesIn mode old number m new result =
    CompletesAt (may_complete old m mode.multiple) mode.multiple mode.nowait old number m new result

-- What comes of an xa_complete whose flags came to this.
abbrev pub CompletesBy : Result Mode Code → DeskView → Option ℕ → ℕ → DeskView → Result (ℕ × Code) Code → Type 0
CompletesBy (Ok mode) old number m new result = CompletesIn mode old number m new result
CompletesBy (Err c) old number m new result = (result ≡ Err c) × (new ≡ old)

-- The handle and the code are written on XA_OK, and on no other answer.
abbrev pub WritesHandle : Result (ℕ × Code) Code → ℤ → ℤ → ℤ → ℤ → ℤ → Type 0
WritesHandle (Ok r) handle retval handle' retval' answer = (handle' ≡ pos r.0)
    × ((retval' ≡ number_of r.1) × (answer ≡ pos 0))
WritesHandle (Err c) handle retval handle' retval' answer = (handle' ≡ handle)
    × ((retval' ≡ retval) × (answer ≡ number_of c))

-- What an xa_complete does to the desk, and what it writes and answers.
pub record HasCompleted (old : DeskView) (handle retval : ℤ) (m flags : ℕ) (new : DeskView)
    (handle' retval' answer : ℤ) : Type 0 where
  pub collected : Result (ℕ × Code) Code
  pub completes : CompletesBy (check_flags call.Complete flags) old (number_in handle) m new collected
  pub numbered : IfOk collected (λ r. IsHandle r.0)
  pub tells : WritesHandle collected handle retval handle' retval' answer

-- Without TMNOWAIT it may wait.
abbrev pub completion_waits : Result Mode Code → Bool
completion_waits (Ok mode) = not mode.nowait
completion_waits (Err c) = false

-- ---- how it waits

module _ {I : Type 0} (by : ℕ → I → I → Type 0) where
  -- the operation of manager m that was kept under the number was waited for, and at m alone
  pub record WaitsRedeemed (old new : DeskView) (before after : I) (k m : ℕ) (c : Code) : Type 0 where
    pub operation : Operation
    pub kept : map.get old.kept k ≡ Some operation
    pub manager : operation.manager ≡ m
    pub waits : WaitsFor (by m) (record old { kept = map.remove old.kept k }) new before after operation c

  -- what was collected was waited for as the desk does: with TMMULTIPLE any operation of m, and else that of the handle
  abbrev pub WaitsIn : Bool → DeskView → Option ℕ → ℕ → DeskView → I → I → ℕ × Code → Type 0
  WaitsIn true old number m new before after r = WaitsForAny (by m) old new before after m r.0 r.1
  WaitsIn false old number m new before after r =
      (number ≡ Some r.0) × WaitsRedeemed old new before after r.0 m r.1

  -- so where the flags came to this, if they let it wait
  abbrev pub CompletesAndWaits : Result Mode Code → DeskView → Option ℕ → ℕ → DeskView → I → I → ℕ × Code → Type 0
  CompletesAndWaits (Ok mode) old number m new before after r =
      mode.nowait ≡ false → WaitsIn mode.multiple old number m new before after r
  CompletesAndWaits (Err c) old number m new before after r = Unit {0}

  -- how an xa_complete waited that has written this
  pub record HasWaited (old : DeskView) (handle : ℤ) (m flags : ℕ) (new : DeskView) (before after : I)
      (handle' retval' : ℤ) : Type 0 where
    pub collected : ℕ × Code
    pub told : (handle' ≡ pos collected.0) × (retval' ≡ number_of collected.1)
    pub waits : CompletesAndWaits (check_flags call.Complete flags) old (number_in handle) m new before after collected
