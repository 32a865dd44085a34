-- The work for a transaction: its requests, how they are made, and how they are given up.
use Rattle.std.specs.Prelude.{◌≡◌, ℕ, ◌+◌, ◌-◌, ◌≤◌, ◌==◌, ℤ, Bool, true, false, Some, List, [], ◌∷◌, ◌++◌, length, map}
use Rattle.std.specs.Prelude.{filter}
use Rattle.std.specs.List.{All, flat_map, list_all, range_with_len}
use Rattle.xa_base.specs.Lists.{Chain}
use Rattle.xa_words.specs.Flags.{TMFAIL}
use Rattle.xa_words.specs.declared.code.Code.TheVariants.{Done}
use Rattle.xa_words.specs.declared.flags.Call.{Call}
use Rattle.xa_words.specs.declared.flags.Call.TheVariants as call
use Rattle.xa_words.specs.declared.request.Op.{Op}
use Rattle.xa_words.specs.declared.request.Op.TheVariants.{OpenRm, Start, Add, End}
use Rattle.xa_words.specs.declared.request.StartHow.TheVariants.{Fresh}
use Rattle.xa_words.specs.declared.request.EndHow.TheVariants.{Success}
use Rattle.xa_desk.specs.LedgerViews.{LedgerView}
use Rattle.xa_desk.specs.DeskViews.{DeskView, ledger, outstanding}
use Rattle.xa_calls.specs.Asking.{asked_of}
use Rattle.xa_calls.specs.Putting.{Calls}
use Rattle.xa_driver.specs.declared.branch.Branch.{Branch}
use Rattle.xa_driver.specs.Trace.{has_branch_at}
use Rattle.xa_work.specs.declared.in_flight.Flight.{Flight}
use Rattle.xa_work.specs.declared.unit.Change.{Change}
use Rattle.xa_work.specs.Requests.{CallsOp, CollectsOp, PutsAtLast, carries_async}

-- ---- what is asked for

-- the changes at manager m, in their order
abbrev pub changes_at : List Change → ℕ → List Change
changes_at cs m = filter (λ c. c.m == m) cs

-- what a branch's manager is asked for: the thread starts it, makes its changes, and ends it
abbrev pub ops_of : List Change → Branch → List Op
ops_of cs b = Start b.xid Fresh ∷ map (λ c. Add c.key c.delta) (changes_at cs b.m) ++ End b.xid Success ∷ []

-- how many requests that is
abbrev pub steps_in : List Change → ℕ → ℕ
steps_in cs m = 2 + length (changes_at cs m)

-- the same requests, each with the manager
abbrev pub requests_at : List Change → Branch → List (ℕ × Op)
requests_at cs b = map (λ o. (b.m, o)) (ops_of cs b)

-- those of all branches, in the order of the branches
abbrev pub requests_of_branches : List Change → List Branch → List (ℕ × Op)
requests_of_branches cs bs = flat_map (requests_at cs) bs

-- each change is at a branch's manager
abbrev pub are_placed : List Branch → List Change → Bool
are_placed bs cs = list_all (λ c. has_branch_at bs c.m) cs

-- ---- in flight

-- a request that was put, and the answer
pub record Put : Type 0 where
  pub op : Op
  pub flight : Flight

-- these were put, one after the other, and answered so; a full queue was waited for
pub record PutsRequests (wanted : List (ℕ × Op)) (flights : List Flight) (old new : DeskView) : Type 0 where
  pub puts : List Put
  pub wanted_are : map (λ p. (p.flight.manager, p.op)) puts ≡ wanted
  pub flights_are : map (λ p. p.flight) puts ≡ flights
  pub each : Chain (λ p d e. PutsAtLast p.flight.manager p.op p.flight.handle d e) old puts new

-- what was put, and whether it was collected with XA_OK
pub record Got : Type 0 where
  pub flight : Flight
  pub ok : Bool

-- they were collected, one after the other, and whether each with XA_OK
pub record CollectsAll (flights : List Flight) (ok : Bool) (old new : DeskView) : Type 0 where
  pub gots : List Got
  pub flights_are : map (λ g. g.flight) gots ≡ flights
  pub each : Chain (λ g d e. CollectsOp g.flight.manager g.flight.handle g.ok d e) old gots new
  pub all : ok ≡ list_all (λ g. g.ok) gots

-- there is a handle for each request of the work, and each branch's manager takes asynchronous calls
pub record CanFly (cs : List Change) (bs : List Branch) (d : DeskView) : Type 0 where
  pub handles : length (requests_of_branches cs bs) ≤ d.handles - outstanding d.ledgers
  pub carry : list_all (λ b. carries_async d b.m) bs ≡ true

-- all requests were put, and then collected, and whether each answered XA_OK
pub record TriesInFlight (cs : List Change) (bs : List Branch) (ok : Bool) (old new : DeskView) : Type 0 where
  pub begun : DeskView
  pub flights : List Flight
  pub puts : PutsRequests (requests_of_branches cs bs) flights old begun
  pub collects : CollectsAll flights ok begun new

-- ---- in turn

-- a request that was called, and whether it answered XA_OK
pub record CalledOp : Type 0 where
  pub op : Op
  pub ok : Bool

-- these requests were called at manager m, one after the other, and whether each answered XA_OK
pub record CallsOps (m : ℕ) (ops : List Op) (ok : Bool) (old new : DeskView) : Type 0 where
  pub calls : List CalledOp
  pub ops_are : map (λ c. c.op) calls ≡ ops
  pub each : Chain (λ c d e. CallsOp m c.op c.ok d e) old calls new
  pub all : ok ≡ list_all (λ c. c.ok) calls

-- so a branch's
abbrev pub CallsBranch : List Change → Branch → Bool → DeskView → DeskView → Type 0
CallsBranch cs b ok old new = CallsOps b.m (ops_of cs b) ok old new

-- those of all branches were, in their order, and all answered XA_OK; or up to the first branch of which not all did
pub data CallsBranches (cs : List Change) (bs : List Branch) (ok : Bool) (old new : DeskView) : Type 0 where
  completed : ok ≡ true → Chain (λ b d e. CallsBranch cs b true d e) old bs new → CallsBranches cs bs ok old new
  stopped : (before after : List Branch) (b : Branch) (mid : DeskView) → ok ≡ false → bs ≡ before ++ b ∷ after
      → Chain (λ c d e. CallsBranch cs c true d e) old before mid → CallsBranch cs b false mid new
      → CallsBranches cs bs ok old new

-- The work was tried, in flight where it can fly, or in turn, and whether all of its requests answered XA_OK: where
-- they didn't, one of them was refused, or answered with another code.
pub data Tries (cs : List Change) (bs : List Branch) (ok : Bool) (old new : DeskView) : Type 0 where
  in_flight : CanFly cs bs old → TriesInFlight cs bs ok old new → Tries cs bs ok old new
  in_turn : CallsBranches cs bs ok old new → Tries cs bs ok old new

-- ---- what it comes to

-- A branch's work was done: its requests were sent to its manager, one after the other, and each was collected with
-- XA_OK.
pub record HasDoneWork (cs : List Change) (b : Branch) (a a' : LedgerView) : Type 0 where
  pub sent : a'.sent ≡ a.sent ++ ops_of cs b
  pub collected : a'.collected
      ≡ a.collected ++ map (λ n. (n, Done)) (range_with_len (length a.sent) (length (ops_of cs b)))

-- so for all branches, and nothing else was done
pub record HaveWorked (cs : List Change) (bs : List Branch) (old new : List LedgerView) : Type 0 where
  pub each : All (λ b. HasDoneWork cs b (ledger old b.m) (ledger new b.m)) bs
  pub others : (m : ℕ) → 1 ≤ m → has_branch_at bs m ≡ false → ledger new m ≡ ledger old m

-- ---- opening the managers

-- a manager that was opened, and whether it answered XA_OK
pub record OpensAt : Type 0 where
  pub manager : ℕ
  pub ok : Bool

-- each manager of the desk was opened for the thread, by rising number, and whether each answered XA_OK
pub record OpensAll (ok : Bool) (old new : DeskView) : Type 0 where
  pub opens : List OpensAt
  pub managers_are : map (λ o. o.manager) opens ≡ range_with_len 1 (length old.ledgers)
  pub each : Chain (λ o d e. CallsOp o.manager OpenRm o.ok d e) old opens new
  pub all : ok ≡ list_all (λ o. o.ok) opens

-- ---- giving it up

-- a call of XA with these flags was made for the branch
abbrev pub CallsFor : Call → ℕ → Branch → DeskView → DeskView → Type 0
CallsFor c flags b old new = (answer : ℤ) × Calls (asked_of c (Some b.xid) flags) old b.m new answer

-- the work on all branches was ended as failed, and then all were rolled back, one call after the other
pub record GivesUp (bs : List Branch) (old new : DeskView) : Type 0 where
  pub ended : DeskView
  pub ends : Chain (CallsFor call.End TMFAIL) old bs ended
  pub rolls_back : Chain (CallsFor call.Rollback 0) ended bs new
