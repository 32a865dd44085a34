-- How a desk goes together with its ends of lanes.
use Rattle.std.specs.Prelude.{◌≡◌, ℕ, zero, suc, ◌+◌, ◌-◌, Bool, List, [], ◌∷◌, ◌++◌, length, map, slice_get, Some}
use Rattle.std.specs.List.{All}
use Rattle.std.specs.FinMap as finmap
use Rattle.xa_words.specs.declared.request.Op.{Op}
use Rattle.xa_words.specs.declared.code.Code.{Code}
use Rattle.xa_words.specs.declared.request.Request.{Request}
use Rattle.xa_words.specs.declared.request.Completion.{Completion}
use Rattle.xa_lane.specs.declared.parcel.Parcel.{Parcel}
use Rattle.xa_lane.specs.Ends.{Sending, Receiving, somes}
use Rattle.xa_lane.specs.Senders.{at_place, with_item, with_full, sent_at}
use Rattle.xa_desk.specs.LedgerViews.{LedgerView, new_ledger}
use Rattle.xa_desk.specs.DeskViews.{DeskView, IsKnown, ledger, after_sent, drained_code, next_operation}
use Rattle.xa_desk.specs.declared.event.Event.TheVariants.{Sent}

-- ---- sending

-- the thread's next request to manager m
abbrev pub next_request : DeskView → ℕ → Op → Request
next_request d m op = record { thread = d.thread; number = length (ledger d.ledgers m).sent; op = op }

-- the request was sent: it is the next of the ledger, and the end of the lane to m sent it
abbrev pub submitted : DeskView → ℕ → Op → DeskView
submitted d m op =
    record d {
      ledgers = after_sent d.ledgers m op;
      events = d.events ++ Sent (next_operation d.ledgers m) ∷ [];
      requests = at_place (m - 1) (with_item (next_request d m op)) d.requests;
    }

-- the lane to manager m was found full, which its end counts
abbrev pub after_full : DeskView → ℕ → DeskView
after_full d m = record d { requests = at_place (m - 1) with_full d.requests }

-- the same n times
abbrev pub after_fulls : ℕ → DeskView → ℕ → DeskView
after_fulls zero d m = d
after_fulls (suc n) d m = after_full (after_fulls n d m) m

-- ---- what the lanes say of a desk

-- the requests of thread t for these operations, numbered from n
abbrev pub numbered : ℕ → ℕ → List Op → List Request
numbered t n [] = []
numbered t n (op ∷ ops) = record { thread = t; number = n; op = op } ∷ numbered t (suc n) ops

-- the completions among what was taken, in order
abbrev pub arrived : List (Parcel Completion) → List Completion
arrived taken = somes (map (λ x. x.item) taken)

-- some of the elements, in their order
pub data IsPartOf {A : Type 0} : List A → List A → Type 0 where
  nothing : IsPartOf [] []
  with_last : (xs ys zs : List A) (y : A) → IsPartOf xs ys → zs ≡ ys ++ y ∷ [] → IsPartOf (xs ++ y ∷ []) zs
  without_last : (xs ys zs : List A) (y : A) → IsPartOf xs ys → zs ≡ ys ++ y ∷ [] → IsPartOf xs zs

-- the sender that thread t is of the lane to manager m, in this opening
pub record IsEndTo (t opening m : ℕ) (s : Sending Request) : Type 0 where
  pub sender : s.index + 1 ≡ t
  pub opening_ : s.lane.opening ≡ opening
  pub lane : s.lane.index ≡ m

-- the same of the lanes to each manager, by rising manager
abbrev pub AreEndsTo : ℕ → ℕ → List (Sending Request) → Type 0
AreEndsTo t opening requests = (k : ℕ) (s : Sending Request) → slice_get requests k ≡ Some s
    → IsEndTo t opening (k + 1) s

-- the ends of thread t: of the lanes to so many managers, and of the lane of its completions, on which each manager
-- sends
pub record AreEnds (t managers : ℕ) (requests : List (Sending Request))
    (completions : Receiving Completion) : Type 0 where
  pub number : length requests ≡ managers
  pub to : AreEndsTo t completions.lane.opening requests
  pub lane : completions.lane.index ≡ t
  pub senders : completions.senders ≡ managers

-- the code was drained for the request of manager m
abbrev pub WasDrained : List Completion → ℕ → ℕ × Code → Type 0
WasDrained drained m p = drained_code (record { manager = m; number = p.0 }) drained ≡ Some p.1

-- a desk's ledgers and what it drained say what its ends of lanes do: what was sent to a manager is what the end of
-- the lane to it sent, what was drained are completions that were taken, and what was collected was drained
pub record IsTied (t : ℕ) (at : List LedgerView) (drained : List Completion) (requests : List (Sending Request))
    (completions : Receiving Completion) : Type 0 where
  pub ends : AreEnds t (length at) requests completions
  pub sent : (m : ℕ) → IsKnown at m → sent_at (m - 1) requests ≡ numbered t 0 (ledger at m).sent
  pub drained_ : IsPartOf drained (arrived completions.taken)
  pub collected : (m : ℕ) → IsKnown at m → All (WasDrained drained m) (ledger at m).collected

abbrev pub IsDesk : DeskView → Type 0
IsDesk d = IsTied d.thread d.ledgers d.drained d.requests d.completions

-- ---- a desk that has done nothing

-- what a desk is made with: the thread, how many handles and planned requests to each manager it has, and of each
-- manager whether it takes asynchronous calls
pub record PartsView : Type 0 where
  pub thread : ℕ
  pub handles : ℕ
  pub plan : ℕ
  pub use_async : List Bool

-- nothing was sent and nothing was taken
pub record AreUnused (requests : List (Sending Request)) (completions : Receiving Completion) : Type 0 where
  pub sent : All (λ s. s.sent ≡ []) requests
  pub taken : completions.taken ≡ []

abbrev pub new_ledgers : ℕ → List Bool → List LedgerView
new_ledgers plan use_async = map (λ carries. new_ledger carries plan) use_async

abbrev pub new_desk : PartsView → List (Sending Request) → Receiving Completion → DeskView
new_desk p requests completions = record {
  thread = p.thread;
  handles = p.handles;
  ledgers = new_ledgers p.plan p.use_async;
  events = [];
  kept = finmap.empty;
  drained = [];
  drained_then = 0;
  requests = requests;
  completions = completions;
}
