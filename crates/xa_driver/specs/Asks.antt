-- What requests to several managers add to a desk's lists.
use Rattle.std.specs.Prelude.{◌≡◌, ℕ, ◌<◌, ◌≤◌, Bool, true, false, ◌==◌, if◌then◌else◌, Option, None, Some, List}
use Rattle.std.specs.Prelude.{[]}
use Rattle.std.specs.Prelude.{◌∷◌, ◌++◌, length}
use Rattle.std.specs.List.{All, list_any}
use Rattle.std.specs.FinMap as map
use Rattle.xa_words.specs.declared.code.Code.{Code}
use Rattle.xa_words.specs.declared.code.Code.TheVariants.{RmFail}
use Rattle.xa_words.specs.declared.request.Op.{Op}
use Rattle.xa_desk.specs.LedgerViews.{LedgerView, learnt_shut, with_sent, with_collected}
use Rattle.xa_desk.specs.declared.event.Event.TheVariants.{Sent}
use Rattle.xa_desk.specs.declared.operation.Operation.{Operation}
use Rattle.xa_desk.specs.DeskViews.{DeskView, TicketView, IsKnown, IsOut, Owns, ledger, after_sent, next_operation}
use Rattle.xa_desk.specs.DeskViews.{outstanding, ticket_of}
use Rattle.xa_desk.specs.GoingOn.{GoesOn}
use Rattle.xa_desk.specs.Looks.{Collects}
use Rattle.xa_desk.specs.Kept.{AllKept}
use Rattle.xa_desk.specs.Tickets.{LeavesOthers, LeavesTickets}
use Rattle.xa_words.specs.Xid.{XidName}
use Rattle.xa_words.specs.declared.request.Op.TheVariants.{Prepare, Commit, Rollback, Forget}
use Rattle.xa_driver.specs.declared.ask.Wanted.{Wanted}
use Rattle.xa_driver.specs.declared.ask.Wanted.TheVariants as wanted

-- a manager and the branch that it is asked for, the branch's vote, what the manager is asked, if anything, and its
-- code
pub record Ask : Type 0 where
  pub manager : ℕ
  pub xid : XidName
  pub vote : Code
  pub op : Option Op
  pub code : Option Code

-- what is wanted of a branch as a request; it is committed in the second of two phases
abbrev pub op_wanted : XidName → Wanted → Op
op_wanted x wanted.Prepare = Prepare x
op_wanted x wanted.Commit = Commit x false
op_wanted x wanted.Rollback = Rollback x
op_wanted x wanted.Forget = Forget x

-- and then collected, under the number that it was sent with
abbrev pub asked : LedgerView → Option Op → Option Code → LedgerView
asked a None code = a
asked a (Some op) None = a
asked a (Some op) (Some code) = if learnt_shut a then a else with_collected (with_sent a op) (length a.sent) code

-- what is asked has a code; where nothing was sent it is XAER_RMFAIL
abbrev pub IsAnswered : LedgerView → Option Op → Option Code → Type 0
IsAnswered a None code = code ≡ None
IsAnswered a (Some op) None = ⊥
IsAnswered a (Some op) (Some code) = learnt_shut a ≡ true → code ≡ RmFail

-- the request and its collection took a to a'
pub record AskTrace (op : Option Op) (code : Option Code) (a a' : LedgerView) : Type 0 where
  pub answered : IsAnswered a op code
  pub trace : a' ≡ asked a op code

-- each request took its manager's ledger from one list to that of the other
abbrev pub EachAsk : List Ask → List LedgerView → List LedgerView → Type 0
EachAsk [] at at' = Unit {0}
EachAsk (k ∷ ks) at at' = AskTrace k.op k.code (ledger at k.manager) (ledger at' k.manager) × EachAsk ks at at'

-- one of the requests is to the manager
abbrev pub among_asks : List Ask → ℕ → Bool
among_asks ks m = list_any (λ k. k.manager == m) ks

-- the requests took the lists from at to at', and nothing else did
pub record Asks (ks : List Ask) (at at' : List LedgerView) : Type 0 where
  pub each : EachAsk ks at at'
  pub others : (m : ℕ) → 1 ≤ m → among_asks ks m ≡ false → ledger at' m ≡ ledger at m
  pub managers : length at' ≡ length at

-- the same but for the code
pub record IsSameAsk (j k : Ask) : Type 0 where
  pub manager : k.manager ≡ j.manager
  pub xid : k.xid ≡ j.xid
  pub vote : k.vote ≡ j.vote
  pub op : k.op ≡ j.op

-- the same managers are asked the same
abbrev pub SameAsks : List Ask → List Ask → Type 0
SameAsks [] [] = Unit {0}
SameAsks [] (k ∷ ks) = ⊥
SameAsks (j ∷ js) [] = ⊥
SameAsks (j ∷ js) (k ∷ ks) = IsSameAsk j k × SameAsks js ks

-- each manager is after those before it
abbrev pub AreRising : ℕ → List Ask → Type 0
AreRising lo [] = Unit {0}
AreRising lo (k ∷ ks) = (lo < k.manager) × AreRising k.manager ks

-- the manager is known, and the plan has room for one more request to it
pub record CanAsk (at : List LedgerView) (m : ℕ) : Type 0 where
  pub known : IsKnown at m
  pub room : length (ledger at m).sent < (ledger at m).plan

-- so for each request
abbrev pub AllCanAsk : List Ask → List LedgerView → Type 0
AllCanAsk [] at = Unit {0}
AllCanAsk (k ∷ ks) at = CanAsk at k.manager × AllCanAsk ks at

-- what a desk keeps whatever it sends and collects: it goes on, and what is kept stays
pub record KeepsDesk (old new : DeskView) : Type 0 where
  pub goes_on : GoesOn old new
  pub kept : new.kept ≡ old.kept

-- every operation that was outstanding still is
abbrev pub LeavesOutstanding : List LedgerView → List LedgerView → Type 0
LeavesOutstanding at at' = (o : Operation) → IsOut at o → IsOut at' o

-- nothing is asked, or the manager is learnt to be shut
abbrev pub IsUnsent : LedgerView → Option Op → Type 0
IsUnsent a None = Unit {0}
IsUnsent a (Some op) = learnt_shut a ≡ true

-- the code that counts where nothing was sent
abbrev pub unsent_code : Option Op → Option Code
unsent_code None = None
unsent_code (Some op) = Some RmFail

-- the request was sent, and the desk owns its ticket
pub record IsSending (k : Ask) (old new : DeskView) (t : TicketView) : Type 0 where
  pub op : Op
  pub wanted : k.op ≡ Some op
  pub open_ : learnt_shut (ledger old.ledgers k.manager) ≡ false
  pub ticket : t ≡ ticket_of old (next_operation old.ledgers k.manager)
  pub owned : Owns new t
  pub sent : new.ledgers ≡ after_sent old.ledgers k.manager op
  pub event : new.events ≡ old.events ++ Sent (next_operation old.ledgers k.manager) ∷ []
  pub keeps : KeepsDesk old new

-- what sending a request does: nothing, and no ticket, or it is sent
abbrev pub BeginsAsk : Ask → DeskView → DeskView → Option TicketView → Type 0
BeginsAsk k old new None = (new ≡ old) × IsUnsent (ledger old.ledgers k.manager) k.op
BeginsAsk k old new (Some t) = IsSending k old new t

-- what collecting it does: its code is the one collected, or the one that counts where nothing was sent
abbrev pub EndsAsk : Ask → DeskView → DeskView → Option TicketView → Option Code → Type 0
EndsAsk k old new None code = (new ≡ old) × (code ≡ unsent_code k.op)
EndsAsk k old new (Some t) code = (c : Code) × ((code ≡ Some c) × Collects old new t.operation c)

-- the desk owns the ticket, if there is one
abbrev pub Owning : DeskView → Option TicketView → Type 0
Owning d None = Unit {0}
Owning d (Some t) = Owns d t

-- the request was sent since the ledgers were `at`, and the desk owns its ticket
pub record IsInFlight (k : Ask) (at : List LedgerView) (d : DeskView) (t : TicketView) : Type 0 where
  pub op : Op
  pub wanted : k.op ≡ Some op
  pub open_ : learnt_shut (ledger at k.manager) ≡ false
  pub operation : t.operation ≡ next_operation at k.manager
  pub owned : Owns d t
  pub sent : ledger d.ledgers k.manager ≡ with_sent (ledger at k.manager) op

-- the request is in flight, or nothing was sent
abbrev pub HasBegun : Ask → Option TicketView → List LedgerView → DeskView → Type 0
HasBegun k None at d = IsUnsent (ledger at k.manager) k.op × (ledger d.ledgers k.manager ≡ ledger at k.manager)
HasBegun k (Some t) at d = IsInFlight k at d t

-- so for each request and its ticket
abbrev pub EachBegan : List Ask → List (Option TicketView) → List LedgerView → DeskView → Type 0
EachBegan [] [] at d = Unit {0}
EachBegan [] (r ∷ rs) at d = ⊥
EachBegan (k ∷ ks) [] at d = ⊥
EachBegan (k ∷ ks) (r ∷ rs) at d = HasBegun k r at d × EachBegan ks rs at d

-- ---- what became of requests so far

-- What was done of a request: it wasn't sent, or it was and isn't collected, or it was sent, if it was to be, and
-- collected.
pub data IsBegun (op : Option Op) (a a' : LedgerView) : Type 0 where
  unasked : a' ≡ a → IsBegun op a a'
  in_flight : (o : Op) → op ≡ Some o → learnt_shut a ≡ false → a' ≡ with_sent a o → IsBegun op a a'
  collected : (code : Option Code) → AskTrace op code a a' → IsBegun op a a'

-- Of the requests some were sent, and of these some collected; nothing else was done.
pub record HaveComeSoFar (ks : List Ask) (at now : List LedgerView) : Type 0 where
  pub each : All (λ k. IsBegun k.op (ledger at k.manager) (ledger now k.manager)) ks
  pub others : (m : ℕ) → 1 ≤ m → among_asks ks m ≡ false → ledger now m ≡ ledger at m
  pub managers : length now ≡ length at

-- ---- tickets

-- the desk owns what it owned, but for the ticket, if there was one
abbrev pub LeavesOwned : DeskView → DeskView → Option TicketView → Type 0
LeavesOwned old new None = new ≡ old
LeavesOwned old new (Some t) = LeavesOthers old new t.operation

-- the operation of the ticket, if there is one, was kept under a number that was free
abbrev pub KeepsTicket : DeskView → DeskView → Option TicketView → Type 0
KeepsTicket old new None = new ≡ old
KeepsTicket old new (Some t) =
    (n : ℕ) × ((map.get old.kept n ≡ None) × (new ≡ record old { kept = map.insert old.kept n t.operation }))

-- What requests that were collected leave of a desk: it goes on, what is kept under its handles stays, and so does all
-- that was outstanding, with its tickets; and as many handles are free.
pub record KeepsTheRest (old new : DeskView) : Type 0 where
  pub keeps : KeepsDesk old new
  pub kept : AllKept old → AllKept new
  pub left : LeavesOutstanding old.ledgers new.ledgers
  pub tickets : LeavesTickets old new
  pub free : outstanding new.ledgers ≡ outstanding old.ledgers
