-- A round of requests as it stands.
use Rattle.std.specs.Prelude.{◌≡◌, ◌≢◌, ◌⊎◌, ℕ, ◌+◌, ◌≤◌, false, Option, None, Some, List, [], ◌∷◌}
use Rattle.std.specs.Prelude.{◌++◌, length, slice_set}
use Rattle.std.specs.List.{slice_get}
use Rattle.std.specs.FinMap as map
use Rattle.std.specs.VecDeque.{deque_capacity}
use Rattle.xa_words.specs.declared.code.Code.{Code}
use Rattle.xa_desk.specs.declared.operation.Operation.{Operation}
use Rattle.xa_desk.specs.DeskViews.{DeskView, TicketView, IsOut, Owns, ledger, outstanding}
use Rattle.xa_desk.specs.Tickets.{LeavesTickets}
use Rattle.xa_driver.specs.declared.round.Round.{Round}
use Rattle.xa_driver.specs.Asks.{Ask, AllCanAsk, AreRising, BeginsAsk, EachAsk, EachBegan, EndsAsk, KeepsDesk}
use Rattle.xa_driver.specs.Asks.{LeavesOwned}
use Rattle.xa_driver.specs.Asks.{among_asks}

-- ---- where it stands

-- A round as it stands at a desk: of its requests the first were collected, those after them are in flight, and the
-- rest is to be sent. Nothing else was done since it began.
pub record IsUnderWay (r : Round) (now : DeskView) : Type 0 where
  pub done : List Ask
  pub flying : List Ask
  pub rest : List Ask
  pub parts : r.asks.items ≡ done ++ (flying ++ rest)
  pub counted : length done ≡ r.collected
  pub answered : EachAsk done r.before.value.ledgers now.ledgers
  pub in_flight : EachBegan flying r.tickets.items r.before.value.ledgers now
  pub others : (m : ℕ) → 1 ≤ m → among_asks (done ++ flying) m ≡ false
      → ledger now.ledgers m ≡ ledger r.before.value.ledgers m
  pub managers : length now.ledgers ≡ length r.before.value.ledgers
  pub keeps : KeepsDesk r.before.value now
  -- its managers rise, and each could take one more request as it began, with a handle for each
  pub rising : AreRising 0 r.asks.items
  pub can : AllCanAsk r.asks.items r.before.value.ledgers
  pub free : outstanding r.before.value.ledgers + length r.asks.items ≤ r.before.value.handles
  pub fewer : outstanding now.ledgers ≤ outstanding r.before.value.ledgers + (length done + length flying)
  -- there is room for all tickets
  pub room : length r.asks.items ≤ deque_capacity r.tickets

-- how many requests were sent
abbrev pub sent_count : Round → ℕ
sent_count r = r.collected + length r.tickets.items

-- all were sent, and all were collected
abbrev pub AllAreSent : Round → Type 0
AllAreSent r = length r.asks.items ≤ sent_count r

abbrev pub AllAreCollected : Round → Type 0
AllAreCollected r = length r.asks.items ≤ r.collected

-- what is asked next, if anything is, and what is collected next
abbrev pub next_ask : Round → Option Ask
next_ask r = slice_get r.asks.items (sent_count r)

abbrev pub next_ticket : Round → Option (Option TicketView)
next_ticket r = slice_get r.tickets.items 0

-- ---- what is done of it

-- a round of these requests at the desk, of which none is sent
pub record BeginsRound (asks : List Ask) (desk : DeskView) (r : Round) : Type 0 where
  pub under_way : IsUnderWay r desk
  pub before : r.before.value ≡ desk
  pub asks_are : r.asks.items ≡ asks
  pub none : sent_count r ≡ 0

-- nothing changed
pub record Stays (old new : Round) (desk now : DeskView) : Type 0 where
  pub round : new ≡ old
  pub still : now ≡ desk

-- the request was sent
pub record SendsAsk (k : Ask) (old new : Round) (desk now : DeskView) : Type 0 where
  pub ticket : Option TicketView
  pub began : BeginsAsk k desk now ticket
  pub tickets : new.tickets.items ≡ old.tickets.items ++ ticket ∷ []
  pub left : LeavesTickets desk now
  pub asks : new.asks ≡ old.asks
  pub collected : new.collected ≡ old.collected

-- the ask with the code that it was answered
abbrev pub with_code : Ask → Option Code → Ask
with_code k code = record { manager = k.manager; xid = k.xid; vote = k.vote; op = k.op; code = code }

-- the request that is longest in flight was collected
pub record CollectsAsk (ticket : Option TicketView) (old new : Round) (desk now : DeskView) : Type 0 where
  pub ask : Ask
  pub place : slice_get old.asks.items old.collected ≡ Some ask
  pub code : Option Code
  pub ended : EndsAsk ask desk now ticket code
  pub asks : new.asks.items ≡ slice_set old.asks.items old.collected (with_code ask code)
  pub tickets : old.tickets.items ≡ ticket ∷ new.tickets.items
  pub left : LeavesOwned desk now ticket
  pub collected : new.collected ≡ old.collected + 1

-- ---- between two rounds

-- all that was asked was collected, and the same managers may be asked more in the same order
pub record IsAtRest (r : Round) : Type 0 where
  pub rising : AreRising 0 r.asks.items
  pub tickets : r.tickets.items ≡ []
  pub room : length r.asks.items ≤ deque_capacity r.tickets

-- each manager of the round can take one more request, and the desk has a handle for each
pub record MayAsk (r : Round) (desk : DeskView) : Type 0 where
  pub can : AllCanAsk r.asks.items desk.ledgers
  pub free : outstanding desk.ledgers + length r.asks.items ≤ desk.handles

-- ---- tickets that are left

-- the tickets are of other operations than this one
abbrev pub AreOtherTickets : Operation → List (Option TicketView) → Type 0
AreOtherTickets o [] = Unit {0}
AreOtherTickets o (None ∷ rs) = AreOtherTickets o rs
AreOtherTickets o (Some t ∷ rs) = (t.operation ≢ o) × AreOtherTickets o rs

-- the desk owns each of the tickets, and each is of another operation
abbrev pub OwnsAll : DeskView → List (Option TicketView) → Type 0
OwnsAll d [] = Unit {0}
OwnsAll d (None ∷ rs) = OwnsAll d rs
OwnsAll d (Some t ∷ rs) = Owns d t × (AreOtherTickets t.operation rs × OwnsAll d rs)

-- one of the tickets is the operation's
abbrev pub IsAmong : Operation → List (Option TicketView) → Type 0
IsAmong o [] = ⊥
IsAmong o (None ∷ rs) = IsAmong o rs
IsAmong o (Some t ∷ rs) = (t.operation ≡ o) ⊎ IsAmong o rs

-- what was kept under a number still is
abbrev pub LeavesKept : DeskView → DeskView → Type 0
LeavesKept old new = (k : ℕ) (o : Operation) → map.get old.kept k ≡ Some o → map.get new.kept k ≡ Some o

-- every other ticket that was owned still is
abbrev pub LeavesOtherTickets : List (Option TicketView) → DeskView → DeskView → Type 0
LeavesOtherTickets rs old new = (t : TicketView) → Owns old t → (IsAmong t.operation rs → ⊥) → Owns new t

-- each operation that is outstanding is kept under a number, or has one of the tickets
abbrev pub AllKeptBut : List (Option TicketView) → DeskView → Type 0
AllKeptBut rs d = (o : Operation) → IsOut d.ledgers o → ((k : ℕ) × (map.get d.kept k ≡ Some o)) ⊎ IsAmong o rs

-- The operations of these tickets were kept under handles that were free, and nothing else was done.
pub record LeavesInFlight (rs : List (Option TicketView)) (old new : DeskView) : Type 0 where
  pub lists : new.ledgers ≡ old.ledgers
  pub events : new.events ≡ old.events
  pub stays : LeavesKept old new
  pub only : (k : ℕ) (o : Operation) → map.get new.kept k ≡ Some o → (map.get old.kept k ≡ Some o) ⊎ IsAmong o rs
  pub others : LeavesOtherTickets rs old new
