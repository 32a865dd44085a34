-- What contracts see of a desk, and the words for what stands in it.
use Rattle.std.specs.Prelude.{◌≡◌, ◌≢◌, not, ℕ, ◌-◌, ◌<◌, ◌≤◌, nat_lt, nat_le, Bool, false, ◌&&◌, ◌||◌, ◌==◌, is_some}
use Rattle.std.specs.Prelude.{if◌then◌else◌, List, [], ◌∷◌, ◌++◌, length, Option, Some, None, IsSome, slice_index_or}
use Rattle.std.specs.Prelude.{slice_set, true, refl}
use Rattle.std.specs.List.{sum_by}
use Rattle.std.specs.Option.{option_or}
use Rattle.std.specs.Ordering.{nat_cmp}
use Rattle.std.specs.FinMap as finmap
use Rattle.std.specs.Coded.{Coded, code_by, coded×, coded_ℕ}
use Rattle.xa_base.specs.declared.limits.TheConstants.{MOST_HANDLES}
use Rattle.xa_words.specs.declared.request.Op.{Op}
use Rattle.xa_words.specs.declared.code.Code.{Code}
use Rattle.xa_words.specs.declared.request.Request.{Request}
use Rattle.xa_words.specs.declared.request.Completion.{Completion}
use Rattle.xa_lane.specs.Ends.{Sending, Receiving}
use Rattle.xa_desk.specs.declared.operation.Operation.{Operation}
use Rattle.xa_desk.specs.declared.event.Event.{Event}
use Rattle.xa_desk.specs.declared.event.Event.TheVariants.{Collected}
use Rattle.xa_desk.specs.LedgerViews.{LedgerView, new_ledger, learnt_shut, is_collected, with_sent, with_collected}
use Rattle.xa_desk.specs.declared.refused.Refused.{Refused}
use Rattle.xa_desk.specs.declared.refused.Refused.TheVariants.{NoSuchManager, Shut, TooMany, Spent}

-- the thread, how many handles it has, its ledger with each manager, what was sent and collected in its order over all
-- managers, which operation is kept under which number, the completions that were the first for an outstanding
-- operation as they were taken, how many of them there were at the last quiet moment; its ends of the lanes to the
-- managers, that to manager m at place m - 1; and its end of the lane that completions come by, which counts the quiet
-- moments
pub record DeskView : Type 0 where
  pub thread : ℕ
  pub handles : ℕ
  pub ledgers : List LedgerView
  pub events : List Event
  pub kept : finmap.FinMap nat_cmp Operation
  pub drained : List Completion
  pub drained_then : ℕ
  pub requests : List (Sending Request)
  pub completions : Receiving Completion

-- the opening that a desk is of, which its lanes' names tell
abbrev pub opening_of : DeskView → ℕ
opening_of d = d.completions.lane.opening

-- what contracts see of a ticket
pub record TicketView : Type 0 where
  pub opening : ℕ
  pub thread : ℕ
  pub operation : Operation

-- operations, maps of them and tickets as data
abbrev pub operation_code : Coded Operation
operation_code =
    code_by (ℕ × ℕ) (coded× coded_ℕ coded_ℕ) (λ o. (o.manager, o.number)) (λ p. record { manager = p.0; number = p.1 })
    (λ _. refl)

abbrev pub kept_code : Coded (finmap.FinMap nat_cmp Operation)
kept_code = finmap.code coded_ℕ operation_code

abbrev pub ticket_code : Coded TicketView
ticket_code =
    code_by (ℕ × (ℕ × Operation)) (coded× coded_ℕ (coded× coded_ℕ operation_code))
    (λ t. (t.opening, (t.thread, t.operation))) (λ p. record { opening = p.0; thread = p.1.0; operation = p.1.1 })
    (λ _. refl)

-- the ticket that a desk gives for an operation
abbrev pub ticket_of : DeskView → Operation → TicketView
ticket_of d operation = record { opening = opening_of d; thread = d.thread; operation = operation }

abbrev pub operation_of : Completion → Operation
operation_of c = record { manager = c.manager; number = c.number }

-- ---- the ledgers: managers are numbered from 1

-- the manager is one of the desk's
pub record IsKnown (at : List LedgerView) (m : ℕ) : Type 0 where
  pub positive : 1 ≤ m
  pub within : m ≤ length at

-- the same as a test
abbrev pub is_known : List LedgerView → ℕ → Bool
is_known at m = nat_le 1 m && nat_le m (length at)

abbrev pub no_ledger : LedgerView
no_ledger = new_ledger false 0

-- the ledger with manager m
abbrev pub ledger : List LedgerView → ℕ → LedgerView
ledger at m = slice_index_or at (m - 1) no_ledger

abbrev pub put_ledger : List LedgerView → ℕ → LedgerView → List LedgerView
put_ledger at m a = slice_set at (m - 1) a

-- one more request was sent to the manager
abbrev pub after_sent : List LedgerView → ℕ → Op → List LedgerView
after_sent at m op = put_ledger at m (with_sent (ledger at m) op)

-- the operation was collected with this code
abbrev pub after_collected : List LedgerView → Operation → Code → List LedgerView
after_collected at o code = put_ledger at o.manager (with_collected (ledger at o.manager) o.number code)

-- the operation was completed with this code
abbrev pub completed : DeskView → Operation → Code → DeskView
completed d o code =
    record d { ledgers = after_collected d.ledgers o code; events = d.events ++ Collected o ∷ [] }

-- the operation that the next request to the manager will be
abbrev pub next_operation : List LedgerView → ℕ → Operation
next_operation at m = record { manager = m; number = length (ledger at m).sent }

-- how many planned requests are left for the manager; 0 for no manager
abbrev pub room_at : List LedgerView → ℕ → ℕ
room_at at m = if (m == 0) || nat_lt (length at) m then 0 else ((ledger at m).plan - length (ledger at m).sent)

-- what was sent to the manager, and what was collected from it; nothing for no manager
abbrev pub sent_to : List LedgerView → ℕ → List Op
sent_to at m = if is_known at m then (ledger at m).sent else []

abbrev pub collected_from : List LedgerView → ℕ → List (ℕ × Code)
collected_from at m = if is_known at m then (ledger at m).collected else []

-- ---- what is outstanding

-- the operation was sent
pub record IsSent (at : List LedgerView) (o : Operation) : Type 0 where
  pub known : IsKnown at o.manager
  pub sent : o.number < length (ledger at o.manager).sent

-- the operation is outstanding: it was sent and not collected
pub record IsOut (at : List LedgerView) (o : Operation) : Type 0 where
  pub known : IsKnown at o.manager
  pub sent : o.number < length (ledger at o.manager).sent
  pub open_ : is_collected (ledger at o.manager) o.number ≡ false

-- how many operations are outstanding
abbrev pub outstanding : List LedgerView → ℕ
outstanding at = sum_by (λ a. length a.sent - length a.collected) at

-- no number has the operation
abbrev pub IsLoose : DeskView → Operation → Type 0
IsLoose d o = (k : ℕ) → finmap.get d.kept k ≢ Some o

-- the ticket is of the desk's opening and thread, and its operation is outstanding and not kept
pub record Owns (d : DeskView) (t : TicketView) : Type 0 where
  pub opening : t.opening ≡ opening_of d
  pub thread : t.thread ≡ d.thread
  pub out : IsOut d.ledgers t.operation
  pub loose : IsLoose d t.operation

-- ---- what was drained

abbrev pub is_completed_by : Operation → Completion → Bool
is_completed_by o c = (o.manager == c.manager) && (o.number == c.number)

-- the code of the completion that was drained for the operation
abbrev pub drained_code : Operation → List Completion → Option Code
drained_code o [] = None
drained_code o (c ∷ cs) = if is_completed_by o c then Some c.code else drained_code o cs

-- ---- what is kept, and under which numbers

-- the number of a handle: positive, and no greater than a thread may have handles
pub record IsHandle (number : ℕ) : Type 0 where
  pub positive : 0 < number
  pub limit : number ≤ MOST_HANDLES

-- the least positive number that isn't kept
pub record IsLeastFree (kept : finmap.FinMap nat_cmp Operation) (number : ℕ) : Type 0 where
  pub positive : 0 < number
  pub free : finmap.get kept number ≡ None
  pub least : (k : ℕ) → 0 < k → k < number → IsSome (finmap.get kept k)

-- an operation of manager m, or any operation where m is 0
abbrev pub is_asked : ℕ → Operation → Bool
is_asked m o = (m == 0) || (o.manager == m)

abbrev pub asked_at : ℕ → Option Operation → Bool
asked_at m None = false
asked_at m (Some o) = is_asked m o

abbrev pub ready_with : List Completion → ℕ → Option Operation → Bool
ready_with drained m None = false
ready_with drained m (Some o) = is_asked m o && is_some (drained_code o drained)

-- an operation of m is kept under the number
abbrev pub keeps_at : DeskView → ℕ → ℕ → Bool
keeps_at d m k = asked_at m (finmap.get d.kept k)

-- an operation of m is kept under the number, and its completion was drained
abbrev pub ready_at : DeskView → ℕ → ℕ → Bool
ready_at d m k = ready_with d.drained m (finmap.get d.kept k)

-- the least number that passes
pub record IsLeast (passes : ℕ → Bool) (k : ℕ) : Type 0 where
  pub passes_ : passes k ≡ true
  pub least : (j : ℕ) → j < k → passes j ≡ false

-- ---- what a desk refuses

-- why nothing may be sent to manager m
abbrev pub reach_refusal : DeskView → ℕ → Option Refused
reach_refusal d m =
    if not (is_known d.ledgers m) then Some NoSuchManager
    else (if learnt_shut (ledger d.ledgers m) then Some Shut
    else None)

-- why no operation may be begun that takes a handle: none is free
abbrev pub handle_refusal : DeskView → Option Refused
handle_refusal d = if nat_le d.handles (outstanding d.ledgers) then Some TooMany else None

-- why no further request may be sent to manager m: no planned one is left
abbrev pub spent_refusal : DeskView → ℕ → Option Refused
spent_refusal d m = if room_at d.ledgers m == 0 then Some Spent else None

-- why a request may not be sent to a manager that is reached: the first of the two
abbrev pub room_refusal : DeskView → ℕ → Option Refused
room_refusal d m = option_or (handle_refusal d) (spent_refusal d m)

-- why a request may not be sent, a full lane aside: the first of these
abbrev pub submit_refusal : DeskView → ℕ → Option Refused
submit_refusal d m = option_or (reach_refusal d m) (room_refusal d m)

-- the same for a synchronous call, which has a slot beyond the handles
abbrev pub call_refusal : DeskView → ℕ → Option Refused
call_refusal d m = option_or (reach_refusal d m) (spent_refusal d m)
