-- What a night comes to: what a day left in doubt is resolved by the records of all logs.
use Rattle.std.specs.Prelude.{◌≡◌, ℕ, ◌≤◌, Bool, true, false, if◌then◌else◌, IfErr, IfOk, List, [], ◌∷◌, Vec, map}
use Rattle.std.specs.Global.{Global}
use Rattle.std.specs.List.{All}
use Rattle.xa_base.specs.Lists.{IsUpTo}
use Rattle.xa_desk.specs.DeskViews.{DeskView}
use Rattle.xa_switch.specs.declared.plan.Again.{Again}
use Rattle.xa_switch.specs.Reopening.{managers_in, reopening}
use Rattle.xa_switch.specs.OfPlans.{IsOf}
use Rattle.xa_switch.specs.Recovery.{IsScanOf}
use Rattle.xa_switch.specs.Settled.{Settling, IsSettled, sent}
use Rattle.xa_scan.specs.Left.{ScanView, left_at}
use Rattle.xa_log.specs.Log.{LogState}
use Rattle.xa_driver.specs.declared.resolved.Outcome.{Outcome}
use Rattle.xa_driver.specs.Resolving.{IsTraceOfResolve, MayResolve, requests_for}
use Rattle.laws_commit.specs.Calls.{ResolveCall}
use Rattle.laws_commit.specs.Resolution.{Continues}
use Rattle.xa_crew_again.specs.declared.again.WithScan.{WithScan}
use Rattle.xa_crew.specs.declared.run.Ran.{Ran}
use Rattle.xa_crew_again.specs.Again.{HasRunAgain}
use Rattle.demo_bank.specs.declared.teller.Teller.{Teller}
use Rattle.demo_bank_days.specs.Days.{IsResolvedBy, records_of_logs}
use Rattle.demo_bank_days.specs.declared.night.Night.{Night}
use Rattle.demo_bank_days.specs.declared.night.Resolver.{Resolver}
use Rattle.demo_bank_days.specs.declared.night.Unresolved.{Unresolved}
use Rattle.demo_bank_days.specs.declared.night.Unresolved.TheVariants.{BadNumbers, NoMemory, NoRoom}
use Rattle.demo_bank_days.specs.declared.night.Unresolved.TheVariants.{TellerWantsMemory, UnknownLog}

-- What each reason says why nothing was resolved, where `Wants` says that a teller wants memory, `Known` that all logs
-- are known, `Room` that there is room for it, and `Good` that the stores may be opened again. Of refused memory nobody
-- can say more.
abbrev pub Excuses : Type 0 → Type 0 → Type 0 → Type 0 → Unresolved → Type 0
Excuses Wants Known Room Good TellerWantsMemory = Wants
Excuses Wants Known Room Good UnknownLog = Known → ⊥
Excuses Wants Known Room Good NoRoom = Room → ⊥
Excuses Wants Known Room Good BadNumbers = Good → ⊥
Excuses Wants Known Room Good NoMemory = Unit {0}

-- these numbers have room, at each store, for the requests that it takes to resolve what was left there
abbrev pub HasRoomToResolve : Settling → Again → Type 0
HasRoomToResolve s again =
    (z : ScanView) → IsScanOf s z → (m : ℕ) → IsUpTo (managers_in s) m → requests_for (left_at z m) ≤ again.requests

-- The tellers and the scan stay. Either what it lists is what a resolve by the tellers' records came to, which were
-- known; or nothing was sent, for this reason.
pub record ResolvesBy {L : Type 0} (state : L → LogState) (knows : L → Type 0) (r : Resolver L) (d : DeskView)
    (s : ScanView) (r' : Resolver L) (d' : DeskView) (s' : ScanView) : Type 0 where
  pub tellers : r'.tellers ≡ r.tellers
  pub scan : s' ≡ s
  pub came : IfOk r'.resolved (λ z. All (λ t. knows t.log) r.tellers.items
      × IsTraceOfResolve s (records_of_logs state
      (map (λ t. t.log) r.tellers.items)) d.ledgers d'.ledgers z.outcomes.items)
  pub left : IfErr r'.resolved (λ why. (d' ≡ d)
      × Excuses ⊥ (All (λ t. knows t.log) r.tellers.items) (MayResolve d s) (Unit {0}) why)

-- A night after the opening that was settled so: it was opened again and settled in turn, and one resolve by the
-- records of all tellers, which were known, came to these outcomes of all that was left.
pub record IsNight {L : Type 0} (state : L → LogState) (knows : L → Type 0) (tellers : List (Teller L)) (s : Settling)
    (again : Again) (outcomes : List Outcome) (next : Settling) : Type 0 where
  pub known : All (λ t. knows t.log) tellers
  pub call : ResolveCall
  pub listed : call.outcomes ≡ outcomes
  pub resolves : IsResolvedBy (records_of_logs state (map (λ t. t.log) tellers)) s again call next

-- What came to the stores of an opening that was settled so, in a night that resolved nothing: they are as they were;
-- or they were opened again and settled in turn, and no thread sent anything.
pub data IsUntouched (s : Settling) (again : Again) (next : Settling) : Type 0 where
  unopened : next ≡ s → IsUntouched s again next
  unused : IsSettled next → Continues s next → IsOf (reopening s again) next
      → ((t m : ℕ) → 1 ≤ m → sent next t m ≡ []) → IsUntouched s again next

-- What came after a day with these numbers, on which a teller wants memory or none does: no night, or one with its
-- numbers. What was left is resolved by the tellers' records, or the stores are untouched, for a reason; and the
-- numbers are those that the stores have then.
pub record HasPassed {L : Type 0} (state : L → LogState) (knows : L → Type 0) (s : Settling) (day night : Again)
    (tellers : Vec (Teller L) Global) (wanting : Bool) (again : Again) (n : Night L) : Type 0 where
  pub tellers_ : n.tellers ≡ tellers
  pub numbers : again ≡ (if wanting then day else night)
  pub stays : wanting ≡ true → n.settled ≡ s
  pub closed : IfOk n.resolved (λ z. (wanting ≡ false) × (again ≡ night)
      × IsNight state knows tellers.items s night z.outcomes.items n.settled
      × (managers_in n.settled ≡ managers_in s))
  pub left : IfErr n.resolved (λ why. Excuses (wanting ≡ true) (All (λ t. knows t.log) tellers.items)
      (HasRoomToResolve s night) (Unit {0}) why × IsUntouched s night n.settled)

-- what a night of these tellers came to that isn't settled yet: they resolved, and `settle_run` may settle it
abbrev pub IsUnsettledNight : {L : Type 0} → (L → LogState) → (L → Type 0) → Vec (Teller L) Global → Settling → Again
    → Ran (WithScan (Resolver L)) → Type 0
IsUnsettledNight {L} state knows tellers s again ran =
    (r : Resolver L) × (r.tellers ≡ tellers) × HasRunAgain (ResolvesBy state knows) s again (r ∷ []) ran
