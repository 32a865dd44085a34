-- A run of clients over an opening that is opened again.
use Rattle.std.specs.Prelude.{◌≡◌, List, map}
use Rattle.xa_desk.specs.DeskViews.{DeskView}
use Rattle.xa_switch.specs.declared.plan.Again.{Again}
use Rattle.xa_switch.specs.declared.plan.OpenFault.TheVariants.{BadPlan}
use Rattle.xa_switch.specs.Reopening.{reopening}
use Rattle.xa_switch.specs.Recovery.{AreScansOf}
use Rattle.xa_scan.specs.Left.{ScanView}
use Rattle.xa_switch.specs.Settled.{Settling}
use Rattle.xa_crew_again.specs.declared.again.AgainFault.{AgainFault}
use Rattle.xa_crew_again.specs.declared.again.AgainFault.TheVariants.{Unopened, Unsettled, Unstarted}
use Rattle.xa_crew_again.specs.declared.again.UnopenedClients.{UnopenedClients}
use Rattle.xa_crew_again.specs.declared.again.WithScan.{WithScan}
use Rattle.xa_crew.specs.declared.client_job.Attended.{Attended}
use Rattle.xa_crew.specs.declared.opened.Opened.{Opened}
use Rattle.xa_crew.specs.declared.run.Ran.{Ran}
use Rattle.xa_crew.specs.Run.{HasRunAll, IsRun}

-- what a client comes to in an opening that was opened again, by its desk and its scan
abbrev pub AgainWorks : Type 0 → Type 1
AgainWorks C = C → DeskView → ScanView → C → DeskView → ScanView → Type 0

-- the client came to that with its scan
abbrev pub WorksWithScan : {C : Type 0} → AgainWorks C → WithScan C → DeskView → WithScan C → DeskView → Type 0
WorksWithScan works w d w' d' = works w.client d w.scan w'.client d' w'.scan

-- These are the clients, each with a scan of what was left where the opening before was settled so.
pub record AreGiven {C : Type 0} (s : Settling) (again : Again) (clients : List C) (given : List (WithScan C))
    : Type 0 where
  pub clients_are : map (λ w. w.client) given ≡ clients
  pub scans : AreScansOf s again.threads (map (λ w. w.scan) given)

-- What a run of these clients comes to over the opening that was settled so, once it is opened again: each had its
-- scan, all threads have run, and the opening is settled with what they came to.
pub record IsRunAgain {C : Type 0} (works : AgainWorks C) (s : Settling) (again : Again) (clients : List C)
    (attended : List (Attended (WithScan C))) (settled : Settling) : Type 0 where
  pub given : List (WithScan C)
  pub are_given : AreGiven s again clients given
  pub run : IsRun (WorksWithScan works) (reopening s again) given attended settled

-- The same of what isn't settled yet.
pub record HasRunAgain {C : Type 0} (works : AgainWorks C) (s : Settling) (again : Again) (clients : List C)
    (ran : Ran (WithScan C)) : Type 0 where
  pub given : List (WithScan C)
  pub are_given : AreGiven s again clients given
  pub run : HasRunAll (WorksWithScan works) (reopening s again) given ran

-- ---- why it came to no settled opening

-- it may not be opened again so
abbrev pub IsBad : {C : Type 0} → AgainFault C → Type 0
IsBad (Unopened u) = u.why ≡ BadPlan
IsBad (Unstarted opened) = ⊥
IsBad (Unsettled ran) = ⊥

-- what comes back of what wasn't opened again is this
abbrev pub IfUnopened : {C : Type 0} → (UnopenedClients C → Type 0) → AgainFault C → Type 0
IfUnopened P (Unopened u) = P u
IfUnopened P (Unstarted opened) = Unit {0}
IfUnopened P (Unsettled ran) = Unit {0}

-- what comes back of what was opened again and not run is this
abbrev pub IfUnstarted : {C : Type 0} → (Opened (WithScan C) → Type 0) → AgainFault C → Type 0
IfUnstarted P (Unopened u) = Unit {0}
IfUnstarted P (Unstarted opened) = P opened
IfUnstarted P (Unsettled ran) = Unit {0}

-- what comes back of what was run and isn't settled is this
abbrev pub IfUnsettled : {C : Type 0} → (Ran (WithScan C) → Type 0) → AgainFault C → Type 0
IfUnsettled P (Unopened u) = Unit {0}
IfUnsettled P (Unstarted opened) = Unit {0}
IfUnsettled P (Unsettled ran) = P ran
