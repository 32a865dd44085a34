-- A run of clients, in threads or in turns: what each client and its desk come to, and what is settled.
use Rattle.std.specs.Prelude.{◌≡◌, ℕ, ◌≤◌, List, [], map, Vec, vec_capacity}
use Rattle.std.specs.Global.{Global}
use Rattle.xa_words.specs.declared.code.Code.{Code}
use Rattle.std.specs.List.{All}
use Rattle.xa_base.specs.declared.limits.TheConstants.{MOST_HANDLES}
use Rattle.xa_desk.specs.DeskViews.{DeskView}
use Rattle.xa_desk.specs.Ended.{EndedView}
use Rattle.xa_desk.specs.GoingOn.{GoesOn}
use Rattle.xa_worker.specs.Workers.{WorkerView}
use Rattle.xa_worker.specs.Done.{Served}
use Rattle.xa_switch.specs.declared.plan.OpenFault.{OpenFault}
use Rattle.xa_switch.specs.declared.plan.OpenFault.TheVariants as open_
use Rattle.xa_switch.specs.Plans.{Setup, IsWithinLimits}
use Rattle.xa_switch.specs.OpenedPieces.{AreOfOneOpening}
use Rattle.xa_switch.specs.Settled.{Settling, IsSettled}
use Rattle.xa_switch.specs.Closing.{settling}
use Rattle.xa_switch.specs.OfPlans.{IsOf}
use Rattle.xa_crew.specs.declared.fault.CrewFault.{CrewFault}
use Rattle.xa_crew.specs.declared.fault.CrewFault.TheVariants as crew
use Rattle.xa_crew.specs.declared.client_job.ClientJob.{ClientJob}
use Rattle.xa_crew.specs.declared.client_job.Attended.{Attended}
use Rattle.xa_crew.specs.declared.client_job.Worked.{Worked}
use Rattle.xa_crew.specs.declared.run.Ran.{Ran}
use Rattle.xa_base.specs.Lists.{Pairwise}
use Rattle.xa_desk.specs.Kept.{AllKept}
use Rattle.xa_crew.specs.Ending.{EndsDesk}
use Rattle.xa_crew.specs.Pieces.{HasServed}

-- What a run fails by where the switch can't be opened.
abbrev pub crew_fault_of : {C : Type 0} → OpenFault → CrewFault C
crew_fault_of open_.BadPlan = crew.BadPlan
crew_fault_of open_.NoMemory = crew.NoMemory

-- ---- one thread

-- One thread of control of a run: its client and its desk at first, the client with what was outstanding at its end,
-- and the desk as it ended.
pub record Member (C : Type 0) : Type 0 where
  pub client : C
  pub desk : DeskView
  pub attended : Attended C
  pub ended : EndedView

-- The client worked with its desk; then what was outstanding there was collected and told, and the desk ended.
pub record HasRun {C : Type 0} (works : C → DeskView → C → DeskView → Type 0) (t : Member C) : Type 0 where
  pub left : DeskView
  pub worked : works t.client t.desk t.attended.client left
  pub goes_on : GoesOn t.desk left
  pub ends : EndsDesk left [] t.ended t.attended.outstanding.items

-- Nothing is told there, and there is room to tell what may be outstanding at a desk.
pub record CanTell (told : Vec (ℕ × Code) Global) : Type 0 where
  pub none : told.items ≡ []
  pub room : MOST_HANDLES ≤ vec_capacity told

-- What is outstanding at the desk is kept, and what may be outstanding at the end can be told.
pub record IsReady {C : Type 0} (a : ClientJob C) : Type 0 where
  pub kept : AllKept a.desk
  pub tell : CanTell a.outstanding

-- A client's thread as a member, by what it was given and what it came to.
abbrev pub member_of : {C : Type 0} → ClientJob C → Worked C → Member C
member_of a w = record { client = a.client; desk = a.desk; attended = w.attended; ended = w.desk }

-- The client of this job has worked and come to this.
abbrev pub HasWorked : {C : Type 0} → (C → DeskView → C → DeskView → Type 0) → ClientJob C → Worked C → Type 0
HasWorked works a w = HasRun works (member_of a w)

-- ---- the whole run

-- What the threads of a run of these clients come to: these clients, desks and workers. An opening was made with this,
-- and each client worked with the desk at its own place; and each worker of that opening ran to the last end mark.
pub record HaveRun {C : Type 0} (works : C → DeskView → C → DeskView → Type 0) (p : Setup) (clients : List C)
    (attended : List (Attended C)) (desks : List EndedView) (done : List Served) : Type 0 where
  -- the threads and the workers of one opening
  pub members : List (Member C)
  pub workers : List WorkerView
  pub limits : IsWithinLimits p.numbers p.managers
  pub opened : AreOfOneOpening p (map (λ t. t.desk) members) workers
  -- each thread has the client at its place, and ran with it
  pub clients_are : clients ≡ map (λ t. t.client) members
  pub ran : All (HasRun works) members
  pub attended_are : attended ≡ map (λ t. t.attended) members
  pub desks_are : desks ≡ map (λ t. t.ended) members
  -- and each worker ran
  pub served : Pairwise HasServed workers done

-- All threads of a run of these clients have come to this, which isn't settled yet.
abbrev pub HasRunAll : {C : Type 0} → (C → DeskView → C → DeskView → Type 0) → Setup → List C → Ran C → Type 0
HasRunAll works p clients r = HaveRun works p clients r.clients.items r.desks.items r.workers.items

-- What a fault gives back of what was run, if it does, is this.
abbrev pub PutsBack : {C : Type 0} → (Ran C → Type 0) → CrewFault C → Type 0
PutsBack P crew.BadPlan = Unit {0}
PutsBack P crew.NoMemory = Unit {0}
PutsBack P (crew.Unsettled ran) = P ran

-- What a run of these clients comes to: its threads have run, and the opening is settled with what all of them came to,
-- so that what was sent, carried out and collected agree.
pub record IsRun {C : Type 0} (works : C → DeskView → C → DeskView → Type 0) (p : Setup) (clients : List C)
    (attended : List (Attended C)) (settled : Settling) : Type 0 where
  pub desks : List EndedView
  pub done : List Served
  pub threads : HaveRun works p clients attended desks done
  pub open threads use *
  -- just these are settled
  pub settles : settled ≡ settling (map (λ t. t.ended) members) done
  pub agrees : IsSettled settled
  pub of_setup : IsOf p settled
