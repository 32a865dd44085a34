-- Clients with the desks of an opening, before anything is done in it.
use Rattle.std.specs.Prelude.{◌≡◌, ℕ, ◌≤◌, List, [], length, map, vec_capacity}
use Rattle.std.specs.List.{All}
use Rattle.xa_base.specs.declared.limits.TheConstants.{MOST_MANAGERS}
use Rattle.xa_switch.specs.OpenedPieces.{AreOfOneOpening}
use Rattle.xa_switch.specs.Plans.{Setup, IsWithinLimits}
use Rattle.xa_crew.specs.declared.opened.Opened.{Opened}
use Rattle.xa_crew.specs.declared.opened.Room.{Room}
use Rattle.xa_crew.specs.declared.opened.OpenedFault.{OpenedFault}
use Rattle.xa_crew.specs.declared.opened.OpenedFault.TheVariants.{Unsettled, Unstarted}
use Rattle.xa_crew.specs.declared.opened.CrewMemory.{CrewMemory}
use Rattle.xa_crew.specs.declared.run.Ran.{Ran}
use Rattle.xa_crew.specs.Run.{CanTell, IsReady}

-- its clients, by rising thread
abbrev pub clients_of : {C : Type 0} → Opened C → List C
clients_of o = map (λ a. a.client) o.jobs.items

-- nothing is there of what so many clients come to, and there is room for it, and for as many workers as there may be
pub record HasRoomForClients {C : Type 0} (n : ℕ) (r : Room C) : Type 0 where
  pub none_attended : r.attended.items ≡ []
  pub none_ended : r.ended.items ≡ []
  pub none_worked : r.worked.items ≡ []
  pub none_done : r.done.items ≡ []
  pub attended : n ≤ vec_capacity r.attended
  pub ended : n ≤ vec_capacity r.ended
  pub worked : n ≤ vec_capacity r.worked
  pub done : MOST_MANAGERS ≤ vec_capacity r.done

-- there is room for so many clients with their desks, and for what they come to
pub record HasMemoryFor {C : Type 0} (n : ℕ) (m : CrewMemory C) : Type 0 where
  pub none : m.jobs.items ≡ []
  pub jobs : n ≤ vec_capacity m.jobs
  pub as_many : length m.outstanding.items ≡ n
  pub tell : All CanTell m.outstanding.items
  pub room : HasRoomForClients n m.room

-- It was opened with this, and nothing is done: its clients have the desks of the opening, and its workers are those of
-- the opening.
pub record IsOpened {C : Type 0} (p : Setup) (o : Opened C) : Type 0 where
  pub limits : IsWithinLimits p.numbers p.managers
  pub opened : AreOfOneOpening p (map (λ a. a.desk) o.jobs.items) o.workers.items
  pub ready : All IsReady o.jobs.items
  pub room : HasRoomForClients (length o.jobs.items) o.room

-- what comes back of a run that wasn't started is this
abbrev pub IfNotStarted : {C : Type 0} → (Opened C → Type 0) → OpenedFault C → Type 0
IfNotStarted P (Unstarted opened) = P opened
IfNotStarted P (Unsettled ran) = Unit {0}

-- what comes back of a run that isn't settled is this
abbrev pub IfNotSettled : {C : Type 0} → (Ran C → Type 0) → OpenedFault C → Type 0
IfNotSettled P (Unstarted opened) = Unit {0}
IfNotSettled P (Unsettled ran) = P ran
