-- Which desks and workers belong together, and why some are not settled.
use Rattle.std.specs.Prelude.{◌≡◌, ◌≢◌, ℕ, ◌+◌, ◌-◌, ◌<◌, ◌≤◌, Bool, true, ◌==◌, List, [], ◌∷◌, ◌++◌, length, map}
use Rattle.std.specs.Prelude.{slice_get, Some}
use Rattle.std.specs.List.{All, AllPairs, list_any}
use Rattle.std.specs.List.Sorted.{IsPermutation}
use Rattle.xa_tables.specs.Openings.{IsOpening}
use Rattle.xa_desk.specs.Ended.{EndedView}
use Rattle.xa_worker.specs.Done.{Served}
pub use Rattle.xa_lane.specs.EndSeats.{EndSeat, end_seat}
pub use Rattle.xa_desk.specs.DeskSeats.{DeskSeat, desk_seat, seat_of_desk, seat_of_ended}
pub use Rattle.xa_worker.specs.WorkerSeats.{WorkerSeat, worker_seat, seat_of_worker, seat_of_done}
use Rattle.xa_switch.specs.declared.settling.Why.{Why}
use Rattle.xa_switch.specs.declared.settling.Why.TheVariants.{NoMemory, Stranger, Missing}

-- ---- pieces of one opening

-- the desk sends on the lane that the worker takes from, and the worker on the lane that the desk takes from, each as
-- the sender of its own number
pub record ShareLanes (d : DeskSeat) (w : WorkerSeat) : Type 0 where
  -- the desk's end of the lane of requests
  pub asking : EndSeat
  pub asks : slice_get d.ends (w.number - 1) ≡ Some asking
  pub asked : (asking.lane ≡ w.lane) × (asking.line ≡ w.line)
  pub asker : asking.index + 1 ≡ d.thread
  -- the worker's end of the lane of completions
  pub answering : EndSeat
  pub answers : slice_get w.ends (d.thread - 1) ≡ Some answering
  pub answered : (answering.lane ≡ d.lane) × (answering.line ≡ d.line)
  pub answerer : answering.index + 1 ≡ w.number

-- if they are of one opening, they share their lanes
abbrev pub AreTogether : DeskSeat → WorkerSeat → Type 0
AreTogether d w = d.lane.opening ≡ w.lane.opening → ShareLanes d w

-- if they are of one opening, they are of different threads
abbrev pub AreApartDesks : DeskSeat → DeskSeat → Type 0
AreApartDesks a b = a.lane.opening ≡ b.lane.opening → a.thread ≢ b.thread

-- if they are of one opening, they are of different managers
abbrev pub AreApartWorkers : WorkerSeat → WorkerSeat → Type 0
AreApartWorkers a b = a.lane.opening ≡ b.lane.opening → a.number ≢ b.number

-- Pieces of one opening number come from one opening: each desk and each worker of it share their lanes, no two desks
-- or workers of it have one number, and each manager began as at an opening.
pub record ComeFromOpenings (desks : List DeskSeat) (workers : List WorkerSeat) : Type 0 where
  pub together : All (λ d. All (AreTogether d) workers) desks
  pub desks_apart : AllPairs AreApartDesks desks
  pub workers_apart : AllPairs AreApartWorkers workers
  pub opened : All (λ w. IsOpening w.first) workers

-- the seats of desks that have ended, and of workers that have run
abbrev pub desk_seats : List EndedView → List DeskSeat
desk_seats ds = map seat_of_ended ds

abbrev pub worker_seats : List Served → List WorkerSeat
worker_seats ws = map seat_of_done ws

-- the number of the opening that each piece is of
abbrev pub openings_of : List DeskSeat → List WorkerSeat → List ℕ
openings_of ds ws = map (λ d. d.lane.opening) ds ++ map (λ w. w.lane.opening) ws

-- xs are some of ys, in any order
abbrev pub AreSomeOf : {X : Type 0} → List X → List X → Type 0
AreSomeOf {X} xs ys = (rest : List X) × IsPermutation ys (xs ++ rest)

-- ---- what is refused

-- the number of the opening that a piece is of
abbrev pub desk_opening : EndedView → ℕ
desk_opening d = d.completions.lane.opening

abbrev pub worker_opening : Served → ℕ
worker_opening w = w.receiver.lane.opening

-- that of the first piece
abbrev pub first_worker_opening : List Served → ℕ
first_worker_opening [] = 0
first_worker_opening (w ∷ ws) = worker_opening w

abbrev pub first_opening : List EndedView → List Served → ℕ
first_opening [] ws = first_worker_opening ws
first_opening (d ∷ ds) ws = desk_opening d

-- no piece is of another opening than the first
abbrev pub AreOfOne : List EndedView → List Served → Type 0
AreOfOne ds ws =
    All (λ d. desk_opening d ≡ first_opening ds ws) ds × All (λ w. worker_opening w ≡ first_opening ds ws) ws

-- the desk of this thread is there, and the worker of this manager
abbrev pub has_desk : ℕ → List EndedView → Bool
has_desk t ds = list_any (λ d. d.thread == t) ds

abbrev pub has_worker : ℕ → List Served → Bool
has_worker m ws = list_any (λ w. w.number == m) ws

-- the desks of threads 1 to n are there, and the workers of managers 1 to n
abbrev pub HasDesks : ℕ → List EndedView → Type 0
HasDesks n ds = (t : ℕ) → 1 ≤ t → t ≤ n → has_desk t ds ≡ true

abbrev pub HasWorkers : ℕ → List Served → Type 0
HasWorkers n ws = (m : ℕ) → 1 ≤ m → m ≤ n → has_worker m ws ≡ true

-- every desk and every worker of the opening is there
pub record AreAll (ds : List EndedView) (ws : List Served) : Type 0 where
  pub some_desk : 0 < length ds
  pub some_worker : 0 < length ws
  pub workers : All (λ d. HasWorkers (length d.ledgers) ws) ds
  pub desks : All (λ w. HasDesks w.manager.threads ds) ws

-- why pieces are not settled: a piece of another opening comes before one that isn't there, and that before want of
-- memory
abbrev pub IsWhyUnsettled : Why → List EndedView → List Served → Type 0
IsWhyUnsettled NoMemory ds ws = AreOfOne ds ws × AreAll ds ws
IsWhyUnsettled Stranger ds ws = ¬ AreOfOne ds ws
IsWhyUnsettled Missing ds ws = AreOfOne ds ws × (¬ AreAll ds ws)
