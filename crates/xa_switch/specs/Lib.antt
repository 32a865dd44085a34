pub mod Plans
pub mod Columns
pub mod Lanes
pub mod OpenedPieces
pub mod Settled
pub mod Belonging
pub mod Closing
pub mod Fates
pub mod OfPlans
pub mod Worth
pub mod Reopening
pub mod Recovery
-- The words of this crate, by its name.
pub use Plans.{IsSound, IsSoundManager, IsUniform, IsWithinLimits, Setup, completion_room, manager_room, new_manager}
pub use Plans.{numbers_of, opened_by, planned, setup, use_async, usual_numbers}
pub use Columns.{AreLanes, Each, put_row}
pub use Lanes.{AreNewLanes, IsCompletionEnd, IsCompletionSender, IsNewPair, IsNewReceiver, IsNewSender, IsRequestEnd}
pub use Lanes.{IsRequestSender, lane_to}
pub use OpenedPieces.{AreOfOneOpening, DesksFit, IsDeskOf, IsLaidOut, IsNewDesk, IsNewWorker, IsWorkerOf, ShareNewLanes}
pub use OpenedPieces.{WorkersFit, desk_parts, worker_parts}
pub use Settled.{Agree, FollowsTables, HasNumber, IsSettled, ManagerPart, ReadyPart, Settling, ThreadPart, answers}
pub use Settled.{collected, find_manager, find_thread, journal, journal_in, ledgers_in, sent, value, value_in}
pub use Belonging.{AreAll, AreApartDesks, AreApartWorkers, AreOfOne, AreSomeOf, AreTogether, ComeFromOpenings, DeskSeat}
pub use Belonging.{EndSeat, HasDesks, HasWorkers, IsWhyUnsettled, ShareLanes, WorkerSeat, desk_opening, desk_seats}
pub use Belonging.{end_seat, first_opening, first_worker_opening, has_desk, has_worker, openings_of, seat_of_desk}
pub use Belonging.{seat_of_done, seat_of_ended, seat_of_worker, worker_opening, worker_seats}
pub use Closing.{HasRoomForPiece, HasRoomForPieces, HasTaken, IsClosable, IsClosed, TakesInPiece, column, dealt}
pub use Closing.{desk_lane, manager_part, ready_part, settling, taken_by, thread_part, worker_lane}
pub use Fates.{IsOpenedWith, IsSumOver, fate_at_manager, first_of, history, ledgers_of, settled_fate}
pub use OfPlans.{IsOf, IsOfPlan}
pub use Worth.{WorthIsOfThreads, accounts_in, accounts_of, managers_of_plan, moved_at, moved_by_thread, plan_worth}
pub use Worth.{settled_worth, threads_of_plan}
pub use Reopening.{IsWhole, MayReopen, find_ready, first_ledgers, flags_in, last_in, managers_in, parts_of, reopened_at}
pub use Reopening.{reopening}
pub use Recovery.{AreScansOf, HasLeft, IsScanOf}
pub use declared.opening.layout.Layout.{Layout}
pub use declared.plan.Again.{Again}
pub use declared.plan.ManagerPlan.{ManagerPlan}
pub use declared.plan.Plan.{Plan}
pub use declared.settling.Why.{Why}
pub use declared.settling.Why.TheVariants.{Missing, Stranger}
pub use declared.settling.gathered.Gathered.{Gathered}
