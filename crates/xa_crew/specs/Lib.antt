pub mod Ending
pub mod Pieces
pub mod Run
pub mod Opened
pub mod Stores
pub mod Turns
pub mod Turning
-- The words of this crate, by its name.
pub use Ending.{EndsDesk, EndsNumber, EndsNumbers, DeskWithCodes, HandleCodes}
pub use Pieces.{ArePiecesOf, HasGone, HasServed}
pub use Run.{CanTell, HasRun, HasRunAll, HasWorked, HaveRun, IsReady, IsRun, Member, PutsBack, crew_fault_of, member_of}
pub use Opened.{HasMemoryFor, HasRoomForClients, IfNotSettled, IfNotStarted, IsOpened, clients_of}
pub use Stores.{StoresKeep, HasManagers, HasServedStored, HaveAllRun, KeepLast, stored_tables, tables_served}
pub use Turns.{AllGoOn, GivesTurns, HadSomeTurn, HadTurn, TakesTurn, TurnsFor, WorkerGoesOn}
pub use Turning.{all_go_on, all_stay, goes_both, goes_nowhere}
pub use declared.client_job.Attended.{Attended}
pub use declared.client_job.ClientJob.{ClientJob}
pub use declared.client_job.Worked.{Worked}
pub use declared.run.Ran.{Ran}
pub use declared.worker_job.StoredWorker.{StoredWorker}
pub use declared.worker_job.WorkerJob.{WorkerJob}
