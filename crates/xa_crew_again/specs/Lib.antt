pub mod Again
pub mod Stored
-- The words of this crate, by its name.
pub use Again.{AgainWorks, AreGiven, HasRunAgain, IfUnopened, IfUnsettled, IfUnstarted, IsBad, IsRunAgain}
pub use Again.{WorksWithScan}
pub use Stored.{KeepOne, KeepsEither, Reopens, KeepsAsMuch}
pub use declared.again.AgainFault.{AgainFault}
pub use declared.again.AgainFault.TheVariants.{Unsettled}
pub use declared.again.WithScan.{WithScan}
