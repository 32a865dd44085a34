pub mod Left
-- The words of this crate, by its name.
pub use Left.{IsScan, NoneOpen, ScanView, left_at, lists_in, no_scan, place_at, scan_of, standing}
