-- What was read of a file, what it was given, and what the disk was asked to keep, by the calls that succeeded.
use Rattle.std.specs.Prelude.{ℕ, List, [], ◌∷◌, take, drop, Vec}
use Rattle.std.specs.declared.alloc.Global.{Global}
use Rattle.http_server.specs.declared.log.Log.{Log}
use Rattle.xa_log_file.specs.Device.{log_overwritten}
use Rattle.xa_log_file.specs.declared.notes.FileCall.{FileCall}
use Rattle.xa_log_file.specs.declared.notes.FileCall.TheVariants.{Read, Rewrote, Wrote}

-- the calls with the bytes that were read, or the copy that was written from, the first of them first
abbrev pub LogFileCalls : Type 0
LogFileCalls = List (FileCall × Vec ℕ Global)

-- so many bytes of the copy at this offset
abbrev pub log_part : ℕ → ℕ → List ℕ → List ℕ
log_part at n copy = take n (drop at copy)

-- the bytes that were read last
abbrev pub log_found_after : List ℕ → FileCall → List ℕ → List ℕ
log_found_after before Read bytes = bytes
log_found_after before Rewrote bytes = before
log_found_after before (Wrote at n) copy = before

abbrev pub found_from : List ℕ → LogFileCalls → List ℕ
found_from before [] = before
found_from before (e ∷ calls) = found_from (log_found_after before e.0 e.1.items) calls

abbrev pub log_found_by : LogFileCalls → List ℕ
log_found_by calls = found_from [] calls

-- the bytes that the file was given: all that was rewritten, and what was written over it
abbrev pub log_given_after : List ℕ → FileCall → List ℕ → List ℕ
log_given_after before Read bytes = before
log_given_after before Rewrote bytes = bytes
log_given_after before (Wrote at n) copy = log_overwritten before at (log_part at n copy)

abbrev pub given_from : List ℕ → LogFileCalls → List ℕ
given_from before [] = before
given_from before (e ∷ calls) = given_from (log_given_after before e.0 e.1.items) calls

abbrev pub log_given_by : LogFileCalls → List ℕ
log_given_by calls = given_from [] calls

-- each size that was told
abbrev pub LogFileSizes : Type 0
LogFileSizes = List (Unit × ℕ)

-- the size that was told last
abbrev pub told_from : ℕ → LogFileSizes → ℕ
told_from before [] = before
told_from before (e ∷ sizes) = told_from e.1 sizes

abbrev pub log_told_by : LogFileSizes → ℕ
log_told_by sizes = told_from 0 sizes

-- at each sync the calls up to it
abbrev pub LogFileSyncs : Type 0
LogFileSyncs = List (Unit × Log FileCall (Vec ℕ Global))

-- the bytes that the file had been given at the last sync
abbrev pub log_kept_from : List ℕ → LogFileSyncs → List ℕ
log_kept_from before [] = before
log_kept_from before (e ∷ syncs) = log_kept_from (log_given_by e.1.items) syncs

abbrev pub log_kept_by : LogFileSyncs → List ℕ
log_kept_by syncs = log_kept_from [] syncs
