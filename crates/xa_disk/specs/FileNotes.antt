-- What was read of a file, what it was given, and what the disk was asked to keep, by the calls that succeeded.
use Rattle.std.specs.Prelude.{ℕ, List, [], Vec}
use Rattle.std.specs.List.{fold}
use Rattle.std.specs.declared.alloc.Global.{Global}
use Rattle.http_server.specs.declared.log.Log.{Log}
use Rattle.xa_disk.specs.Bytes.{overwritten, part, resized}
use Rattle.xa_disk.specs.declared.notes.FileCall.{FileCall}
use Rattle.xa_disk.specs.declared.notes.FileCall.TheVariants.{Read, Rewrote, Wrote, Resized}

-- the calls with the bytes that were read, or the copy that was written from, the first of them first
abbrev pub FileCalls : Type 0
FileCalls = List (FileCall × Vec ℕ Global)

-- the bytes that were read last
abbrev pub found_after : List ℕ → FileCall → List ℕ → List ℕ
found_after before Read bytes = bytes
found_after before Rewrote bytes = before
found_after before (Wrote at n) copy = before
found_after before (Resized len) copy = before

abbrev pub found_by : FileCalls → List ℕ
found_by calls = fold (λ before e. found_after before e.0 e.1.items) [] calls

-- the bytes that the file was given: all that was rewritten, and what was done to that
abbrev pub given_after : List ℕ → FileCall → List ℕ → List ℕ
given_after before Read bytes = before
given_after before Rewrote bytes = bytes
given_after before (Wrote at n) copy = overwritten before at (part at n copy)
given_after before (Resized len) copy = resized before len

abbrev pub given_by : FileCalls → List ℕ
given_by calls = fold (λ before e. given_after before e.0 e.1.items) [] calls

-- each size that was told
abbrev pub FileSizes : Type 0
FileSizes = List (Unit × ℕ)

-- the size that was told last
abbrev pub told_by : FileSizes → ℕ
told_by sizes = fold (λ before e. e.1) 0 sizes

-- at each sync the calls up to it
abbrev pub FileSyncs : Type 0
FileSyncs = List (Unit × Log FileCall (Vec ℕ Global))

-- the bytes that the file had been given at the last sync
abbrev pub kept_by : FileSyncs → List ℕ
kept_by syncs = fold (λ before e. given_by e.1.items) [] syncs
