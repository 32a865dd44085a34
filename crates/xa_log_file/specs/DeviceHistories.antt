-- What a crash may leave of a file, by the calls that were made.
use Rattle.std.specs.Prelude.{◌≡◌, ℕ, ◌+◌, ◌≤◌, Bool, true, false, List, [], ◌∷◌, length, take, Vec}
use Rattle.std.specs.declared.alloc.Global.{Global}
use Rattle.xa_log_file.specs.Device.{IsTorn, Torn}
use Rattle.xa_log_file.specs.declared.mirrored.DeviceCall.{DeviceCall}
use Rattle.xa_log_file.specs.declared.mirrored.DeviceCall.TheVariants.{Wrote, WroteByte, Synced}

-- the calls with the bytes after each, the first of them first
abbrev pub Past : Type 0
Past = List (DeviceCall × Vec ℕ Global)

-- one call more: a write may be torn, be it answered or not; a sync that succeeds leaves what there is
abbrev pub left_after : DeviceCall → List ℕ → (List ℕ → Type 0) → List ℕ → Type 0
left_after (Wrote at n ok) bytes before c = (d : List ℕ) × before d × IsTorn at n d c
left_after (WroteByte at b ok) bytes before c = (d : List ℕ) × before d × Torn at (b ∷ []) d c
left_after (Synced true) bytes before c = c ≡ bytes
left_after (Synced false) bytes before c = before c

-- the call that writes these bytes
abbrev pub writing : ℕ → List ℕ → Bool → DeviceCall
writing at [] ok = Wrote at 0 ok
writing at (b ∷ []) ok = WroteByte at b ok
writing at (a ∷ b ∷ bytes) ok = Wrote at (length (a ∷ b ∷ bytes)) ok

-- after these calls
abbrev pub left_by_calls : (List ℕ → Type 0) → Past → List ℕ → Type 0
left_by_calls before [] = before
left_by_calls before (e ∷ past) = left_by_calls (left_after e.0 e.1.items before) past

-- of a file that was synced with its first bytes
abbrev pub leaves : Past → List ℕ → Type 0
leaves past = left_by_calls (λ _. ⊥) past

-- at some moment from that one on
pub record LeftSince (past : Past) (t : ℕ) (c : List ℕ) : Type 0 where
  pub at : ℕ
  pub from : t ≤ at
  pub to : at ≤ length past
  pub left : leaves (take at past) c

-- how many writes and syncs failed
abbrev pub count_failed : DeviceCall → ℕ
count_failed (Wrote at n true) = 0
count_failed (Wrote at n false) = 1
count_failed (WroteByte at b true) = 0
count_failed (WroteByte at b false) = 1
count_failed (Synced true) = 0
count_failed (Synced false) = 1

abbrev pub failures : Past → ℕ
failures [] = 0
failures (e ∷ past) = count_failed e.0 + failures past

-- the bytes at the last sync that succeeded
abbrev pub synced_after : List ℕ → DeviceCall → List ℕ → List ℕ
synced_after before (Wrote at n ok) bytes = before
synced_after before (WroteByte at b ok) bytes = before
synced_after before (Synced true) bytes = bytes
synced_after before (Synced false) bytes = before

abbrev pub synced_from : List ℕ → Past → List ℕ
synced_from before [] = before
synced_from before (e ∷ past) = synced_from (synced_after before e.0 e.1.items) past

abbrev pub last_synced : Past → List ℕ
last_synced past = synced_from [] past
