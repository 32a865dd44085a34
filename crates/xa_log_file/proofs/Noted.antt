-- What the notes of a file say after one call more, and which bytes were synced last.
use Rattle.xa_base.proofs.{ℕ, List, [], ◌∷◌, ◌++◌, ◌≡◌, Bool, Vec, refl, ap, ◌∙◌}
use Rattle.std.specs.declared.alloc.Global.{Global}
use Rattle.http_server.specs.declared.log.Log.{Log}
use Rattle.xa_log_file.specs.{Past, DeviceCall, FileCall, LogFileCalls, LogFileSyncs, log_found_after, log_found_by}
use Rattle.xa_log_file.specs.{found_from, log_given_after, log_given_by, given_from, log_kept_by, log_kept_from}
use Rattle.xa_log_file.specs.{LogFileSizes, log_told_by, told_from, last_synced, synced_after, synced_from, writing}

-- NOTES
found_push : (before : List ℕ) (calls : LogFileCalls) (call : FileCall) (bytes : Vec ℕ Global)
    → found_from before (calls ++ (call, bytes) ∷ []) ≡ log_found_after (found_from before calls) call bytes.items
found_push before [] call bytes = refl
found_push before (e ∷ calls) call bytes = found_push (log_found_after before e.0 e.1.items) calls call bytes

pub found_to : (calls later : LogFileCalls) (call : FileCall) (bytes : Vec ℕ Global)
    → later ≡ calls ++ (call, bytes) ∷ []
    → log_found_by later ≡ log_found_after (log_found_by calls) call bytes.items
found_to calls later call bytes is = ap log_found_by is ∙ found_push [] calls call bytes

given_push : (before : List ℕ) (calls : LogFileCalls) (call : FileCall) (bytes : Vec ℕ Global)
    → given_from before (calls ++ (call, bytes) ∷ []) ≡ log_given_after (given_from before calls) call bytes.items
given_push before [] call bytes = refl
given_push before (e ∷ calls) call bytes = given_push (log_given_after before e.0 e.1.items) calls call bytes

pub given_to : (calls later : LogFileCalls) (call : FileCall) (bytes : Vec ℕ Global)
    → later ≡ calls ++ (call, bytes) ∷ []
    → log_given_by later ≡ log_given_after (log_given_by calls) call bytes.items
given_to calls later call bytes is = ap log_given_by is ∙ given_push [] calls call bytes

kept_push : (before : List ℕ) (syncs : LogFileSyncs) (u : Unit) (calls : Log FileCall (Vec ℕ Global))
    → log_kept_from before (syncs ++ (u, calls) ∷ []) ≡ log_given_by calls.items
kept_push before [] u calls = refl
kept_push before (e ∷ syncs) u calls = kept_push (log_given_by e.1.items) syncs u calls

pub kept_to : (syncs later : LogFileSyncs) (u : Unit) (calls : Log FileCall (Vec ℕ Global))
    → later ≡ syncs ++ (u, calls) ∷ []
    → log_kept_by later ≡ log_given_by calls.items
kept_to syncs later u calls is = ap log_kept_by is ∙ kept_push [] syncs u calls

told_push : (before : ℕ) (sizes : LogFileSizes) (u : Unit) (size : ℕ)
    → told_from before (sizes ++ (u, size) ∷ []) ≡ size
told_push before [] u size = refl
told_push before (e ∷ sizes) u size = told_push e.1 sizes u size

pub told_to : (sizes later : LogFileSizes) (u : Unit) (size : ℕ) → later ≡ sizes ++ (u, size) ∷ []
    → log_told_by later ≡ size
told_to sizes later u size is = ap log_told_by is ∙ told_push 0 sizes u size

-- SYNCS
synced_push : (before : List ℕ) (past : Past) (call : DeviceCall) (bytes : Vec ℕ Global)
    → synced_from before (past ++ (call, bytes) ∷ []) ≡ synced_after (synced_from before past) call bytes.items
synced_push before [] call bytes = refl
synced_push before (e ∷ past) call bytes = synced_push (synced_after before e.0 e.1.items) past call bytes

pub synced_to : (past later : Past) (call : DeviceCall) (bytes : Vec ℕ Global) → later ≡ past ++ (call, bytes) ∷ []
    → last_synced later ≡ synced_after (last_synced past) call bytes.items
synced_to past later call bytes is = ap last_synced is ∙ synced_push [] past call bytes

-- a write syncs nothing
pub synced_writing : (at : ℕ) (bytes : List ℕ) (ok : Bool) (before after : List ℕ)
    → synced_after before (writing at bytes ok) after ≡ before
synced_writing at [] ok before after = refl
synced_writing at (b ∷ []) ok before after = refl
synced_writing at (a ∷ b ∷ bytes) ok before after = refl
