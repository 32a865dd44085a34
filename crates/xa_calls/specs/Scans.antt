-- How xa_recover scans what was left at the managers.
use Rattle.std.specs.Prelude.{◌≡◌, ◌≢◌, ℕ, suc, ◌+◌, ◌<◌, ℤ, pos, Bool, true, false, not, ◌&&◌}
use Rattle.std.specs.Prelude.{if◌then◌else◌, Option, None, Some}
use Rattle.std.specs.Prelude.{is_some, List, [], ◌∷◌, ◌++◌, length, drop, slice_get, min, Result, Ok, Err}
use Rattle.xa_words.specs.Xid.{XidName}
use Rattle.xa_words.specs.CodeNumbers.{number_of}
use Rattle.xa_words.specs.Flags.{check_flags}
use Rattle.xa_words.specs.declared.code.Code.{Code}
use Rattle.xa_words.specs.declared.code.Code.TheVariants.{Done, Nota, Inval}
use Rattle.xa_words.specs.declared.flags.Call.TheVariants as call
use Rattle.xa_words.specs.declared.flags.Mode.{Mode}
use Rattle.xa_words.specs.declared.request.Op.{Op}
use Rattle.xa_words.specs.declared.request.Op.TheVariants.{Listed}
use Rattle.xa_desk.specs.DeskViews.{DeskView, is_known, next_operation}
use Rattle.xa_desk.specs.Lanes.{submitted, after_fulls}
use Rattle.xa_desk.specs.Looks.{Collects}
use Rattle.xa_desk.specs.Waits.{SendsAndWaits}
use Rattle.xa_scan.specs.Left.{ScanView, left_at, place_at, standing}
use Rattle.xa_calls.specs.Putting.{put_refusal}

-- Manager m was asked, and this is its code, or why it wasn't asked.
pub data Answers (m : ℕ) (old : DeskView) (op : Op) (new : DeskView) (code : Code) : Type 0 where
  refused : put_refusal old m false ≡ Some code → new ≡ old → Answers m old op new code
  answered : put_refusal old m false ≡ None → (n : ℕ)
      → Collects (submitted (after_fulls n old m) m op) new (next_operation old.ledgers m) code
      → Answers m old op new code

-- What it is to ask of an op: from a state to a state, with a code. `Answers m` is to ask manager m over a desk.
abbrev pub Asking : Type 0 → Type 1
Asking D = D → Op → D → Code → Type 0

-- It was asked of the first k of the xids one after another, of each while fewer than `room` were found, and these were
-- found: those that were answered XA_OK; the others were answered XAER_NOTA.
pub data RecoverLooks {D : Type 0} (asking : Asking D) (room : ℕ) (xids : List XidName) (old : D)
    : ℕ → List XidName → D → Type 0 where
  begun : RecoverLooks asking room xids old 0 [] old
  finds : (k : ℕ) (xs : List XidName) (d e : D) (x : XidName) → RecoverLooks asking room xids old k xs d
      → length xs < room
      → slice_get xids k ≡ Some x → asking d (Listed (Some x)) e Done
      → RecoverLooks asking room xids old (suc k) (xs ++ x ∷ []) e
  passes : (k : ℕ) (xs : List XidName) (d e : D) (x : XidName) → RecoverLooks asking room xids old k xs d
      → length xs < room
      → slice_get xids k ≡ Some x → asking d (Listed (Some x)) e Nota → RecoverLooks asking room xids old (suc k) xs e

-- Of these xids it was asked until `room` were found or there were no more, or until another code was answered.
pub data Scans {D : Type 0} (asking : Asking D) (room : ℕ) (xids : List XidName) (old new : D) (found : List XidName)
    : Result ℕ Code → Type 0 where
  filled : (looked : ℕ) → RecoverLooks asking room xids old looked found new → length found ≡ room
      → Scans asking room xids old new found (Ok looked)
  ended : RecoverLooks asking room xids old (length xids) found new
      → Scans asking room xids old new found (Ok (length xids))
  stopped : (k : ℕ) (d : D) (x : XidName) (why : Code) → RecoverLooks asking room xids old k found d
      → length found < room
      → slice_get xids k ≡ Some x → asking d (Listed (Some x)) new why → why ≢ Done → why ≢ Nota
      → Scans asking room xids old new found (Err why)

-- how many were found, and how many were looked at
abbrev pub looked_at : Result (ℕ × ℕ) Code → Result ℕ Code
looked_at (Ok r) = Ok r.1
looked_at (Err why) = Err why

-- what was found stands at the head of the slice, and the rest of it as it was
abbrev pub with_found : List XidName → List XidName → List XidName
with_found found xids = found ++ drop (length found) xids

-- ---- xa_recover

-- where a scan in this mode begins: at the first, or where it stands, if one is open
abbrev pub scan_start : Mode → Option ℕ → Option ℕ
scan_start mode place = if mode.start_scan then Some 0 else place

-- where it stands after that
abbrev pub scan_end : Mode → ℕ → Option ℕ
scan_end mode place = if mode.end_scan then None else Some place

-- for how many xids there is room: for no more than an answer can tell
abbrev pub room_in : List XidName → ℕ
room_in xids = min (length xids) 2147483647

-- What becomes of a scan of manager m from a place on. It isn't reached, where the manager doesn't answer; it is
-- stopped by a code of the manager, which leaves the scan as it was; or it tells how many it found, and stands after
-- the last that was looked at. What was found is written.
pub data Recovers {D : Type 0} (asking : Asking D) (m : ℕ) (mode : Mode) (place : ℕ) (old : D) (z : ScanView)
    (xids : List XidName) (new : D) (z' : ScanView) (xids' : List XidName) : Result ℕ Code → Type 0 where
  unreached : (why : Code) → asking old (Listed None) new why → why ≢ Done → z' ≡ z → xids' ≡ xids
      → Recovers asking m mode place old z xids new z' xids' (Err why)
  stopped : (mid : D) (found : List XidName) (why : Code) → asking old (Listed None) mid Done
      → Scans asking (room_in xids) (drop place (left_at z m)) mid new found (Err why) → z' ≡ z
      → xids' ≡ with_found found xids → Recovers asking m mode place old z xids new z' xids' (Err why)
  told : (mid : D) (found : List XidName) (looked : ℕ) → asking old (Listed None) mid Done
      → Scans asking (room_in xids) (drop place (left_at z m)) mid new found (Ok looked)
      → z' ≡ standing z m (scan_end mode (place + looked)) → xids' ≡ with_found found xids
      → Recovers asking m mode place old z xids new z' xids' (Ok (length found))

-- nothing is done, for this reason
pub record IsInVain {D : Type 0} (why : Code) (old : D) (z : ScanView) (xids : List XidName) (new : D) (z' : ScanView)
    (xids' : List XidName) (r : Result ℕ Code) : Type 0 where
  pub answer : r ≡ Err why
  pub state : new ≡ old
  pub scan : z' ≡ z
  pub written : xids' ≡ xids

-- from where a scan in this mode stands, if one is open
abbrev pub RecoversFrom : {D : Type 0} → Asking D → Option ℕ → ℕ → Mode → D → ScanView → List XidName → D → ScanView
    → List XidName → Result ℕ Code → Type 0
RecoversFrom asking None m mode old z xids new z' xids' r = IsInVain Inval old z xids new z' xids' r
RecoversFrom asking (Some place) m mode old z xids new z' xids' r =
    Recovers asking m mode place old z xids new z' xids' r

-- of a manager that there is
abbrev pub RecoversAt : {D : Type 0} → Asking D → Bool → ℕ → Mode → D → ScanView → List XidName → D → ScanView
    → List XidName → Result ℕ Code → Type 0
RecoversAt asking false m mode old z xids new z' xids' r = IsInVain Inval old z xids new z' xids' r
RecoversAt asking true m mode old z xids new z' xids' r =
    RecoversFrom asking (scan_start mode (place_at z m)) m mode old z xids new z' xids' r

-- where the flags have a mode
abbrev pub RecoversBy : {D : Type 0} → Asking D → Bool → Result Mode Code → ℕ → D → ScanView → List XidName → D
    → ScanView
    → List XidName → Result ℕ Code → Type 0
RecoversBy asking there (Err why) m old z xids new z' xids' r = IsInVain why old z xids new z' xids' r
RecoversBy asking there (Ok mode) m old z xids new z' xids' r = RecoversAt asking there m mode old z xids new z' xids' r

-- the number of what was written, or the code
abbrev pub told_as : Result ℕ Code → ℤ
told_as (Ok n) = pos n
told_as (Err why) = number_of why

-- xa_recover with these flags
pub record HasRecovered (m flags : ℕ) (old : DeskView) (z : ScanView) (xids : List XidName) (new : DeskView)
    (z' : ScanView) (xids' : List XidName) (answer : ℤ) : Type 0 where
  pub result : Result ℕ Code
  pub recovers : RecoversBy (Answers m) (is_known old.ledgers m) (check_flags call.Recover flags) m old z xids new z'
      xids' result
  pub answered : answer ≡ told_as result

-- Whether manager m is asked by a scan in this mode: it is there, a scan of it is open or begins, and the desk refuses
-- nothing. Only then a recover may wait.
abbrev pub asks_at : DeskView → ScanView → ℕ → Mode → Bool
asks_at d z m mode =
    is_known d.ledgers m && (is_some (scan_start mode (place_at z m)) && not (is_some (put_refusal d m false)))

-- so where the flags have a mode
abbrev pub asks : DeskView → ScanView → ℕ → Result Mode Code → Bool
asks d z m (Err why) = false
asks d z m (Ok mode) = asks_at d z m mode

-- ---- how a scan waits

module _ {I : Type 0} where
  -- What it is to ask manager m over a desk with what was lent to idle with: the manager answers, and was waited for as
  -- the desk waits for it, which is to idle at m alone; or it isn't asked, and nothing idles.
  pub record AsksAndWaits (by : ℕ → I → I → Type 0) (m : ℕ) (old : DeskView × I) (op : Op) (new : DeskView × I)
      (code : Code) : Type 0 where
    pub answers : Answers m old.0 op new.0 code
    pub waits : put_refusal old.0 m false ≡ None → SendsAndWaits (by m) old.0 new.0 old.1 new.1 m op code
    pub stays : put_refusal old.0 m false ≡ Some code → new.1 ≡ old.1

  -- xa_recover with these flags, each request of which was so waited for
  pub record RecoversAndWaits (by : ℕ → I → I → Type 0) (m flags : ℕ) (old : DeskView × I) (z : ScanView)
      (xids : List XidName) (new : DeskView × I) (z' : ScanView) (xids' : List XidName) (answer : ℤ) : Type 0 where
    pub result : Result ℕ Code
    pub recovers : RecoversBy (AsksAndWaits by m) (is_known old.0.ledgers m) (check_flags call.Recover flags) m old
        z xids new z' xids' result
    pub answered : answer ≡ told_as result
