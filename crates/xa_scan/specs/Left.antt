-- What a reopening found left at the managers, and where a thread's scans of it stand.
use Rattle.std.specs.Prelude.{◌≡◌, ℕ, zero, suc, ◌≤◌, Option, None, Some, List, [], length, map, Vec, slice_index_or}
use Rattle.std.specs.Prelude.{slice_set, replicate}
use Rattle.std.specs.Arc.{arc_value}
use Rattle.std.specs.declared.sync.Arc.{Arc}
use Rattle.xa_base.specs.declared.limits.TheConstants.{MOST_MANAGERS}
use Rattle.xa_words.specs.Xid.{XidName}

-- of each manager what the reopening found left, and where the thread's scan stands: none where none is open, else
-- after how many of these
pub record ScanView : Type 0 where
  pub left : List (List XidName)
  pub places : List (Option ℕ)

-- what was left at manager m, nothing for no manager
abbrev pub left_at : ScanView → ℕ → List XidName
left_at z zero = []
left_at z (suc k) = slice_index_or z.left k []

-- where the scan of manager m stands
abbrev pub place_at : ScanView → ℕ → Option ℕ
place_at z zero = None
place_at z (suc k) = slice_index_or z.places k None

-- the scan of manager m stands here
abbrev pub standing : ScanView → ℕ → Option ℕ → ScanView
standing z zero place = z
standing z (suc k) place = record z { places = slice_set z.places k place }

-- what contracts see of a scan
abbrev pub lists_in : {Z : Type 0} → Option (Arc (Vec (Vec XidName Z) Z) Z) → List (List XidName)
lists_in None = []
lists_in (Some shared) = map (λ xs. xs.items) (arc_value shared).items

abbrev pub scan_of : {Z : Type 0} → Option (Arc (Vec (Vec XidName Z) Z) Z) → List (Option ℕ) → ScanView
scan_of left places = record { left = lists_in left; places = places }

-- each stands within what was left
pub record IsScan (z : ScanView) : Type 0 where
  pub within : (m k : ℕ) → place_at z m ≡ Some k → k ≤ length (left_at z m)

-- no scan is open
abbrev pub NoneOpen : ScanView → Type 0
NoneOpen z = (m : ℕ) → place_at z m ≡ None

-- that of a first opening
abbrev pub no_scan : ScanView
no_scan = record { left = []; places = replicate MOST_MANAGERS None }
