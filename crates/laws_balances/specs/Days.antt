-- What accounts are worth after openings one after another.
use Rattle.std.specs.Prelude.{◌≡◌, ℕ, ℤ, pos, ◌+ℤ◌, Bool, if◌then◌else◌, List, ◌∷◌, map}
use Rattle.std.specs.List.{All, IsDistinct}
use Rattle.xa_base.specs.Sums.{total}
use Rattle.xa_words.specs.Xid.{XidName, xid_eq}
use Rattle.xa_tables.specs.ManagerTables.{Tables}
use Rattle.xa_tables.specs.Histories.{History, Absent}
use Rattle.xa_tables.specs.Openings.{left_by, fate_left}
use Rattle.xa_tables.specs.Worth.{worth}
use Rattle.laws_balances.specs.MovedOver.{moved_over, is_for, CommitsNowhere, CommitsAmong}
use Rattle.laws_balances.specs.Course.{Votes, voted_sum, OnlyTold, ended_by_commit}

-- the worth after the openings is what it was before them and what the Commits of each branch have moved
abbrev pub WorthIsOfBranches : List (List ℕ × ℕ) → List XidName → List History → Tables → Type 0
WorthIsOfBranches accounts xs hs T =
    worth accounts (left_by hs T) ≡ worth accounts T +ℤ total (λ x. moved_over accounts (is_for x) hs T) xs

-- a branch of a transaction at one manager: whether the transaction is recorded, and what the branch counts for then
pub record DayLeg : Type 0 where
  pub xid : XidName
  pub recorded : Bool
  pub sum : ℤ

-- what it counts for
abbrev pub counted_for : DayLeg → ℤ
counted_for g = if g.recorded then g.sum else pos 0

-- How a branch came out, in an opening with the history h and those after it.
pub data ComesOut (accounts : List (List ℕ × ℕ)) (T : Tables) (h : History) (later : List History) (g : DayLeg)
    : Type 0 where
  -- it voted to commit, and was committed if its transaction was recorded, and only then: it counts for what it held
  voted : (votes : Votes g.xid h T) → All (OnlyTold g.xid) later
      → ended_by_commit (fate_left g.xid Absent (h ∷ later) T) ≡ g.recorded
      → g.sum ≡ voted_sum accounts g.xid h T votes → ComesOut accounts T h later g
  -- nothing commits it, as a branch that changed nothing, and it counts for nothing
  unasked : All (CommitsNowhere g.xid) (h ∷ later) → counted_for g ≡ pos 0 → ComesOut accounts T h later g

-- A day and what follows it at one manager, from the tables T on: all that is committed is of these branches.
pub record IsDay (accounts : List (List ℕ × ℕ)) (T : Tables) (h : History) (later : List History)
    (legs : List DayLeg) : Type 0 where
  pub distinct : IsDistinct xid_eq (map (λ g. g.xid) legs)
  pub among : All (CommitsAmong (map (λ g. g.xid) legs)) (h ∷ later)
  pub each : All (ComesOut accounts T h later) legs

-- the worth after it is what it was before and what the branches of recorded transactions counted for
abbrev pub WorthIsRecorded : List (List ℕ × ℕ) → Tables → History → List History → List DayLeg → Type 0
WorthIsRecorded accounts T h later legs =
    worth accounts (left_by (h ∷ later) T) ≡ worth accounts T +ℤ total counted_for legs
