-- What accounts are worth after settled openings one after another, of which the first had commits and those after it
-- resolves.
use Rattle.std.specs.Prelude.{◌≡◌, ℕ, pos, ◌+ℤ◌, None, List, ◌∷◌, map}
use Rattle.std.specs.List.{All, IsDistinct}
use Rattle.xa_base.specs.Sums.{total}
use Rattle.xa_words.specs.Xid.{XidName, xid_eq}
use Rattle.xa_tables.specs.ManagerTables.{Tables, state_of}
use Rattle.xa_tables.specs.Worth.{worth}
use Rattle.xa_switch.specs.Fates.{history}
use Rattle.xa_driver.specs.declared.branch.Branch.{Branch}
use Rattle.xa_driver.specs.declared.done.Ending.{Ending}
use Rattle.laws_commit.specs.Resolution.{Opening, EndsAs, last_of, tables_left}
use Rattle.laws_commit.specs.Worth.{histories}
use Rattle.laws_balances.specs.MovedOver.{CommitsNowhere, CommitsAmong}
use Rattle.laws_balances.specs.Course.{Votes, voted_sum, OnlyTold}
use Rattle.laws_balances.specs.Days.{DayLeg, counted_for}

-- the branch with this name at manager m
abbrev pub branch_at : ℕ → XidName → Branch
branch_at m x = record { m = m; xid = x }

-- How a branch at manager m came out, in the opening o, where the manager began with T, and those after it.
pub data ComesOutByTheLog (accounts : List (List ℕ × ℕ)) (m : ℕ) (T : Tables) (o : Opening) (later : List Opening)
    (g : DayLeg) : Type 0 where
  -- it didn't exist before; it voted to commit, was only told its outcome from then on, and ended by the record
  voted : state_of T g.xid ≡ None → (votes : Votes g.xid (history o.settled m) T)
      → All (OnlyTold g.xid) (histories m later) → (known : Ending)
      → EndsAs g.recorded o later (branch_at m g.xid) known
      → g.sum ≡ voted_sum accounts g.xid (history o.settled m) T votes → ComesOutByTheLog accounts m T o later g
  -- nothing commits it, as a branch that changed nothing or whose transaction isn't recorded, and it counts for nothing
  unasked : All (CommitsNowhere g.xid) (histories m (o ∷ later)) → counted_for g ≡ pos 0
      → ComesOutByTheLog accounts m T o later g

-- Openings at manager m, from the tables T on: all that is committed is of these branches.
pub record IsSettledDay (accounts : List (List ℕ × ℕ)) (m : ℕ) (T : Tables) (o : Opening) (later : List Opening)
    (legs : List DayLeg) : Type 0 where
  pub distinct : IsDistinct xid_eq (map (λ g. g.xid) legs)
  pub among : All (CommitsAmong (map (λ g. g.xid) legs)) (histories m (o ∷ later))
  pub each : All (ComesOutByTheLog accounts m T o later) legs

-- the worth in the manager's last tables is what it was before and what the branches of recorded transactions counted
-- for
abbrev pub SettledWorthIsRecorded : List (List ℕ × ℕ) → ℕ → Tables → Opening → List Opening → List DayLeg → Type 0
SettledWorthIsRecorded accounts m T o later legs =
    worth accounts (tables_left (last_of o later) m) ≡ worth accounts T +ℤ total counted_for legs
