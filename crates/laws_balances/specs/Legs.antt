-- The leg of a commit's branch, by what its manager took.
use Rattle.std.specs.Prelude.{◌≡◌, ℕ, ℤ, false, None, List}
use Rattle.std.specs.List.{All}
use Rattle.xa_words.specs.Tran.{TranName}
use Rattle.xa_tables.specs.ManagerTables.{Tables, state_of}
use Rattle.xa_tables.specs.Histories.{tables_after}
use Rattle.xa_tables.specs.Worth.{held_by}
use Rattle.xa_switch.specs.Fates.{history}
use Rattle.xa_switch.specs.Settled.{Settling}
use Rattle.xa_driver.specs.declared.branch.Branch.{Branch}
use Rattle.laws_commit.specs.Cut.{is_recorded}
use Rattle.laws_commit.specs.Calls.{CommitCall}
use Rattle.laws_commit.specs.Resolution.{OnlyResolves, Opening}
use Rattle.laws_balances.specs.Calls.{CommitsInCall, DecidesNowhere, IsMarkedNowhere, taken_till_asked}
use Rattle.laws_balances.specs.Days.{DayLeg}
use Rattle.laws_balances.specs.MovedOver.{CommitsNowhere}
use Rattle.laws_balances.specs.Recorded.{OnlyRead}

-- what the branch held as the call asked it to prepare, where its manager began with the tables T
abbrev pub asked_sum : List (List ℕ × ℕ) → CommitCall → Settling → Tables → Branch → ℤ
asked_sum accounts k s T b = held_by accounts b.xid (tables_after (taken_till_asked k s b) T)

-- it counts for that where the log has the transaction's record
abbrev pub leg_of : List (List ℕ × ℕ) → CommitCall → TranName → Settling → Tables → Branch → DayLeg
leg_of accounts k t s T b =
    record { xid = b.xid; recorded = is_recorded k.later t; sum = asked_sum accounts k s T b }

-- The branch is the call's own: it didn't exist before the opening o, nobody else commits or decides it there, and
-- later nothing but resolves names it, by no record of it where the log has none, and where it only read.
pub record IsItsOwn (k : CommitCall) (t : TranName) (o : Opening) (later : List Opening) (T : Tables) (b : Branch)
    : Type 0 where
  pub fresh : state_of T b.xid ≡ None
  pub before : CommitsNowhere b.xid (taken_till_asked k o.settled b)
  pub within : CommitsInCall k o.settled b
  pub plain : DecidesNowhere b.xid (history o.settled b.m)
  pub later_only : All (OnlyResolves t) later
  pub unmarked : is_recorded k.later t ≡ false → All (IsMarkedNowhere b.m b.xid) later
  pub unread : OnlyRead k o.settled b → All (IsMarkedNowhere b.m b.xid) later
