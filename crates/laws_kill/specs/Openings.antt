-- Openings one after another, each ended in order or killed at any moment, and what threads did in them.
use Rattle.std.specs.Prelude.{◌≡◌, ◌≢◌, ℕ, ◌≤◌, Bool, Option, None, Some, true, List, [], ◌∷◌, ◌++◌, length, map}
use Rattle.std.specs.List.{All, range_with_len}
use Rattle.xa_base.specs.declared.limits.TheConstants.{MOST_MANAGERS}
use Rattle.xa_words.specs.Tran.{TranName}
use Rattle.xa_words.specs.declared.code.Code.TheVariants.{RmFail}
use Rattle.xa_tables.specs.ManagerTables.{Tables}
use Rattle.xa_tables.specs.Openings.{AreLeft}
use Rattle.xa_desk.specs.LedgerViews.{LedgerView}
use Rattle.xa_desk.specs.Growth.{HaveGrown}
use Rattle.xa_scan.specs.Left.{left_at}
use Rattle.xa_switch.specs.declared.plan.Again.{Again}
use Rattle.xa_switch.specs.Plans.{Setup, setup}
use Rattle.xa_switch.specs.Settled.{Settling, IsSettled}
use Rattle.xa_switch.specs.OfPlans.{IsOf}
use Rattle.xa_switch.specs.Fates.{first_of, ledgers_of}
use Rattle.xa_switch.specs.Reopening.{IsWhole, managers_in, reopened_at}
use Rattle.xa_log.specs.Log.{Records, all_records, record_in, record_of}
use Rattle.xa_driver.specs.declared.branch.Branch.{Branch}
use Rattle.xa_driver.specs.Trace.{IsTranOf}
use Rattle.laws_commit.specs.Calls.{CommitCall, ResolveCall}
use Rattle.laws_commit.specs.Cut.{IsCut}
use Rattle.laws_commit.specs.Presumed.{VotedToCommit, known_of}
use Rattle.laws_commit.specs.Resolution.{AskedAreLeft, EndsAs, HasBranchLeft, HasLeftOf, IsOutcomeOf, IsUseIn}
use Rattle.laws_commit.specs.Resolution.{OnlyResolves, Opening, commits, resolves, with_resolves, with_use}
use Rattle.laws_balances.specs.Recorded.{OnlyRead}
use Rattle.laws_kill.specs.Crashes.{Crash, IsCrash, ledgers_then}
use Rattle.laws_kill.specs.AsSettled.{as_settled}

-- ---- how an opening ended

-- in order, and this is what it was settled to; or by a kill, and this is what the kill left
pub data HowEnded : Type 0 where
  in_order : Settling → HowEnded
  killed : Crash → HowEnded

-- the settled opening that it is as: a kill is as a Shut of each manager
abbrev pub settled_as : HowEnded → Settling
settled_as (in_order s) = s
settled_as (killed c) = as_settled c

-- the ledgers that thread t had as it ended
abbrev pub ledgers_at_end : HowEnded → ℕ → List LedgerView
ledgers_at_end (in_order s) t = ledgers_of s t
ledgers_at_end (killed c) t = ledgers_then c t

-- of each manager the tables that the next opening finds
abbrev pub tables_found : HowEnded → List Tables
tables_found (in_order s) = map (reopened_at s.managers) (range_with_len 1 (managers_in s))
tables_found (killed c) = map (λ p. p.found) c.managers

-- The opening with this setup was settled as s: what `settle` promises.
pub record EndsInOrder (p : Setup) (s : Settling) : Type 0 where
  pub settled : IsSettled s
  pub whole : IsWhole s
  pub of : IsOf p s

-- the opening with this setup ended so
abbrev pub IsEndOf : Setup → HowEnded → Type 0
IsEndOf p (in_order s) = EndsInOrder p s
IsEndOf p (killed c) = IsCrash p c

-- ---- what threads did in it

-- The thread of the commit had begun it, and came as far as it is cut: its ledgers have grown since.
pub record WasBegunIn (h : HowEnded) (k : CommitCall) : Type 0 where
  pub cut : IsCut k
  pub grown : HaveGrown k.new (ledgers_at_end h k.thread)

-- an opening: its setup, how it ended, the commits that its threads began, finished or cut short, and the resolves
pub record EndedOpening : Type 0 where
  pub setup : Setup
  pub how : HowEnded
  pub begun : List CommitCall
  pub resolved : List ResolveCall

-- It ended so, and its threads made these calls. Of a resolve that a kill cut short only those branches are in its scan
-- that it came to.
pub record IsEndedOpening (o : EndedOpening) : Type 0 where
  pub ended : IsEndOf o.setup o.how
  pub begun : All (WasBegunIn o.how) o.begun
  pub resolved : All (λ q. IsUseIn (settled_as o.how) (resolves q)) o.resolved

-- the settled opening that it is as, with its resolves; and with the commit alone
abbrev pub as_opening : EndedOpening → Opening
as_opening o = with_resolves (settled_as o.how) o.resolved

abbrev pub with_commit : EndedOpening → CommitCall → Opening
with_commit o k = with_use (settled_as o.how) (commits k)

-- ---- one after another

-- The opening with this setup was made over what was left: each manager begins with the tables that are found of it.
pub record IsOpenedOver (h : HowEnded) (p : Setup) : Type 0 where
  pub again : Again
  pub flags : List Bool
  pub as_many : length flags ≡ length (tables_found h)
  pub made : p ≡ setup again flags (tables_found h)

-- the first of these, if there is one, was opened over what was left
abbrev pub NextIsOpenedOver : HowEnded → List EndedOpening → Type 0
NextIsOpenedOver h [] = Unit {0}
NextIsOpenedOver h (p ∷ ps) = IsOpenedOver h p.setup

-- each was opened over what the one before it left
abbrev pub AreOpenedInTurn : List EndedOpening → Type 0
AreOpenedInTurn [] = Unit {0}
AreOpenedInTurn (o ∷ os) = NextIsOpenedOver o.how os × AreOpenedInTurn os

-- openings one after another
pub record FollowEachOther (os : List EndedOpening) : Type 0 where
  pub each : All IsEndedOpening os
  pub in_turn : AreOpenedInTurn os

-- ---- the resolve of the last one

-- The records are those of all coordinators' logs, read as one: one log has this of the transaction, and no other log
-- has a record of it.
pub record AreReadOfAllLogs (t : TranName) (has : Option (List Bool)) (records : Records) : Type 0 where
  pub before : List Records
  pub own : Records
  pub after : List Records
  pub all : records ≡ all_records (before ++ own ∷ after)
  pub keeps : record_in own t ≡ has
  pub alone : All (λ log. record_in log t ≡ None) (before ++ after)

-- In the last of these openings a thread resolves, among others perhaps, with a scan of all that was left as it began.
pub record LastResolves (os : List EndedOpening) (q : ResolveCall) : Type 0 where
  pub between : List EndedOpening
  pub last : EndedOpening
  pub is_last : os ≡ between ++ last ∷ []
  pub earlier : List ResolveCall
  pub others : List ResolveCall
  pub among : last.resolved ≡ earlier ++ q ∷ others
  pub scan : (m : ℕ) (T : Tables) → first_of (settled_as last.how) m ≡ Some T → AreLeft (left_at q.scan m) T

-- A commit of the opening o is left to the resolves of the later ones, the last of which is q.
pub record IsLeftToResolves (k : CommitCall) (o : EndedOpening) (later : List EndedOpening) (q : ResolveCall)
    : Type 0 where
  -- the desk has no more managers than a record has places for
  pub few : length k.desk.ledgers ≤ MOST_MANAGERS
  -- from its Prepares on nobody but the commit names its branches in its opening, but for heuristic decisions
  pub own : AskedAreLeft k (settled_as o.how)
  -- if one of the branches was left, each later resolve goes by all logs, of which the commit's own has what it left
  pub log : HasBranchLeft k.branches (settled_as o.how)
      → (t : TranName) → IsTranOf k.branches t
      → All (λ p. All (λ r. AreReadOfAllLogs t (record_of k.later t) r.records) p.resolved) later
  -- and nothing but resolves names the transaction later
  pub only : (t : TranName) → IsTranOf k.branches t → HasLeftOf t (settled_as o.how)
      → All (λ p. OnlyResolves t (as_opening p)) later
  -- the last resolve reached each branch of the commit that it was to end
  pub reached : All (λ r. IsOutcomeOf k.branches r → r.code ≢ RmFail) q.outcomes

-- ---- what is there of a transaction that was committed

-- The branch is there, whole: it voted to commit and ended committed, or was decided heuristically, and this is told;
-- or it had changed nothing.
pub data IsThere (k : CommitCall) (o : Opening) (later : List Opening) (b : Branch) : Type 0 where
  ended : VotedToCommit k o.settled b → EndsAs true o later b (known_of k b) → IsThere k o later b
  unchanged : OnlyRead k o.settled b → IsThere k o later b
