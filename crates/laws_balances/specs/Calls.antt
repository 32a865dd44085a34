-- What a commit and a resolve say of the requests that name a branch.
use Rattle.std.specs.Prelude.{◌≡◌, ℕ, true, false, length}
use Rattle.std.specs.List.{All, Contains}
use Rattle.xa_words.specs.Xid.{XidName}
use Rattle.xa_tables.specs.ManagerTables.{Tables}
use Rattle.xa_tables.specs.Histories.{History}
use Rattle.xa_tables.specs.Prepared.{names, is_heur}
use Rattle.xa_switch.specs.Fates.{history}
use Rattle.xa_switch.specs.Settled.{Settling}
use Rattle.xa_driver.specs.declared.branch.Branch.{Branch}
use Rattle.xa_driver.specs.Commits.{is_commit}
use Rattle.xa_driver.specs.Resolving.{is_to_commit}
use Rattle.laws_commit.specs.Conservation.{taken_before}
use Rattle.laws_commit.specs.Outcomes.{IsBetween}
use Rattle.laws_commit.specs.Calls.{CommitCall, ResolveCall, after_at, prepare_at}
use Rattle.laws_commit.specs.Resolution.{Opening, resolves}
use Rattle.laws_balances.specs.Course.{Votes}

-- no request of the history decides x heuristically
abbrev pub DecidesNowhere : XidName → History → Type 0
DecidesNowhere x h = All (λ r. names x r.op ≡ true → is_heur r.op ≡ false) h

-- what the branch's manager took before the call asked the branch to prepare
abbrev pub taken_till_asked : CommitCall → Settling → Branch → History
taken_till_asked k s b = taken_before k.thread (prepare_at k b) (history s b.m)

-- the branch voted to commit, as the call asked it to prepare
pub record VotedInCall (k : CommitCall) (s : Settling) (b : Branch) (T : Tables) : Type 0 where
  pub votes : Votes b.xid (history s b.m) T
  pub asked : votes.before ≡ taken_till_asked k s b

-- no resolve of the opening has a record by which it would commit x at manager m
abbrev pub IsMarkedNowhere : ℕ → XidName → Opening → Type 0
IsMarkedNowhere m x o = (q : ResolveCall) → Contains o.uses (resolves q) → is_to_commit q.records m x ≡ false

-- each request that commits the branch has a number of the call's own
abbrev pub CommitsInCall : CommitCall → Settling → Branch → Type 0
CommitsInCall k s b =
    All
    (λ r. names b.xid r.op ≡ true → is_commit r.op ≡ true
    → IsBetween k.thread (prepare_at k b) (length (after_at k b).sent) r)
    (history s b.m)
