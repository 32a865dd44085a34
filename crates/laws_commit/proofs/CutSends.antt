-- What a commit sent that was cut short goes by the record: no Commit without one, and no Rollback with one.
use Rattle.xa_base.proofs.{none_all, arith, All-contains, ◌&&◌, is_some, ◌⊎◌, ◌≡◌, ℕ, ◌≤◌, Bool, true, false, ◌==◌}
use Rattle.xa_base.proofs.{List, map, get_or, sym, refl, ap, ◌∙◌, Some, None, All, eqb-true, all_unmapped, by_bool, ◌≢◌}
use Rattle.xa_base.proofs.{◌<◌, ◌++◌, length, ⊎_elim, Option, Contains, cases_lt, false_from_ne_true, and_left}
use Rattle.xa_base.proofs.{and_right, true_from_ne_false, both_ways, Contains-get_or, Any-from_list_any}
use Rattle.xa_driver.specs.{Prepared, Done, AreBranchesRising, IsTranOf, Logs, decision_of, Branch, Ending, Decided}
use Rattle.xa_driver.specs.{Ask, HaveComeSoFar, IsBegun, SameAsks, among_asks, is_commit, is_yes, yes_of, second_op}
use Rattle.xa_driver.specs.{code_of_ask, second_ask, yes_asked, HasSentNone, HasDecided, HasPrepared, Outcome, Told}
use Rattle.xa_driver.specs.{third_op, outcome_op, AsksLedger, first_ask, third_ask, HasTold, AtBranch}
use Rattle.xa_words.specs.{XidName, TranName, Op, Prepare, Forget, Code, xid_eq, Decides-xid_eq}
use Rattle.xa_tables.specs.{names}
use Rattle.xa_desk.specs.{LedgerView, ledger, HaveGrown}
use Rattle.laws_commit.specs.{DecisionOf, after_at, before_at, CameSoFar, CommitCall, IsFinished, GoesByTheRecord}
use Rattle.laws_commit.specs.{IsCut, NoneWasToldToCommit, NoneWasToldToRollBack, is_recorded, is_rollback, AreOthers}
use Rattle.laws_commit.specs.{DidOther, DidOnly, LeavesBranches, IsAsPromised, IsOutcomeOf, ResolveCall, resolves}
use Rattle.xa_log.specs.{LogState, record_of}
use Rattle.xa_driver.proofs.Requests.{carried}
use Rattle.xa_driver.proofs.Mapped.{IsAskedFor, branch_mapped}
use Rattle.xa_driver.proofs.Calls.{one_tran, seconds_are}
use Rattle.xa_base.specs.{MOST_MANAGERS}
use Rattle.laws_commit.proofs.CutVotes.{CameAt, IsVoteOf, each_came, at_asking, at_forgetting, at_telling, begun_sends}
use Rattle.laws_commit.proofs.CutVotes.{ended_voted, told_voted, did_nothing, HasVoted, all_sent}
use Rattle.laws_commit.proofs.OneOutcome.{recorded_is, none_on_abort, second_so, third_so, every_manager, positive_all}
use Rattle.laws_commit.proofs.Resolves.{on, stays, sends_on, resolve_sends, sends_for, sent_none}

abbrev pub Unnamed : XidName → Op → Type 0
Unnamed x op = names x op ≡ false

-- ---- what isn't among what was sent

-- as far as it came, where no Prepare and no Forget is bad, and no second request of a vote that is so
module _ (bad : Op → Bool) (prepares : (x : XidName) → bad (Prepare x) ≡ false)
    (forgets : (x : XidName) → bad (Forget x) ≡ false) (Ok : Bool → Code → Type 0)
    (good : (commit : Bool) (x : XidName) (v : Code) → Ok commit v → (P : Op → Type 0)
    → ((op : Op) → bad op ≡ false → P op) → IsAskedFor P (second_op commit x v))
    (c : CommitCall) where
  open c use {branches as bs}

  -- it isn't so of the branch
  abbrev Good : XidName → Op → Type 0
  Good x op = (names x op && bad op) ≡ false

  abbrev None_ : Branch → Type 0
  None_ b = HasSentNone (λ op. names b.xid op && bad op) (before_at c b) (after_at c b)

  good_so : (x : XidName) (op : Op) → bad op ≡ false → Good x op
  good_so x op = and_right (names x op) (bad op)

  other_good : (x : XidName) (op : Op) → names x op ≡ false → Good x op
  other_good x op = and_left (names x op) (bad op)

  none_sent : (b : Branch) → DidOnly (Good b.xid) (before_at c b) (after_at c b) → None_ b
  none_sent b = sent_none (λ op. names b.xid op && bad op) (before_at c b) (after_at c b)

  none_bad : {tran : TranName} → AreBranchesRising 0 bs → CameSoFar tran c
      → ((d : DecisionOf tran c) → All (Ok d.commit) d.votes) → All None_ bs
  none_bad {tran} rising far ok j d lt = at_branch (get_or bs j d) (each_came c rising far j d lt)
    where
      second : (d : DecisionOf tran c) (b : Branch) (v : Code) → IsVoteOf bs d.votes b v
          → IsAskedFor (Good b.xid) (second_op d.commit b.xid v)
      second d b v vote =
          good d.commit b.xid v (All-contains (Ok d.commit) d.votes v (ok d) vote.among) (Good b.xid) (good_so b.xid)

      voted_good : (b : Branch) (v : Code) → HasVoted (Good b.xid) b v (before_at c b) (after_at c b) → None_ b
      voted_good b v h =
          none_sent b
          (all_sent (Good b.xid) b v (before_at c b) (after_at c b) (good_so b.xid (Prepare b.xid) (prepares b.xid))
          h)

      at_branch : (b : Branch) → CameAt tran c b → None_ b
      at_branch b (at_asking same h) =
          none_sent b (on (Good b.xid) (before_at c b) h.left (after_at c b)
          (begun_sends (Good b.xid) (Some (Prepare b.xid)) (before_at c b) h.left
          (good_so b.xid (Prepare b.xid) (prepares b.xid)) h.asks)
          (sends_for (Unnamed b.xid) (Good b.xid) (other_good b.xid) h.left (after_at c b) h.after))
      at_branch b (at_telling d v vote h) =
          voted_good b v
          (told_voted (Good b.xid) d.commit b v (before_at c b) (after_at c b) (other_good b.xid)
          (second d b v vote) h)
      at_branch b (at_forgetting d v vote z h) =
          voted_good b v
          (ended_voted (Good b.xid) d.commit b v (before_at c b) (after_at c b) (other_good b.xid)
          (second d b v vote) z
          (third_so (Good b.xid) b.xid z (λ _. good_so b.xid (Forget b.xid) (forgets b.xid))) h)

-- ---- by the record

-- on abort no second request is a Commit, and none is of a vote that isn't to commit
abbrev pub NotToCommit : Bool → Code → Type 0
NotToCommit commit v = (commit ≡ false) ⊎ (is_yes v ≡ false)

pub no_commit_so : (commit : Bool) (x : XidName) (v : Code) → NotToCommit commit v → (P : Op → Type 0)
    → ((op : Op) → is_commit op ≡ false → P op)
    → IsAskedFor P (second_op commit x v)
no_commit_so commit x v h P so = search (arith, second_so, both_ways)

pub no_rollback_so : (commit : Bool) (x : XidName) (v : Code) → commit ≡ true → (P : Op → Type 0)
    → ((op : Op) → is_rollback op ≡ false → P op)
    → IsAskedFor P (second_op commit x v)
no_rollback_so commit x v h P so = search (arith, second_so)

module _ (tran : TranName) (log later : LogState) (absent : record_of log tran ≡ None) (votes : List Code)
    (logged : Bool) (managers : List Bool)
    (logs : Logs tran managers votes logged log later) where
  -- where there is no record, it was decided to abort, or no branch voted to commit
  pub undecided_so : is_recorded later tran ≡ false
      → All (λ v. (decision_of votes logged ≡ false) ⊎ (is_yes v ≡ false)) votes
  undecided_so off = search (arith, recorded_is, logs, none_all)

  -- where there is one, it was decided to commit
  pub decided_so : is_recorded later tran ≡ true → decision_of votes logged ≡ true
  decided_so on = search (arith, true_from_ne_false, both_ways, is_some, none_on_abort, logs)

module _ (c : CommitCall) (k : IsCut c) (t : TranName) (of_t : IsTranOf c.branches t) where
  open k use {may.{tran as own}}

  same_tran : own ≡ t
  same_tran = one_tran c.branches own t k.may.some k.may.one of_t

  pub unrecorded_law : is_recorded c.later t ≡ false → NoneWasToldToCommit c
  unrecorded_law off =
      none_bad is_commit (λ x. refl) (λ x. refl) NotToCommit no_commit_so c k.may.rising k.far (λ d.
      rw d.decision
      (undecided_so own c.log c.later k.may.absent d.votes d.logged (yes_of c.branches d.votes) d.logs
      (ap (is_recorded c.later) same_tran ∙ off)))

  pub recorded_law : is_recorded c.later t ≡ true → NoneWasToldToRollBack c
  recorded_law on =
      none_bad is_rollback (λ x. refl) (λ x. refl) (λ commit v. commit ≡ true) no_rollback_so c k.may.rising k.far
      (λ d j v lt.
      d.decision
      ∙ decided_so own c.log c.later k.may.absent d.votes d.logged (yes_of c.branches d.votes) d.logs
      (ap (is_recorded c.later) same_tran ∙ on))

-- ---- the second round alone, to any manager

-- what a round sent that asks for nothing else
pub sends_so_far : (P : Op → Type 0) (m : ℕ) → 1 ≤ m → (ks : List Ask) (at now : List LedgerView)
    → All (λ k. IsAskedFor P k.op) ks → HaveComeSoFar ks at now
    → DidOnly P (ledger at m) (ledger now m)
sends_so_far P m positive ks at now good far =
    by_bool (λ _. DidOnly P (ledger at m) (ledger now m)) (among_asks ks m)
    (λ here.
    let (k, j, below, at_k, same) = Any-from_list_any (λ (j : Ask). j.manager == m) ks here in
    let begun : IsBegun j.op (ledger at j.manager) (ledger now j.manager) = All-contains
    (λ (j : Ask). IsBegun j.op (ledger at j.manager) (ledger now j.manager)) ks j far.each (k, below, at_k) in
    begun_sends P j.op (ledger at m) (ledger now m)
    (All-contains (λ (j : Ask). IsAskedFor P j.op) ks j good (k, below, at_k))
    (rw (eqb-true j.manager m same) at begun))
    (λ other. rw (far.others m positive other) (stays P (ledger at m)))

pub second_round_sends : (bs : List Branch) (start mid : List LedgerView) (log later : LogState) (p : Prepared)
    (d : Decided) (js : List Ask) (at now : List LedgerView)
    → HasPrepared bs start mid p → record_of log p.tran ≡ None → HasDecided p log later d
    → SameAsks (map (second_ask d.decision.commit) d.round.asks.items) js → HaveComeSoFar js at now
    → GoesByTheRecord (is_recorded later p.tran) at now
second_round_sends bs start mid log later p d js at now first absent second same far = record {
  unrecorded = λ off m positive.
      sent_none is_commit (ledger at m) (ledger now m)
      (goes is_commit NotToCommit no_commit_so
      (rw decision
      (undecided_so p.tran log later absent (map code_of_ask p.round.asks.items) d.decision.logged
      (yes_asked p.round.asks.items) logs off)) m positive);
  recorded = λ on m positive.
      sent_none is_rollback (ledger at m) (ledger now m)
      (goes is_rollback (λ commit v. commit ≡ true) no_rollback_so
      (λ k e lt. decision
      ∙ decided_so p.tran log later absent (map code_of_ask p.round.asks.items) d.decision.logged
      (yes_asked p.round.asks.items) logs on) m positive);
}
  where
    decision : d.decision.commit ≡ decision_of (map code_of_ask p.round.asks.items) d.decision.logged
    decision = second.decision ∙ ap (λ vs. decision_of vs d.decision.logged) first.votes

    logs : Logs p.tran (yes_asked p.round.asks.items) (map code_of_ask p.round.asks.items) d.decision.logged log later
    logs = rw first.votes at second.logs

    -- it sends nothing bad, where no second request of such votes is bad
    goes : (bad : Op → Bool) (Ok : Bool → Code → Type 0)
        → ((commit : Bool) (x : XidName) (v : Code) → Ok commit v → (P : Op → Type 0)
        → ((op : Op) → bad op ≡ false → P op) → IsAskedFor P (second_op commit x v))
        → All (Ok d.decision.commit) (map code_of_ask p.round.asks.items) → (m : ℕ) → 1 ≤ m
        → DidOnly (λ op. bad op ≡ false) (ledger at m) (ledger now m)
    goes bad Ok good ok m positive =
        let P : Op → Type 0 = λ op. bad op ≡ false in
        let asked : All (λ j. IsAskedFor P j.op) js =
        carried (second_ask d.decision.commit) (λ k. Ok d.decision.commit (code_of_ask k)) (λ j. IsAskedFor P j.op)
        (λ k j s fine. rw s.op (good d.decision.commit k.xid (code_of_ask k) fine P (λ op e. e))) p.round.asks.items
        js
        (seconds_are js second same) (all_unmapped code_of_ask (Ok d.decision.commit) p.round.asks.items ok) in
        sends_so_far P m positive js at now asked far

-- ---- what doesn't name the branch

-- what a commit asks of another branch
module _ (x y : XidName) (differs : y ≢ x) where
  pub apart : xid_eq y x ≡ false
  apart = false_from_ne_true (xid_eq y x) (λ e. differs ((Decides-xid_eq y x).0 e))

  pub outcome_unnamed : (commit : Bool) → Unnamed x (outcome_op commit y)
  outcome_unnamed commit = grind (arith, apart)

  pub second_unnamed : (commit : Bool) (v : Code) → IsAskedFor (Unnamed x) (second_op commit y v)
  second_unnamed commit v = second_so (Unnamed x) commit y v (outcome_unnamed commit)

  pub third_unnamed : (s : Option Code) → IsAskedFor (Unnamed x) (third_op y s)
  third_unnamed s = third_so (Unnamed x) y s (λ _. apart)

  trace_sends : (commit : Bool) (c : Branch) (v : Code) (s : Option Code) (e : Ending) (a a' : LedgerView) → c.xid ≡ y
      → AtBranch AsksLedger commit c v s e a a'
      → DidOnly (Unnamed x) a a'
  trace_sends commit c v s e a a' same is =
      (branch_mapped (sends_on (Unnamed x) a) commit c v s e a a' is (rw same (second_unnamed commit v))
      (rw same (third_unnamed s)) (rw same apart)).on (stays (Unnamed x) a)

abbrev Others : XidName → List Branch → Type 0
Others x cs = All (λ c. c.xid ≢ x) cs

-- ---- a round of requests that don't name it

module _ (x : XidName) where
  abbrev Clear : Ask → Type 0
  Clear k = (k.xid ≢ x) × IsAskedFor (Unnamed x) k.op

  pub firsts_clear : (cs : List Branch) (ks : List Ask) → Others x cs → SameAsks (map first_ask cs) ks → All Clear ks
  firsts_clear cs ks o s =
      carried first_ask (λ c. c.xid ≢ x) Clear
      (λ c k s differs. (λ e. differs (sym s.xid ∙ e), rw s.op (apart x c.xid differs))) cs ks s o

did_so_far : (x : XidName) (m : ℕ) → 1 ≤ m → (ks : List Ask) (at now : List LedgerView) → All (Clear x) ks
    → HaveComeSoFar ks at now
    → DidOther x (ledger at m) (ledger now m)
did_so_far x m positive ks at now clear far =
    sends_so_far (Unnamed x) m positive ks at now (λ k d lt. (clear k d lt).1) far

-- ---- all branches

module _ (bs cs : List Branch) (rising : AreBranchesRising 0 bs) (others : AreOthers bs cs) where
  each_so : (old new : List LedgerView)
      → ((b : Branch) → 1 ≤ b.m → Others b.xid cs → DidOther b.xid (ledger old b.m) (ledger new b.m))
      → All (λ b. DidOther b.xid (ledger old b.m) (ledger new b.m)) bs
  each_so old new one k d lt = one (get_or bs k d) (positive_all 0 bs rising k d lt) (others k d lt)

  pub far_leaves : (ks : List Ask) (at now : List LedgerView) → ((x : XidName) → Others x cs → All (Clear x) ks)
      → HaveComeSoFar ks at now
      → LeavesBranches bs at now
  far_leaves ks at now none far = search (arith, each_so, did_so_far)

  module _ (asked_at voted_at : List LedgerView) (log later : LogState) (p : Prepared) (d : Decided)
      (first : HasPrepared cs asked_at voted_at p)
      (second : HasDecided p log later d) where
    pub told_clear : (js : List Ask) → SameAsks (map (second_ask d.decision.commit) d.round.asks.items) js
        → (x : XidName) → Others x cs → All (Clear x) js
    told_clear js same x o =
        carried (second_ask d.decision.commit) (Clear x) (Clear x)
        (λ k j s clear. (
          λ e. clear.0 (sym s.xid ∙ e),
          rw s.op
              (second_unnamed x k.xid clear.0 d.decision.commit (code_of_ask k)),
        ))
        p.round.asks.items js (seconds_are js second same) (firsts_clear x cs p.round.asks.items o first.same)

    pub forgot_clear : (told_at late : List LedgerView) (t : Told) → HasTold d told_at late t → (ls : List Ask)
        → SameAsks (map third_ask t.round.asks.items) ls
        → (x : XidName) → Others x cs → All (Clear x) ls
    forgot_clear told_at late t third ls same x o =
        carried third_ask (Clear x) (Clear x)
        (λ j l s clear. (λ e. clear.0 (sym s.xid ∙ e), rw s.op (third_unnamed x j.xid clear.0 j.code)))
        t.round.asks.items ls same
        (told_clear t.round.asks.items third.same x o)

-- a whole commit
pub commit_leaves : (bs : List Branch) (c : CommitCall) (done : Done) → AreBranchesRising 0 bs → AreOthers bs c.branches
    → IsFinished c done
    → LeavesBranches bs c.desk.ledgers c.new
commit_leaves bs c done rising others f = record {
  each = each_so bs c.branches rising others c.desk.ledgers c.new (λ b positive o.
      every_manager (DidOther b.xid) (did_nothing b.xid) (λ e. e.xid ≢ b.xid) c.desk.ledgers c.new done
      (λ e differs v s x a a' is. trace_sends b.xid e.xid differs done.commit e v s x a a' refl is) f.made.may.tran
      c.branches c.log c.later o f.made.trace b.m positive);
  managers = f.made.trace.managers;
}

-- ---- nothing, one after another, and whatever its caller knows

pub leaves_on : (bs : List Branch) (old mid new : List LedgerView) → LeavesBranches bs old mid
    → LeavesBranches bs mid new → LeavesBranches bs old new
leaves_on bs old mid new p q =
    record { each = λ k d lt. on _ _ _ _ (p.each k d lt) (q.each k d lt); managers = q.managers ∙ p.managers }

pub unnamed_leaves : (bs : List Branch) (old new : List LedgerView) → AreBranchesRising 0 bs → HaveGrown old new
    → length new ≡ length old
    → All
    (λ b. (more : List Op) → (ledger new b.m).sent ≡ (ledger old b.m).sent ++ more
    → All (λ op. names b.xid op ≡ false) more) bs
    → LeavesBranches bs old new
unnamed_leaves bs old new rising grown managers unnamed = record {
  each = λ k d lt.
      let g = grown.each (get_or bs k d).m (positive_all 0 bs rising k d lt) in
      record { more = g.sent.0; sent = g.sent.1; all = unnamed k d lt g.sent.0 g.sent.1; collected = g.collected };
  managers = managers;
}

-- a resolve that ended none of them
pub resolve_leaves : (bs : List Branch) (q : ResolveCall) → AreBranchesRising 0 bs → IsAsPromised (resolves q)
    → All (λ r. IsOutcomeOf bs r → ⊥) q.outcomes
    → LeavesBranches bs q.old q.new
resolve_leaves bs q rising made others =
    record {
      each = λ k d lt. one (get_or bs k d) (positive_all 0 bs rising k d lt) (Contains-get_or bs k d lt);
      managers = made.managers;
    }
  where
    one : (b : Branch) → 1 ≤ b.m → Contains bs b → DidOther b.xid (ledger q.old b.m) (ledger q.new b.m)
    one b positive among =
        ⊎_elim (λ (past : MOST_MANAGERS < b.m). rw (made.course.others b.m past) (did_nothing b.xid (ledger q.old b.m)))
        (λ (within : b.m ≤ MOST_MANAGERS).
        resolve_sends q.scan q.records q.old q.new q.outcomes made (Unnamed b.xid) b.m (positive, within) refl
        (λ o there.
        let differs : o.m ≡ b.m → o.xid ≢ b.xid =
        λ at same. All-contains (λ (r : Outcome). IsOutcomeOf bs r → ⊥) q.outcomes o others there
        (record { branch = b; among = among; manager = at; xid = same }) in
        record {
          ends = λ at _. outcome_unnamed b.xid o.xid (differs at) o.commit;
          forgets = λ at _. apart b.xid o.xid (differs at);
        }))
        (cases_lt MOST_MANAGERS b.m)
