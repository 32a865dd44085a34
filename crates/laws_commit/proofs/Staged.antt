-- Each stage of a commit is one that was cut short, whatever else was done between them; and so is whatever a commit
-- came
-- to.
use Rattle.xa_driver.specs.Deaths.{sent}
use Rattle.xa_base.proofs.{zero, suc, None, ◌≡◌, ℕ, Bool, Option, Some, List, [], ◌∷◌, arith, length, refl, All}
use Rattle.xa_base.proofs.{All-nil, All-cons, true, map, inl, inr, get_or, sym, ap, ◌∙◌, All-head, All-tail, rules}
use Rattle.xa_words.specs.{TranName, Death, Op, Code, Prepare}
use Rattle.xa_desk.specs.{LedgerView, ledger}
use Rattle.xa_driver.specs.{withheld, Done, LastKnown, CommitOutcome, Prepared, Branch, IsBegun, collected, in_flight}
use Rattle.xa_driver.specs.{unasked, Dies, HaveAsked, HaveTold, PutsLedger, AsksOrPuts, to_come, ComesTo}
use Rattle.xa_driver.specs.{IsLeftUndecided, LogKind, TellsTheLog, endings_known, VotesAndObeys, second_op, AsksLedger}
use Rattle.xa_driver.specs.{EachBranch, IsTranOf, MayCommit, decision_of, Decided, Told, Ask, EachAsk, HaveComeSoFar}
use Rattle.xa_driver.specs.{SameAsks, yes_of, code_of_ask, ending_of_ask, first_ask, second_ask, third_ask, yes_asked}
use Rattle.xa_driver.specs.{HasDecided, HasPrepared, HasTold, HasVoted, Logs, appended, wants_record}
use Rattle.xa_driver.proofs.Calls.{one_tran, first_trace, second_code, second_is, yes_is, each_asked, seconds_are}
use Rattle.xa_driver.proofs.Stepping.{Begun, so_answered}
use Rattle.xa_driver.proofs.Requests.{same_itself}
use Rattle.xa_log.specs.{LogState, IsEither, IsReadAs, with_record}
use Rattle.laws_commit.specs.{DecisionOf, after_at, before_at, CameSoFar, CommitCall, DidOther, EachVote, IsAsked}
use Rattle.laws_commit.specs.{IsCut, IsFinished, IsTold, asking, forgetting, telling, LeavesBranches, TurnsOut}
use Rattle.laws_commit.specs.{endings_of}
use Rattle.xa_driver.specs.Asks.{Asks}
use Rattle.xa_words.specs.declared.death.Death.TheVariants as death
use Rattle.xa_driver.specs.declared.done.CommitOutcome.TheVariants as outcome
use Rattle.xa_driver.specs.declared.done.LastKnown.TheVariants as known_as
use Rattle.laws_commit.proofs.CutVotes.{as_decision, Ended, did_nothing, at_once, ended_by, finished_law}
use Rattle.laws_commit.proofs.OneOutcome.{branch_map}

-- ---- one request

puts_begun : (a a' : LedgerView) (op : Op) → PutsLedger a op a' → IsBegun (Some op) a a'
puts_begun a a' op (sent open_ is) = in_flight op refl open_ is
puts_begun a a' op (withheld shut is) = unasked is

tells_begun : (k : ℕ) (op : Option Op) (a a' : LedgerView) → AsksOrPuts AsksLedger PutsLedger k op a a'
    → IsBegun op a a'
tells_begun k None a a' same = unasked same
tells_begun zero (Some op) a a' put = puts_begun a a' op put
tells_begun (suc k) (Some op) a a' answered = collected (Some answered.0) answered.1

-- ---- all branches

module _ (c : CommitCall) where
  open c use {branches as bs, desk.{ledgers as old}, new}

  abbrev IsAskedIn : Branch → Type 0
  IsAskedIn b = IsAsked b (before_at c b) (after_at c b)

  abbrev IsToldIn : Bool → Branch → Code → Type 0
  IsToldIn commit b v = IsTold commit b v (before_at c b) (after_at c b)

  died_asked : (bs : List Branch) (vs : List Code) → HaveAsked AsksLedger PutsLedger bs vs (ledger old) (ledger new)
      → All IsAskedIn bs
  died_asked [] vs h = All-nil IsAskedIn
  died_asked (b ∷ bs) [] h = search (arith, died_asked bs, All-cons, puts_begun, did_nothing, b.xid)
  died_asked (b ∷ bs) (v ∷ vs) h =
      let asks : IsBegun (Some (Prepare b.xid)) (before_at c b) (after_at c b) = collected (Some v) h.0 in
      search (arith, asks, died_asked bs vs h.1, All-cons, did_nothing, after_at c b)

  -- all have voted, and none was told
  all_voted : (commit : Bool) (bs : List Branch) (vs : List Code) → length vs ≡ length bs
      → HaveAsked AsksLedger PutsLedger bs vs (ledger old) (ledger new)
      → EachVote (IsToldIn commit) bs vs
  all_voted commit [] [] long h = tt
  all_voted commit [] (v ∷ vs) long h = absurd h
  all_voted commit (b ∷ bs) [] long h = absurd (omega (arith, long))
  all_voted commit (b ∷ bs) (v ∷ vs) long h =
      search (arith, all_voted commit bs vs, at_once, unasked, after_at c b, b.xid)

  died_told : (commit : Bool) (k : ℕ) (bs : List Branch) (vs : List Code)
      → HaveTold AsksLedger PutsLedger commit k bs vs (ledger old) (ledger new)
      → EachVote (IsToldIn commit) bs vs
  died_told commit k [] [] h = tt
  died_told commit k (b ∷ bs) (v ∷ vs) (h, hs) =
      let op : Option Op = second_op commit b.xid v in
      let tells =
      at_once b.xid (IsBegun op) h.prepared (after_at c b) (tells_begun k op h.prepared (after_at c b) h.tells) in
      (record { prepared = h.prepared; prepares = h.prepares; tells = tells }, died_told commit (to_come op k) bs vs hs)
  died_told commit k bs vs h = absurd h

  -- the death
  came_so_far : (at : Death) (tran : TranName) (known : LastKnown)
      → Dies AsksLedger PutsLedger at tran bs (ledger old) (ledger new) c.log c.later known
      → c.endings ≡ endings_known known → CameSoFar tran c
  came_so_far (death.Preparing k) tran (known_as.Votes votes) d told =
      asking d.far.unlogged told (died_asked bs votes.items d.far.asked)
  came_so_far death.Prepared tran (known_as.Votes votes) d told =
      asking d.far.unlogged told (died_asked bs votes.items d.far.asked)
  came_so_far death.Decided tran (known_as.Decided decision votes) d told =
      telling (as_decision c d.far.decided) told (all_voted decision.commit bs votes.items d.far.counted d.far.asked)
  came_so_far (death.Telling k) tran (known_as.Decided decision votes) d told =
      telling (as_decision c d.far.decided) told (died_told decision.commit k bs votes.items d.far.told)
  came_so_far death.Told tran (known_as.Told done) d told =
      forgetting (as_decision c d.far.decided) d.far.seconds (rw told
      (branch_map (λ b. Unit {0})
      (λ b v s e. VotesAndObeys AsksLedger done.commit b v s e (before_at c b) (after_at c b)) (Ended c done.commit)
      (λ b v s e _ o. ended_by done.commit b v s e (before_at c b) (after_at c b) (after_at c b) o (unasked refl)) bs
      done.votes.items d.far.seconds
      done.endings.items (λ k d lt. tt) d.far.each))
  came_so_far at tran known d told = absurd d.far

  -- nobody knew whether the log has the record, and it turns out to have it, or not
  left_so_far : (tran : TranName) (votes : List Code)
      → IsLeftUndecided AsksLedger PutsLedger bs (ledger old) (ledger new) votes
      → IsEither c.log c.later tran (yes_of bs votes) → c.endings ≡ [] → CameSoFar tran c
  left_so_far tran votes left either none =
      elim either [
        | inl same ↦ asking same none (died_asked bs votes left.asked)
        | inr added ↦
            let commit : Bool = decision_of votes true in
            telling
            (record {
              votes = votes;
              commit = commit;
              logged = true;
              decided = record { decision = refl; logs = appended left.wanted refl added };
            }) none
            (all_voted commit bs votes left.counted left.asked)
      ]

-- ---- a commit, whatever it came to

pub decided_made : (c : CommitCall) (tran : TranName) (death : Option Death) (done : Done)
    → MayCommit c.desk c.log c.branches → IsTranOf c.branches tran
    → length c.new ≡ length c.desk.ledgers
    → ComesTo AsksLedger PutsLedger death tran c.branches (ledger c.desk.ledgers) (ledger c.new) c.log c.later
    (outcome.Decided done)
    → c.endings ≡ done.endings.items → IsFinished c done
decided_made c tran death done may of_tran managers comes told =
    let own : tran ≡ may.tran = one_tran c.branches tran may.tran may.some of_tran may.one in
    record {
      made = record { may = may; trace = record { course = rw own at comes.1; managers = managers } };
      told = told;
    }

pub commit_is_cut : (c : CommitCall) (tran : TranName) (left : LogState) (death : Option Death) (o : CommitOutcome)
    → MayCommit c.desk c.log c.branches
    → IsTranOf c.branches tran → length c.new ≡ length c.desk.ledgers
    → ComesTo AsksLedger PutsLedger death tran c.branches (ledger c.desk.ledgers) (ledger c.new) c.log left o
    → TurnsOut tran c.branches c.log left c.later o
    → c.endings ≡ endings_of o → IsCut c
commit_is_cut c tran left death (outcome.Decided done) may of_tran managers comes same told =
    finished_law c done (decided_made c tran death done may of_tran managers (rw (← same) at comes) told)
commit_is_cut c tran left death (outcome.Undecided votes) may of_tran managers comes either none = record {
  may = may;
  far = left_so_far c may.tran votes.items comes.1
      (rw (one_tran c.branches tran may.tran may.some of_tran may.one) at either) none;
  managers = managers;
}
commit_is_cut c tran left death (outcome.Died at known) may of_tran managers comes same told = record {
  may = may;
  far = came_so_far c at may.tran known
      (rw (one_tran c.branches tran may.tran may.some of_tran may.one, ← same) at comes.1) told;
  managers = managers;
}

-- what the log turns out to have
module _ {L : Type 0} (kind : LogKind L) (state : L → LogState) (tran : TranName) (bs : List Branch) (old new : L) where
  pub known_so : (o : CommitOutcome) → TellsTheLog kind tran bs old new o → kind.knows new
      → TurnsOut tran bs (state old) (state new) (state new) o
  known_so o tells known = search (arith, rules)

  pub reads_so : (read : LogState) (o : CommitOutcome) → TellsTheLog kind tran bs old new o
      → IsReadAs state kind.knows kind.loses new read
      → TurnsOut tran bs (state old) (state new) read o
  reads_so read o tells is = search (arith, rules)

-- ---- one request

begun_at : (k : Ask) (o : Option Op) (m : ℕ) (at now : List LedgerView) → k.op ≡ o → k.manager ≡ m → Begun at now k
    → IsBegun o (ledger at m) (ledger now m)
begun_at k o m at now op manager h = rw (op, manager) at h

-- ---- all branches

abbrev Other : List LedgerView → List LedgerView → Branch → Type 0
Other old new b = DidOther b.xid (ledger old b.m) (ledger new b.m)

module _ (c : CommitCall) (mid : List LedgerView) where
  open c use {desk.{ledgers as old}, new}

  branches_asked : (bs : List Branch) (ks : List Ask) → SameAsks (map first_ask bs) ks → All (Begun old mid) ks
      → All (Other mid new) bs → All (IsAskedIn c) bs
  branches_asked [] ks s e f = All-nil (IsAskedIn c)
  branches_asked (b ∷ bs) [] s e f = absurd s
  branches_asked (b ∷ bs) (k ∷ ks) s e f =
      search (arith, branches_asked bs ks s.1, begun_at, All-head, All-tail, All-cons, s.0.op, s.0.manager)

  all_told : (commit : Bool) (tell : List LedgerView) (bs : List Branch) (ks js : List Ask)
      → SameAsks (map first_ask bs) ks
      → SameAsks (map (second_ask commit) ks) js
      → EachAsk ks old mid → All (Other mid tell) bs → All (Begun tell new) js
      → EachVote (IsToldIn c commit) bs (map code_of_ask ks)
  all_told commit tell [] [] js s q e f g = tt
  all_told commit tell (b ∷ bs) (k ∷ ks) (j ∷ js) s q e f g =
      let first = first_trace b k old mid s.0 e.0 in
      let last =
      begun_at j (second_op commit b.xid (code_of_ask k)) b.m tell new (second_is commit b k j s.0 q.0)
      (q.0.manager ∙ s.0.manager) (All-head (Begun tell new) j js g) in
      search (arith, first, last, All-head (Other mid tell) b bs f, all_told commit tell bs ks js s.1 q.1 e.1, All-tail)
  all_told commit tell _ _ _ s q e f g = absurd (search rules)

  all_ended : (commit : Bool) (tell late start : List LedgerView) (bs : List Branch) (ks js ls : List Ask)
      → SameAsks (map first_ask bs) ks
      → SameAsks (map (second_ask commit) ks) js → SameAsks (map third_ask js) ls → EachAsk ks old mid
      → All (Other mid tell) bs → EachAsk js tell late
      → All (Other late start) bs → All (Begun start new) ls
      → EachBranch (Ended c commit) bs (map code_of_ask ks) (map second_code js) (map (ending_of_ask commit) js)
  all_ended commit tell late start bs ks js ls s q u e f g h w =
      each_asked commit old mid tell late (λ b. Other mid tell b × Other late start b)
      (λ op m. IsBegun op (ledger start m) (ledger new m)) (Ended c commit) (λ b v z between one two last. record {
        decided = ledger late b.m;
        obeyed = record {
          prepared = ledger mid b.m;
          prepares = one;
          tells = record { start = ledger tell b.m; between = between.0; last = two };
        };
        forgets = record { start = ledger start b.m; between = between.1; last = last };
        ends = refl;
      }) bs ks js ls s q u (λ k d lt. (f k d lt, h k d lt)) e g w

pub nothing_between : (bs : List Branch) (at : List LedgerView) → LeavesBranches bs at at
nothing_between bs at =
    record { each = λ k d lt. did_nothing (get_or bs k d).xid (ledger at (get_or bs k d).m); managers = refl }

-- ---- how far it came is a commit that was cut short

pub asking_cut : (c : CommitCall) (mid : List LedgerView) (ks : List Ask) → MayCommit c.desk c.log c.branches
    → SameAsks (map first_ask c.branches) ks
    → HaveComeSoFar ks c.desk.ledgers mid → LeavesBranches c.branches mid c.new → c.later ≡ c.log → c.endings ≡ []
    → IsCut c
asking_cut c mid ks may same far between unlogged none = record {
  may = may;
  far = asking unlogged none (branches_asked c mid c.branches ks same far.each between.each);
  managers = between.managers ∙ far.managers;
}

pub asks_so_far : (ks : List Ask) (at now : List LedgerView) → Asks ks at now → HaveComeSoFar ks at now
asks_so_far ks at now asked =
    record { each = so_answered at now ks asked.each; others = asked.others; managers = asked.managers }

pub none_so_far : (ks : List Ask) (at : List LedgerView) → HaveComeSoFar ks at at
none_so_far ks at = record { each = λ k d lt. unasked refl; others = λ m positive none. refl; managers = refl }

module _ (c : CommitCall) (mid tell : List LedgerView) (p : Prepared) (d : Decided)
    (may : MayCommit c.desk c.log c.branches)
    (first : HasPrepared c.branches c.desk.ledgers mid p) (between : LeavesBranches c.branches mid tell)
    (second : HasDecided p c.log c.later d) where
  open p use {round.{asks.{items as asks}}}

  abbrev votes : List Code
  votes = map code_of_ask asks

  open d use {decision.{commit}}

  logs_are : Logs may.tran (yes_of c.branches votes) votes d.decision.logged c.log c.later
  logs_are = search (arith, one_tran, yes_is)

  abbrev found : DecisionOf may.tran c
  found = record {
    votes = votes;
    commit = commit;
    logged = d.decision.logged;
    decided = record {
      decision = second.decision ∙ ap (λ vs. decision_of vs d.decision.logged) first.votes;
      logs = logs_are;
    };
  }

  pub telling_cut : (js : List Ask) → SameAsks (map (second_ask commit) asks) js → HaveComeSoFar js tell c.new
      → c.endings ≡ [] → IsCut c
  telling_cut js same far none = record {
    may = may;
    far = telling found none
        (all_told c mid commit tell c.branches asks js first.same same first.asked.each between.each far.each);
    managers = far.managers ∙ between.managers ∙ first.asked.managers;
  }

  module _ (late start : List LedgerView) (t : Told) (third : HasTold d tell late t)
      (after : LeavesBranches c.branches late start) where
    pub forgetting_cut : (ls : List Ask) → SameAsks (map third_ask t.round.asks.items) ls → HaveComeSoFar ls start c.new
        → c.endings ≡ t.done.endings.items
        → IsCut c
    forgetting_cut ls same far told = record {
      may = may;
      far = forgetting found (map second_code t.round.asks.items)
          (rw (told ∙ third.endings)
          (all_ended c mid commit tell late start c.branches asks t.round.asks.items ls first.same
          (seconds_are t.round.asks.items second third.same) same first.asked.each between.each third.asked.each
          after.each far.each));
      managers = far.managers ∙ after.managers ∙ third.asked.managers ∙ between.managers ∙ first.asked.managers;
    }

-- a stage that is let go
pub prepared_is_cut : (c : CommitCall) (mid : List LedgerView) (p : Prepared) → MayCommit c.desk c.log c.branches
    → HasPrepared c.branches c.desk.ledgers mid p → LeavesBranches c.branches mid c.new → c.later ≡ c.log
    → c.endings ≡ [] → IsCut c
prepared_is_cut c mid p may first between unlogged none = search (arith, asking_cut, asks_so_far, first.same)

pub decided_is_cut : (c : CommitCall) (mid : List LedgerView) (p : Prepared) (d : Decided)
    → MayCommit c.desk c.log c.branches
    → HasPrepared c.branches c.desk.ledgers mid p → LeavesBranches c.branches mid c.new → HasDecided p c.log c.later d
    → c.endings ≡ [] → IsCut c
decided_is_cut c mid p d may first between second none =
    let js : List Ask = map (second_ask d.decision.commit) p.round.asks.items in
    telling_cut c mid c.new p d may first between second js (same_itself js) (none_so_far js c.new) none

-- ---- a commit that came to no decision

-- the stage that would have come, had the log told that it took the record
abbrev logged_stage : Prepared → Decided
logged_stage p =
    record {
      round = p.round;
      decision = record { commit = true; logged = true };
      votes = p.votes;
      for_endings = p.for_endings;
    }

pub undecided_is_cut : (c : CommitCall) (mid : List LedgerView) (votes : List Code) (tran : TranName)
    → MayCommit c.desk c.log c.branches
    → HasVoted c.branches c.desk.ledgers mid votes → LeavesBranches c.branches mid c.new → IsTranOf c.branches tran
    → wants_record votes ≡ true
    → IsEither c.log c.later tran (yes_of c.branches votes) → c.endings ≡ [] → IsCut c
undecided_is_cut c mid votes tran may voted between of_tran wanted either none =
    let p : Prepared = voted.stage in
    let first = voted.prepared in
    let asks : List Ask = p.round.asks.items in
    let wants : wants_record p.votes.items ≡ true = ap wants_record voted.votes_are ∙ wanted in
    let tran_is : tran ≡ p.tran = one_tran c.branches tran p.tran may.some of_tran first.tran in
    let yes_are : yes_of c.branches votes ≡ yes_asked asks =
    ap (yes_of c.branches) (sym voted.votes_are ∙ first.votes) ∙ sym (yes_is c.branches asks first.same) in
    elim either [
      | inl same ↦ prepared_is_cut c mid p may first between same none
      | inr added ↦
          decided_is_cut c mid p (logged_stage p) may first between (record {
            round = refl;
            votes = refl;
            endings = refl;
            decision = search (arith, rules);
            logs = appended wants refl (added ∙ (λ i. with_record c.log (tran_is i) (yes_are i)));
          }) none
    ]
