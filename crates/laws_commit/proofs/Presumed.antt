-- One outcome for each global transaction, finished or cut short, over openings one after another: no later use of the
-- log
-- marks a manager of one that was decided to abort.
use Rattle.xa_base.proofs.{contains_on, [], slice_get, arith, ◌≡◌, ◌≤◌, ◌⊎◌, ℕ, Bool, true, List, ◌∷◌, get_or, false}
use Rattle.xa_base.proofs.{All, All-nil, All-append, All-head, All-tail, rules, option_map, is_some, zero, ◌+◌, ◌++◌}
use Rattle.xa_base.proofs.{length, sym, refl, ap, ◌∙◌, subst, Option, Some, None, Contains, All-cons, All-contains}
use Rattle.xa_base.proofs.{Contains-append_right, all_after, all_mid, all_right, inl, inr, by_bool, both_ways}
use Rattle.xa_base.proofs.{eq_by_cmp, is_eq, is_equal, tied_itself, ⊎_elim}
use Rattle.xa_driver.specs.{voted_yes, IsTranOf, Branch, is_yes, yes_of, ending_of, is_decided, yes_ending, outcome_op}
use Rattle.xa_driver.specs.{AreBranchesRising, HaveRoom, is_recorded_at, Done as Outcome, Ending, EachBranch, has_yes}
use Rattle.xa_words.specs.{Code, TranName, tran_of, Done, Op, Prepare, Request}
use Rattle.xa_base.specs.{MOST_MANAGERS, IsUpTo, Begins}
use Rattle.xa_desk.specs.{learnt_shut, ledger, LedgerView, HasGrown}
use Rattle.xa_switch.specs.{collected, Settling, reopened_at, IsOpenedWith, first_of, history as history_of, ledgers_of}
use Rattle.xa_switch.specs.{ManagerPart, answers, find_manager, journal, journal_in, sent}
use Rattle.laws_commit.specs.{DecisionOf, after_at, before_at, prepare_at, IsAsked, told_fate, CommitCall, GoesOnAfter}
use Rattle.laws_commit.specs.{HasFinished, IsFinished, OfCommit, Use, commits, resolves, Opening, IsByItsThread, IsKept}
use Rattle.laws_commit.specs.{IsUseIn, OnlyResolves, uses_of, is_recorded, OnlyTheseOrDecisionsName, CountsByTheLog}
use Rattle.laws_commit.specs.{EndsByTheLog, IsResolved, VotedToCommit, WasAsked, known_at, known_of, AreUses}
use Rattle.laws_commit.specs.{ResolveCall, Tabled, ends_heuristic, EndsAs, EachEnds, EachOutcome, IsAllOrNone, all}
use Rattle.laws_commit.specs.{none, CountsOver, CountsAllOrNone, IsUnlisted, SharesOver}
use Rattle.laws_commit.specs.Worth.{is_committed}
use Rattle.xa_tables.specs.{HeuristicDecision, decided_fate, Tables, state_of, is_left_in, Fate, fate, tables_after}
use Rattle.xa_tables.specs.{fate_of_state, History}
use Rattle.xa_tables.proofs.Reopening.{as_left}
use Rattle.xa_worker.specs.{requests}
use Rattle.xa_log.specs.{Records, LogState, record_of, tran_cmp}
use Rattle.xa_log.proofs.Transactions.{tran_cmp_total, tran_cmp-IsAntisymmetric}
use Rattle.xa_driver.proofs.Calls.{one_tran}
use Rattle.xa_driver.proofs.Mapped.{Any}
use Rattle.laws_commit.proofs.CutVotes.{WasReported, any_voted, cut_keeps, ended_so, each_reported, known_each, Votes}
use Rattle.laws_commit.proofs.CutVotes.{CameAt, each_came, at_asking, at_forgetting, at_telling, HasVoted, no_vote}
use Rattle.laws_commit.proofs.CutVotes.{prepare_part, prepare_there, shut_unless, vote_there}
use Rattle.laws_commit.proofs.OneOutcome.{is_told_decision, IsQuiet, is_marked, FindsMark, marks_stay, own_mark}
use Rattle.laws_commit.proofs.OneOutcome.{some_yes, recorded_is, Reported, aborted, unopposed}
use Rattle.laws_commit.proofs.Guided.{comes_for, decision_so, doubted, told_decided, learnt_in_doubt, learnt_on, Comes}
use Rattle.laws_commit.proofs.Settled.{each_outcome, sent_stands, by_ledger, collected_on, sent_on, site_of, told_in}
use Rattle.laws_commit.proofs.Sites.{OpensWithFirst, Site, StandsIn, request_of}
use Rattle.laws_commit.proofs.BranchEnds.{Follows, IsMarked, branch_follows}
use Rattle.laws_commit.proofs.CutBranch.{HasSentOnly, WasTold, asked_only, ended_voted_so, open_so, sent_end}
use Rattle.laws_commit.proofs.CutBranch.{sent_fates, told_fate_is, told_voted_so, vote_is, voted_only, was_told}
use Rattle.laws_commit.proofs.Courses.{yes_is}
use Rattle.laws_commit.proofs.Leading.{IsTowards}
use Rattle.laws_commit.proofs.Later.{ends_with}

-- what is shown of a commit holds of each use
of_commit : (s : Settling) (P Q : CommitCall → Type 0) → ((c : CommitCall) → IsUseIn s (commits c) → P c → Q c)
    → (u : Use) → IsUseIn s u → OfCommit P u
    → OfCommit Q u
of_commit s P Q so u use_ p = search (arith, rules)

any_commit : (u : Use) → OfCommit (λ c. Unit {0}) u
any_commit u = search (arith, rules)

-- no commit of this transaction
abbrev IsOfAnother : TranName → CommitCall → Type 0
IsOfAnother t c = IsTranOf c.branches t → ⊥

module _ (mark : Bool) (t : TranName) (m : ℕ) (up : IsUpTo MOST_MANAGERS m) where
  abbrev Stays : CommitCall → Type 0
  Stays c = is_marked c.log.records t m ≡ mark → is_marked c.later.records t m ≡ mark

  -- where what is known of a commit makes none of its votes be to commit
  quiet_so : (s : Settling) (P : CommitCall → Type 0)
      → ((c : CommitCall) → IsUseIn s (commits c) → P c → IsTranOf c.branches t → (b : Branch) (v : Code)
      → tran_of b.xid ≡ t → b.m ≡ m
      → Votes c b v
      → is_yes v ≡ false) → (us : List Use) → All (IsUseIn s) us → All (OfCommit P) us → All (IsQuiet mark t m) us
  quiet_so s P against us uses each j d lt =
      of_commit s P Stays (λ c w p. cut_keeps mark t m up c w.made (λ same. against c w p (rw same at w.made.may.one)))
      (get_or us j d) (uses j d lt) (each j d lt)

  -- in openings where nothing but resolves names the transaction
  pub quiet_openings : (os : List Opening) → All IsKept os → All (OnlyResolves t) os
      → All (IsQuiet mark t m) (uses_of os)
  quiet_openings [] kept only = All-nil (IsQuiet mark t m)
  quiet_openings (o ∷ os) kept only =
      let own : IsKept o = All-head IsKept o os kept in
      All-append (IsQuiet mark t m) o.uses (uses_of os)
      (quiet_so o.settled (λ c. Unit {0})
      (λ c w _ tran. no_vote o own t (All-head (OnlyResolves t) o os only) m up c w.grown) o.uses own.uses
      (λ j d lt. any_commit (get_or o.uses j d)))
      (quiet_openings os (All-tail IsKept o os kept) (All-tail (OnlyResolves t) o os only))

  -- after a commit whose desk has learnt that the manager is shut, in its own opening
  quiet_after : (c : CommitCall) (s : Settling) (vs : List Use) → IsTranOf c.branches t
      → learnt_shut (ledger c.new m) ≡ true → All (IsUseIn s) vs
      → All (IsByItsThread c) vs → All (IsQuiet mark t m) vs
  quiet_after c s vs of_tran learnt =
      quiet_so s
      (λ k. (u : TranName) → IsTranOf c.branches u → IsTranOf k.branches u
      → HasFinished c × GoesOnAfter c k.thread k.desk.ledgers) (λ k w own tran b v _ same h.
      ap is_yes
      (h.prepared
      (ap (λ n. learnt_shut (ledger k.desk.ledgers n)) same
      ∙ learnt_on (ledger c.new m) (ledger k.desk.ledgers m)
      ((own t of_tran tran).1.grown.each m up.0).collected learnt))) vs

  -- after one that nobody commits again in its opening
  quiet_alone : (s : Settling) (vs : List Use) → All (IsUseIn s) vs → All (OfCommit (IsOfAnother t)) vs
      → All (IsQuiet mark t m) vs
  quiet_alone s = quiet_so s (IsOfAnother t) (λ c w none tran b v _ _ _. absurd (none tran))

-- it has finished, where one of them is of the same transaction
finished_or_alone : (c : CommitCall) (t : TranName) (s : Settling) (us : List Use) → IsTranOf c.branches t
    → All (IsUseIn s) us → All (IsByItsThread c) us
    → HasFinished c ⊎ All (OfCommit (IsOfAnother t)) us
finished_or_alone c t s [] of_tran uses own = inr (All-nil (OfCommit (IsOfAnother t)))
finished_or_alone c t s (u ∷ us) of_tran uses own =
    ⊎_elim (λ (f : HasFinished c). inl f) (λ (here : OfCommit (IsOfAnother t) u).
    ⊎_elim (λ (f : HasFinished c). inl f)
    (λ (rest : All (OfCommit (IsOfAnother t)) us). inr (All-cons (OfCommit (IsOfAnother t)) u us here rest))
    (finished_or_alone c t s us of_tran (All-tail (IsUseIn s) u us uses) (All-tail (IsByItsThread c) u us own)))
    (one u (All-head (IsUseIn s) u us uses) (All-head (IsByItsThread c) u us own))
  where
    one : (u : Use) → IsUseIn s u → IsByItsThread c u → HasFinished c ⊎ OfCommit (IsOfAnother t) u
    one (resolves q) w own = inr tt
    one (commits k) w own =
        let u : TranName = w.made.may.tran in
        elim (eq_by_cmp tran_cmp u t) as (λ e. eq_by_cmp tran_cmp u t ≡ e → HasFinished c ⊎ IsOfAnother t k) [
          | true ↦ λ same. inl (own t of_tran (rw (tran_cmp-IsAntisymmetric u t (is_equal _ same)) at w.made.may.one)).0
          | false ↦ λ other. inr (λ of_t.
              let is : u ≡ t = one_tran k.branches u t w.made.may.some w.made.may.one of_t in
              both_ways (eq_by_cmp tran_cmp u t) other
              (ap (λ w. eq_by_cmp tran_cmp w t) is ∙ ap is_eq (tied_itself tran_cmp_total t)))
        ] refl

-- ---- the manager of a branch

-- a manager with a history is there
pub part_there : (o : Option ManagerPart) (before after : History) (r : Request)
    → requests (journal_in o) ≡ before ++ r ∷ after
    → (p : ManagerPart) × (o ≡ Some p)
part_there None [] after r e = cc
part_there None (q ∷ before) after r e = cc
part_there (Some p) before after r e = (p, refl)

-- a branch that is left to the next opening: nothing but resolves names it later, and they find what was decided
left_is_marked : (b : Branch) (tran : TranName) (up : IsUpTo MOST_MANAGERS b.m) (commit : Bool) (records : Records)
    (vs : List Use)
    (later : List Opening) → tran_of b.xid ≡ tran → All IsKept later → All (OnlyResolves tran) later
    → All (IsQuiet commit tran b.m) vs
    → AreUses tran records (vs ++ uses_of later) → is_marked records tran b.m ≡ commit → IsMarked later commit b
left_is_marked b tran up commit records vs later of_tran kept only quiet_now uses mark =
    let quiet : All (IsQuiet commit tran b.m) (vs ++ uses_of later) = search (arith, All-append, quiet_openings, up) in
    let marks : All (FindsMark commit tran b.m) (uses_of later) =
    all_right (FindsMark commit tran b.m) vs (uses_of later)
    (marks_stay commit tran b.m up (vs ++ uses_of later) records uses mark quiet) in
    search (arith, rules)

-- ---- a use of an opening, and those after it

module _ (s : Settling) (used us vs : List Use) (u : Use) (place : used ≡ us ++ u ∷ vs)
    (uses : All (IsUseIn s) used) where
  pub use_there : IsUseIn s u
  use_there = all_mid (IsUseIn s) us vs u (rw place at uses)

  pub uses_after : All (IsUseIn s) vs
  uses_after = all_after (IsUseIn s) us u vs (rw place at uses)

pub is_used : (used us vs : List Use) (u : Use) → used ≡ us ++ u ∷ vs → Contains used u
is_used used us vs u place = rw place (Contains-append_right us (u ∷ vs) u (zero, omega arith, refl))

-- ---- a commit, finished or cut short, and a resolve of a later opening

module _ (law : Tabled) (first : OpensWithFirst) (o : Opening) (between : List Opening) (last : Opening)
    (c : CommitCall) (q : ResolveCall)
    (r : IsResolved o between last c q) where
  abbrev later : List Opening
  later = between ++ last ∷ []

  open o use {settled as s}
  open c use {thread as t}

  kept_o : IsKept o
  kept_o = All-head IsKept o later r.kept

  use_ : IsUseIn s (commits c)
  use_ = use_there s o.uses r.us r.vs (commits c) r.use_at kept_o.uses

  open use_ use {made, made.{may, may.{tran}}}

  -- ---- one branch that voted to commit

  abbrev Only : Branch → Type 0
  Only b = OnlyTheseOrDecisionsName b.xid t (prepare_at c b) (length (after_at c b).sent) (history_of s b.m)

  abbrev commit : Bool
  commit = is_recorded c.later tran

  -- where it is among the branches
  abbrev Among : Branch → Type 0
  Among b = IsUpTo MOST_MANAGERS b.m × (tran_of b.xid ≡ tran) × Contains c.branches b

  -- it ended as was decided, and so its additions count
  abbrev FollowsTo : Bool → Branch → Ending → Type 0
  FollowsTo decision b e = Follows decision o later t b (prepare_at c b) e

  abbrev Result : Branch → Type 0
  Result b = FollowsTo commit b (known_of c b)

  -- what was collected as its vote is what the settled opening has
  agreed_so : (b : Branch) → 1 ≤ b.m → VotedToCommit c s b → (decision : Bool) (L : Type 0) (v : Code)
      → HasVoted (IsTowards decision L b.xid) b v (before_at c b) (after_at c b)
      → (learnt_shut (before_at c b) ≡ false) × (v ≡ Done)
  agreed_so b positive voted decision L v h =
      let open_ : learnt_shut (before_at c b) ≡ false =
      open_so decision L b v (before_at c b) (after_at c b) h voted.asked in (
        open_,
        vote_is (IsTowards decision L b.xid) b v Done (before_at c b) (after_at c b) (answers t (journal s b.m))
            (collected s t b.m) h open_
            (collected_on s t b.m positive (after_at c b) (use_.grown.each b.m positive))
            (kept_o.settled.agree t b.m).coded
            (rw (by_ledger (ledgers_of s t) b.m (λ (l : LedgerView). l.collected) positive refl) voted.agreed),
      )

  -- no later commit of its opening marks its manager
  abbrev Quiet : Branch → Type 0
  Quiet b = (mark : Bool) → All (IsQuiet mark tran b.m) r.vs

  after_it : All (IsUseIn s) r.vs
  after_it = uses_after s o.uses r.us r.vs (commits c) r.use_at kept_o.uses

  module _ (b : Branch) (among : Among b) (only : Only b) (here : VotedToCommit c s b) (T : Tables)
      (with_T : IsOpenedWith s b.m T) (decision : Bool)
      (L : Type 0) where
    abbrev ComesTo : Type 0 → Type 0
    ComesTo W =
        Comes decision W L (state_of (tables_after (history_of s b.m) T) b.xid)
        (fate b.xid (fate_of_state (state_of T b.xid)) (history_of s b.m) T) (known_of c b)

    -- A commit that has finished left it only where the desk has learnt that its manager is shut.
    finished_left : (d : Outcome) → WasReported c d b → ComesTo (Unit {0}) → ComesTo (Quiet b)
    finished_left d w comes =
        let v : Code = w.vote in
        let z : Option Code = w.second in
        let e : Ending = known_of c b in
        let h =
        ended_voted_so d.commit (is_told_decision z ≡ true) b v z (before_at c b) (after_at c b) (λ l. l)
        (ended_so d.commit b v z e (before_at c b) (after_at c b) w.traced) in
        let y : is_yes v ≡ true = ap is_yes (agreed_so b among.0.0 here d.commit (is_told_decision z ≡ true) v h).1 in
        let told =
        told_in law s t kept_o.settled b d.commit v z e (before_at c b) (after_at c b) among.0.0
        (use_.grown.each b.m among.0.0) w.traced T with_T only in
        doubted decision (Quiet b) L _ e told.told (told.reached y) (told.named y) (λ doubt mark.
        quiet_after mark tran b.m among.0 c s r.vs may.one
        (learnt_in_doubt b v z e d.commit (before_at c b) (after_at c b) w.traced y doubt) after_it r.its_thread)
        comes

    quiet_left : ComesTo (Unit {0}) → ComesTo (Quiet b)
    quiet_left comes = ⊎_elim
        (λ (f : HasFinished c). finished_left f.0
        (All-contains (WasReported c f.0) c.branches b (each_reported c f.0 f.1) among.2) comes)
        (λ (none : All (OfCommit (IsOfAnother tran)) r.vs). comes_for decision (Quiet b) L
        (λ mark. quiet_alone mark tran b.m among.0 s r.vs after_it none) comes)
        (finished_or_alone c tran s r.vs may.one after_it r.its_thread)

  -- L is known of one that was told a decision, which its coordinator knew
  module _ (b : Branch) (among : Among b) (only : Only b) (here : VotedToCommit c s b) (decision : Bool) (L : Type 0)
      (h : HasSentOnly decision L b.xid (before_at c b) (after_at c b))
      (told : L
      → (k : Code) × (is_decided k ≡ true) × (yes_ending decision (Some k) ≡ known_of c b) × WasTold decision b.xid
      k (before_at c b) (after_at c b))
      (mark : is_marked c.later.records tran b.m ≡ decision) where
    open b use {m}

    abbrev n : ℕ
    n = prepare_at c b

    abbrev H : History
    H = history_of s m

    grown : HasGrown (after_at c b) (ledger (ledgers_of s t) m)
    grown = use_.grown.each m among.0.0

    part_of : (p : ManagerPart) × (find_manager m s.managers ≡ Some p)
    part_of =
        let at = prepare_part s kept_o.settled m among.0.0 t b.xid (before_at c b) (after_at c b) grown h.rest h.sent in
        part_there (find_manager m s.managers) at.1.before at.1.after (request_of t (0 + n) (Prepare b.xid)) at.1.place

    abbrev T : Tables
    T = part_of.0.first

    begins : first_of s m ≡ Some T
    begins = ap (λ z. option_map (λ (p : ManagerPart). p.first) z) part_of.1

    with_T : IsOpenedWith s m T
    with_T = first s m T kept_o.settled begins

    abbrev site : Site t T H
    site = site_of law s kept_o.settled t m T with_T

    -- where it is left, nothing but resolves names it later, and they find the record
    marked : Quiet b → is_left_in (state_of (tables_after H T) b.xid) ≡ true → IsMarked later decision b
    marked quiet left =
        let there : is_left_in (state_of (reopened_at s.managers b.m) b.xid) ≡ true =
        search (arith, ends_with, begins, as_left, kept_o, b.m) in
        left_is_marked b tran among.0 decision c.later.records r.vs later among.1 (All-tail IsKept o later r.kept)
        (r.later tran may.one (b.m, (b.xid, (among.1, there))))
        (quiet decision) (r.log (record { branch = b; among = among.2; left = there }) tran may.one) mark

    abbrev G : Fate
    G = fate_of_state (state_of T b.xid)

    sent_grows : Begins (after_at c b).sent (sent s t m)
    sent_grows = sent_on s t m among.0.0 (after_at c b) grown

    stands : (number : ℕ) (op : Op) (k : Code) → slice_get (after_at c b).sent number ≡ Some op
        → Contains (ledger (ledgers_of s t) m).collected (number, k)
        → StandsIn t number op k T H
    stands = sent_stands law s kept_o.settled t m T with_T among.0.0 (after_at c b) grown

    prepared_at : StandsIn t n (Prepare b.xid) Done T H
    prepared_at = stands n (Prepare b.xid) Done here.asked here.agreed

    tells_it : L
        → (d : HeuristicDecision) × (fate b.xid G H T ≡ decided_fate d)
        × (told_fate (known_of c b) ≡ Some (decided_fate d))
    tells_it l =
        let (k, is, known, z) = told l in
        let d = decision_so k is in
        let second =
        stands z.number (outcome_op decision b.xid) k z.sent
        (contains_on (after_at c b).collected _ (z.number, k) grown.collected z.told) in (
          d.0,
          told_fate_is site b.xid (before_at c b) (after_at c b) sent_grows decision only L h prepared_at z.number
              z.later k second d.0 d.1 G,
          ap told_fate (sym known) ∙ ap (λ (q : Code). told_fate (yes_ending decision (Some q))) d.1
              ∙ told_decided decision d.0,
        )

    result : FollowsTo decision b (known_of c b)
    result =
        branch_follows law first o between last q r.kept r.in_a_row
        (is_used last.uses r.ps r.qs (resolves q) r.resolve_at) r.scan decision (Quiet b) b t n (known_of c b)
        among.0 T begins
        (λ K.
        let end =
        sent_end site b.xid (before_at c b) (after_at c b) sent_grows decision only L h prepared_at (known_of c b) K
        G tells_it in
        record { comes = quiet_left b among only here T with_T decision K end.comes; any = end.any }) marked
        (λ w there manager xid. search (arith, All-contains))
        (λ g fits. sent_fates site b.xid (before_at c b) (after_at c b) sent_grows decision only L h prepared_at g)

  -- ---- all of them, by how far it came

  all_among : (lo : ℕ) (bs : List Branch) → AreBranchesRising lo bs → HaveRoom c.desk.ledgers bs → IsTranOf bs tran
      → ((b : Branch) → Contains bs b → Contains c.branches b) → All Among bs
  all_among lo [] rising room of_tran there = All-nil Among
  all_among lo (b ∷ bs) rising room of_tran there =
      All-cons Among b bs (
        (omega (arith, rising.0), omega (arith, room.0.known.within, r.few)),
        of_tran.0,
        there b
            (zero, omega arith, refl),
      )
      (all_among b.m bs rising.1 room.1 of_tran.1 (λ d at. there d (Contains-append_right (b ∷ []) bs d at)))

  among_so : All Among c.branches
  among_so = all_among 0 c.branches may.rising may.room may.one (λ b there. there)

  module _ (b : Branch) (among : Among b) (own : WasAsked c b → Only b) (voted : VotedToCommit c s b) where
    open b use {xid as x}

    -- nothing was decided
    undecided_so : c.later ≡ c.log → IsAsked b (before_at c b) (after_at c b) → Result b
    undecided_so same h =
        let none : record_of c.later tran ≡ None = ap (λ (l : LogState). record_of l tran) same ∙ may.absent in
        subst (λ w. FollowsTo w b (known_of c b)) (sym (ap is_some none))
        (result b among (own voted.asked) voted false ⊥
        (asked_only false ⊥ b (before_at c b) (after_at c b) h voted.asked) (λ l. absurd l)
        (ap (λ o. is_recorded_at o b.m) none))

    -- all had voted, and its second code was z, if it was heard
    module _ (d : DecisionOf tran c) (v : Code) (yes_so : is_yes v ≡ true → voted_yes b.m c.branches d.votes ≡ true)
        (z : Option Code) where
      open d use {commit as decision}

      abbrev L : Type 0
      L = is_told_decision z ≡ true

      abbrev Told : Code → Type 0
      Told k = (yes_ending decision (Some k) ≡ known_of c b) × WasTold decision x k (before_at c b) (after_at c b)

      voted_so : HasVoted (IsTowards decision L x) b v (before_at c b) (after_at c b)
          → ((k : Code) → z ≡ Some k → is_decided k ≡ true → learnt_shut (before_at c b) ≡ false → v ≡ Done → Told k)
          → Result b
      voted_so h told =
          let (open_, agreed) = agreed_so b among.0.0 voted decision L v h in
          -- the record is the decision, and names its manager
          let yes : voted_yes b.m c.branches d.votes ≡ true = yes_so (ap is_yes agreed) in
          let is : decision ≡ commit =
          d.decision
          ∙ recorded_is tran (yes_of c.branches d.votes) d.votes d.logged c.log c.later may.absent
          (some_yes b.m c.branches d.votes yes) d.logs in
          rw is at
          (result b among (own voted.asked) voted decision L
          (voted_only decision L b v (before_at c b) (after_at c b) h open_)
          (told_so z (λ k e on. told k e on open_ agreed))
          (own_mark c.branches c.log c.later d.votes d.logged tran b.m among.0 may.absent yes d.logs ∙ sym d.decision))
        where
          told_so : (y : Option Code) → ((k : Code) → y ≡ Some k → is_decided k ≡ true → Told k)
              → is_told_decision y ≡ true
              → (k : Code) × (is_decided k ≡ true) × (yes_ending decision (Some k) ≡ known_of c b) × WasTold decision x
              k (before_at c b) (after_at c b)
          told_so None told l = cc
          told_so (Some k) told l = let w = told k refl l in (k, l, w.0, w.1)

    by_came : CameAt tran c b → Result b
    by_came (at_asking same h) = undecided_so same h
    by_came (at_telling d v vote h) =
        voted_so d v vote.marks None
        (told_voted_so d.commit (is_told_decision None ≡ true) b v (before_at c b) (after_at c b) h) (λ k e. cc)
    by_came (at_forgetting d v vote z h) =
        voted_so d v vote.marks z
        (ended_voted_so d.commit (is_told_decision z ≡ true) b v z (before_at c b) (after_at c b) (λ l. l) h)
        (λ k e on open_ agreed. (
          sym (h.ends ∙ (λ i. ending_of d.commit (agreed i) (e i))),
          was_told d.commit b v k (before_at c b) (after_at c b) (rw e at h) open_ agreed on,
        ))

  follows : All (λ b. VotedToCommit c s b → Result b) c.branches
  follows j d lt voted =
      by_came (get_or c.branches j d) (among_so j d lt) (r.own j d lt) voted (each_came c may.rising made.far j d lt)

  each_so : (u : TranName) → IsTranOf c.branches u
      → All (λ b. VotedToCommit c s b → FollowsTo (is_recorded c.later u) b (known_of c b)) c.branches
  each_so u of_u = rw (one_tran c.branches tran u may.some may.one of_u) at follows

  pub presumed_law : EndsByTheLog c o later
  presumed_law = record { each = λ u of_u j d lt voted. (each_so u of_u j d lt voted).0 }

  pub presumed_counts : CountsByTheLog c o later
  presumed_counts =
      record { each = λ u of_u j d lt voted plain unlisted. (each_so u of_u j d lt voted).2 plain unlisted }

  -- ---- where it came to its end

  module _ (done : Outcome) (f : IsFinished c done) where
    open f use {made.{trace.{course}}}
    open done use {votes.{items as votes}}

    -- a branch whose vote was to commit, as it was reported
    voted_yes_so : (b : Branch) → 1 ≤ b.m → (v : Code) (z : Option Code) (e : Ending) → Reported c done b v z e
        → is_yes v ≡ true
        → VotedToCommit c s b
    voted_yes_so b positive v z e is y =
        let h : HasVoted Any b v (before_at c b) (after_at c b) =
        any_voted done.commit b v z (before_at c b) (after_at c b)
        (ended_so done.commit b v z e (before_at c b) (after_at c b) is) in
        let open_ : learnt_shut (before_at c b) ≡ false = shut_unless v (before_at c b) h.prepared y in
        record {
          asked = prepare_there Any b v (before_at c b) (after_at c b) open_ h;
          agreed = rw (yes_is v y) at
              (vote_there Any b v (before_at c b) (after_at c b) (ledger (ledgers_of s t) b.m).collected open_ h
              (use_.grown.each b.m positive).collected);
        }

    abbrev Known : Branch → Code → Option Code → Ending → Type 0
    Known b v z e = Reported c done b v z e × (known_of c b ≡ e) × (is_yes v ≡ true → has_yes votes ≡ true)

    known : EachBranch Known c.branches votes course.seconds c.endings
    known =
        known_each (Reported c done) (has_yes votes ≡ true) (λ n. known_at n c.branches c.endings) 0 c.branches votes
        course.seconds c.endings may.rising
        (λ n above. refl) (λ y. y) (rw f.told course.each)

    -- the record is the decision
    recorded_so : has_yes votes ≡ true → is_recorded c.later tran ≡ done.commit
    recorded_so some =
        let own : f.made.may.tran ≡ tran = one_tran c.branches f.made.may.tran tran may.some f.made.may.one may.one in
        sym (course.decision
        ∙ recorded_is tran (yes_of c.branches votes) votes done.logged c.log c.later may.absent some
        (rw own at course.logs))

    -- what follows of a branch, where it voted to commit
    abbrev Goal : Branch → Type 0
    Goal b = (1 ≤ b.m) × (VotedToCommit c s b → Result b)

    follows_so : (b : Branch) (v : Code) (z : Option Code) (e : Ending) → Goal b → Known b v z e → is_yes v ≡ true
        → FollowsTo done.commit b e
    follows_so b v z e goal is y =
        subst (λ w. FollowsTo w b e) (recorded_so (is.2 y)) (rw is.1 at (goal.1 (voted_yes_so b goal.0 v z e is.0 y)))

    all_yes : (Q : Branch → Ending → Type 0) → ((b : Branch) (e : Ending) → FollowsTo done.commit b e → Q b e)
        → EachOutcome (λ b v e. is_yes v ≡ true → Q b e) c.branches votes done.endings.items
    all_yes Q so =
        rw f.told at
        (each_outcome Goal Known (λ b v e. is_yes v ≡ true → Q b e)
        (λ b v z e goal is y. so b e (follows_so b v z e goal is y)) c.branches votes
        course.seconds c.endings (λ j d lt. ((among_so j d lt).0.0, follows j d lt)) known)

    all_ends : EachEnds c done o later
    all_ends = all_yes (λ b e. EndsAs done.commit o later b e) (λ b e z. z.0)

    pub counted_law : CountsOver c done o later
    counted_law = record { each = all_yes (λ b e. SharesOver o later t b (prepare_at c b) is_committed) (λ b e z. z.1) }

    pub whole_law : CountsAllOrNone c done o later
    whole_law =
        record {
          each = all_yes
              (λ b e. ends_heuristic e ≡ false → IsUnlisted b later
              → SharesOver o later t b (prepare_at c b) (λ f. done.commit)) (λ b e z. z.2);
        }

    -- the decision
    pub resolved_law : IsAllOrNone c done o later
    resolved_law =
        by_bool (λ _. IsAllOrNone c done o later) (done.commit)
        (λ on. all on (unopposed c done f.made.may.tran f f.made.may.one on) all_ends)
        (λ off. none off (aborted c done f.made.may.tran f f.made.may.one off).uncommitted all_ends)
