-- The branches of a commit come out by the log.
use Rattle.xa_base.proofs.{none_all, rules, both_ways, and_right, false_from_ne_true, list_any_none, ◌≡◌, ℕ, ◌≤◌, Bool}
use Rattle.xa_base.proofs.{true, false, Some, List, [], ◌∷◌, length, get_or, sym, refl, ap, arith, ◌&&◌, All, Contains}
use Rattle.xa_base.proofs.{All-cons, All-contains, all_after, and_parts, not-true, if◌then◌else◌, is_some, suc, Option}
use Rattle.xa_base.proofs.{◌∙◌, All-head, All-tail, pos, zero, ◌++◌}
use Rattle.laws_commit.proofs.Settled.{sent_between, sent_on, sent_stands, site_of}
use Rattle.laws_commit.proofs.CutVotes.{CameAt, each_came, at_asking, at_forgetting, at_telling, HasVoted, IsVoteOf}
use Rattle.laws_commit.proofs.CutVotes.{prepare_there, vote_there, ended_voted, prepare_sent, told_voted, named_so}
use Rattle.laws_commit.proofs.CutVotes.{named_tran}
use Rattle.laws_commit.proofs.Sites.{Site, request_of}
use Rattle.laws_commit.proofs.Values.{taken}
use Rattle.laws_commit.specs.{DecisionOf, Tabled, IsCut, is_commit_of, is_recorded, OnlyTheseOrDecisionsName}
use Rattle.laws_commit.specs.{AskedAreLeft, VotedToCommit, CommitCall, IsKept, IsUseIn, after_at, before_at, prepare_at}
use Rattle.laws_commit.specs.{OnlyResolves, Opening, commits, WasAsked, EndsByTheLog, IsResolved, known_of, EndsAs}
use Rattle.laws_commit.specs.{ResolveCall, histories}
use Rattle.xa_base.specs.{MOST_MANAGERS, IsUpTo}
use Rattle.xa_words.specs.{XidName, Decides-xid_eq, TranName, tran_of, Done, Op, Prepare, Forget, Request, Code, RdOnly}
use Rattle.laws_tables.proofs.WorthLaw.{read_law}
use Rattle.xa_tables.specs.{Tables, History, names, is_heur, tables_after, held_by}
use Rattle.xa_desk.specs.{LedgerView, ledger, HasGrown, learnt_shut}
use Rattle.xa_switch.specs.{IsOpenedWith, first_of, history as history_of, ledgers_of, IsSettled, Settling}
use Rattle.xa_switch.proofs.SettledOpenings.{follows_first}
use Rattle.xa_log.specs.{LogState, record_of}
use Rattle.xa_driver.specs.{Branch, is_commit, outcome_op, IsTranOf, is_no, is_yes, second_op, third_op, HasSentNone}
use Rattle.laws_commit.proofs.CutBranch.{HasSentOnly, asked_only, ended_voted_so, guide, open_so, told_voted_so}
use Rattle.laws_commit.proofs.CutBranch.{voted_only}
use Rattle.laws_commit.proofs.CutSends.{unrecorded_law, decided_so}
use Rattle.laws_commit.proofs.Leading.{IsTowards, Leads}
use Rattle.laws_balances.specs.{CommitsNowhere, OnlyTold, tells_outcome, CommitsInCall, DecidesNowhere, IsMarkedNowhere}
use Rattle.laws_balances.specs.{VotedInCall, taken_till_asked, AgreedOrRead, agreed, read, IsItsOwn, asked_sum, leg_of}
use Rattle.laws_balances.specs.{OnlyRead, ComesOutByTheLog}
use Rattle.laws_commit.proofs.OneOutcome.{third_so, positive_all}
use Rattle.xa_driver.proofs.Calls.{one_tran}
use Rattle.xa_driver.proofs.Mapped.{Any, IsAskedFor, any_asked}
use Rattle.laws_commit.proofs.Presumed.{use_there}
use Rattle.laws_balances.specs.SettledDays.{voted, unasked}

-- ---- what a commit and a resolve sent, as the histories have it: resolves

told_either : (commit : Bool) (x : XidName) → tells_outcome (outcome_op commit x) ≡ true
told_either commit x = search (arith, rules)

pub resolves_tell : (m : ℕ) (x : XidName) (o : Opening) → IsUpTo MOST_MANAGERS m → IsKept o → OnlyResolves (tran_of x) o
    → OnlyTold x (history_of o.settled m)
resolves_tell m x o up kept only =
    let all = named_so o.settled kept.settled m up (λ op. names x op ≡ true → tells_outcome op ≡ true) (tran_of x)
    o.uses (λ n. cc) kept.uses (λ q there r among. record {
      ends = λ _ _ n. told_either r.commit r.xid;
      forgets = λ _ _ n. refl;
    }) (only m) in
    λ k d lt n. all k d lt (named_tran x (get_or (history_of o.settled m) k d).op n) n

pub outcome_named : (b : Bool) (y x : XidName) → names x (outcome_op b y) ≡ true → y ≡ x
outcome_named b y x n = search (arith, Decides-xid_eq)

pub resolves_commit_nothing : (m : ℕ) (x : XidName) (o : Opening) → IsUpTo MOST_MANAGERS m → IsKept o
    → OnlyResolves (tran_of x) o → IsMarkedNowhere m x o
    → CommitsNowhere x (history_of o.settled m)
resolves_commit_nothing m x o up kept only marked =
    let all = named_so o.settled kept.settled m up (λ op. names x op ≡ true → is_commit op ≡ false) (tran_of x) o.uses
    (λ n. cc) kept.uses (λ q there r among. record {
      ends = search (arith, outcome_named);
      forgets = λ _ _ n. refl;
    }) (only m) in
    λ k d lt n. all k d lt (named_tran x (get_or (history_of o.settled m) k d).op n) n

-- ---- a commit

-- what it sent to a branch's manager after the branch's Prepare leads the branch, or doesn't name it
module _ (k : CommitCall) where
  abbrev Sent : Branch → Type 0
  Sent b = (commit : Bool) × HasSentOnly commit (Unit {0}) b.xid (before_at k b) (after_at k b)

  voted_sent : (c : Bool) (b : Branch) (v : Code)
      → HasVoted (IsTowards c (Unit {0}) b.xid) b v (before_at k b) (after_at k b) → WasAsked k b → Sent b
  voted_sent c b v h first = (
    c,
    voted_only c (Unit {0}) b v (before_at k b) (after_at k b) h
        (open_so c (Unit {0}) b v (before_at k b) (after_at k b) h first),
  )

  sent_at : {tran : TranName} (b : Branch) → CameAt tran k b → WasAsked k b → Sent b
  sent_at b (at_asking same h) first = (false, asked_only false (Unit {0}) b (before_at k b) (after_at k b) h first)
  sent_at b (at_telling d v vote h) first =
      voted_sent d.commit b v (told_voted_so d.commit (Unit {0}) b v (before_at k b) (after_at k b) h) first
  sent_at b (at_forgetting d v vote z h) first =
      voted_sent d.commit b v (ended_voted_so d.commit (Unit {0}) b v z (before_at k b) (after_at k b) (λ _. tt) h)
      first

leads_tells : (commit : Bool) (op : Op) → Leads commit (Unit {0}) op → tells_outcome op ≡ true
leads_tells commit op z = search (arith, rules)

-- the manager of one of its branches has a number
positive_at : (s : Settling) (k : CommitCall) (b : Branch) → IsUseIn s (commits k) → Contains k.branches b → 1 ≤ b.m
positive_at s k b use_ there =
    All-contains (λ (c : Branch). 1 ≤ c.m) k.branches b (positive_all 0 k.branches use_.made.may.rising) there

pub voted_in_call : (law : Tabled) (s : Settling) (k : CommitCall) (b : Branch) (T : Tables) → IsSettled s
    → IsUseIn s (commits k) → Contains k.branches b
    → VotedToCommit k s b → AskedAreLeft k s → first_of s b.m ≡ Some T → DecidesNowhere b.xid (history_of s b.m)
    → CommitsNowhere b.xid (taken_till_asked k s b)
    → VotedInCall k s b T
voted_in_call law s k b T settled use_ there vote own first plain quiet =
    let t : ℕ = k.thread in
    let x : XidName = b.xid in
    let a' : LedgerView = after_at k b in
    let n : ℕ = prepare_at k b in
    let made : IsCut k = use_.made in
    let sends =
    sent_at k b (All-contains (CameAt made.may.tran k) k.branches b (each_came k made.may.rising made.far) there)
    vote.asked in
    let only : OnlyTheseOrDecisionsName x t n (length a'.sent) (history_of s b.m) = search (arith, All-contains) in
    let opened : IsOpenedWith s b.m T = follows_first s b.m T settled first in
    let positive = positive_at s k b use_ there in
    let grown : HasGrown a' (ledger (ledgers_of s t) b.m) = use_.grown.each b.m positive in
    let site : Site t T (history_of s b.m) = site_of law s settled t b.m T opened in
    let f = sent_stands law s settled t b.m T opened positive a' grown n (Prepare x) Done vote.asked vote.agreed in
    let P : Request → Type 0 = λ r. names x r.op ≡ true → is_heur r.op ≡ false in
    let plain_after : All P f.after = all_after P f.before (request_of t n (Prepare x)) f.after (rw f.place at plain) in
    record {
      votes = record {
        before = f.before;
        ask = request_of t n (Prepare x);
        after = f.after;
        parts = f.place;
        asks = refl;
        agrees = sym f.code;
        uncommitted = rw (taken site x n Done f) at quiet;
        told = λ j d lt named.
            leads_tells sends.0 (get_or f.after j d).op
            (guide site x (before_at k b) a' (sent_on s t b.m positive a' grown) sends.0 only (Unit {0}) sends.1
            Done f j d lt named (plain_after j d lt named));
      };
      asked = sym (taken site x n Done f);
    }

-- ---- a commit that sent no Commit to a branch

pub unsent_law : (s : Settling) (k : CommitCall) (b : Branch) → IsSettled s → IsUseIn s (commits k) → 1 ≤ b.m
    → HasSentNone (is_commit_of b.xid) (before_at k b) (after_at k b) → CommitsInCall k s b
    → CommitsNowhere b.xid (history_of s b.m)
unsent_law s k b settled use_ positive z within j d lt named =
    let old : LedgerView = before_at k b in
    let new : LedgerView = after_at k b in
    let each =
    sent_between s settled k.thread b.m positive (λ op. is_commit_of b.xid op ≡ false) old new z.more z.sent
    (none_all (is_commit_of b.xid) z.more z.none) (use_.grown.each b.m positive) in
    let r : Request = get_or (history_of s b.m) j d in
    false_from_ne_true (is_commit r.op) (λ on.
    let w = within j d lt named on in
    both_ways (is_commit_of b.xid r.op) (each j d lt w.thread w.from w.below) (λ i. named i && on i))

pub unrecorded_nowhere : (s : Settling) (k : CommitCall) (b : Branch) (t : TranName) → IsSettled s
    → IsUseIn s (commits k) → Contains k.branches b
    → IsTranOf k.branches t → is_recorded k.later t ≡ false → CommitsInCall k s b
    → CommitsNowhere b.xid (history_of s b.m)
unrecorded_nowhere s k b t settled use_ there of_tran off within =
    unsent_law s k b settled use_ (positive_at s k b use_ there)
    (All-contains (λ (c : Branch). HasSentNone (is_commit_of c.xid) (before_at k c) (after_at k c)) k.branches b
    (unrecorded_law k use_.made t of_tran off) there)
    within

-- ---- where the log has a transaction's record, all of its branches were asked, and none voted against

-- it is one of two
vote_so : (v : Code) → is_no v ≡ false → v ≡ (if is_yes v then Done else RdOnly)
vote_so v for = search (arith, rules)

-- ---- what was sent after the vote of a branch that only read

abbrev NoCommit : XidName → Op → Type 0
NoCommit x op = is_commit_of x op ≡ false

unnamed_none : (x : XidName) (op : Op) → names x op ≡ false → NoCommit x op
unnamed_none x op n = ap (λ b. b && is_commit op) n

untold : (c : Bool) (x : XidName) → IsAskedFor (NoCommit x) (second_op c x RdOnly)
untold true x = tt
untold false x = tt

forgets_none : (x : XidName) (s : Option Code) → IsAskedFor (NoCommit x) (third_op x s)
forgets_none x s = third_so (NoCommit x) x s (λ _. and_right (names x (Forget x)) false refl)

-- one branch
module _ (s : Settling) (k : CommitCall) (use_ : IsUseIn s (commits k)) (b : Branch) (positive : 1 ≤ b.m) where
  abbrev a : LedgerView
  a = before_at k b

  -- its vote was collected, as the settled opening has it
  record Collected (v : Code) : Type 0 where
    asked : WasAsked k b
    heard : Contains (ledger (ledgers_of s k.thread) b.m).collected (length a.sent, v)
    open_ : learnt_shut a ≡ false

  collected_so : (P : Op → Type 0) (v : Code) → is_no v ≡ false → HasVoted P b v a (after_at k b) → Collected v
  collected_so P v for h =
      let open_ : learnt_shut a ≡ false =
      false_from_ne_true (learnt_shut a) (λ shut. both_ways (is_no v) for (ap is_no (h.prepared shut))) in
      let grown : HasGrown (after_at k b) (ledger (ledgers_of s k.thread) b.m) = use_.grown.each b.m positive in
      search (arith, prepare_there, vote_there)

  none_sent : (v : Code) → learnt_shut a ≡ false → HasVoted (NoCommit b.xid) b v a (after_at k b)
      → HasSentNone (is_commit_of b.xid) a (after_at k b)
  none_sent v open_ h = record {
    more = Prepare b.xid ∷ h.rest.more;
    sent = prepare_sent (NoCommit b.xid) b v a (after_at k b) open_ h;
    none = list_any_none (is_commit_of b.xid) (Prepare b.xid ∷ h.rest.more)
        (All-cons (NoCommit b.xid) (Prepare b.xid) h.rest.more (and_right _ false refl) h.rest.all);
  }

  by_vote : (v : Code) → is_no v ≡ false → HasVoted Any b v a (after_at k b)
      → (v ≡ RdOnly → HasVoted (NoCommit b.xid) b v a (after_at k b))
      → AgreedOrRead k s b
  by_vote v for h quiet =
      let z = collected_so Any v for h in
      elim (is_yes v) as (λ c. is_yes v ≡ c → AgreedOrRead k s b) [
        | true ↦ λ y. agreed
            (record {
              asked = z.asked;
              agreed = rw (vote_so v for ∙ ap (λ c. if c then Done else RdOnly) y) at z.heard;
            })
        | false ↦ λ n.
            let is : v ≡ RdOnly = vote_so v for ∙ ap (λ c. if c then Done else RdOnly) n in
            read (record { asked = z.asked; agreed = rw is at z.heard; untold = none_sent v z.open_ (quiet is) })
      ] refl

-- all of them
module _ (s : Settling) (k : CommitCall) (use_ : IsUseIn s (commits k)) (t : TranName) (of_tran : IsTranOf k.branches t)
    (on : is_recorded k.later t ≡ true) where
  there : is_recorded k.later use_.made.may.tran ≡ true
  there =
      ap (is_recorded k.later) (one_tran k.branches use_.made.may.tran t use_.made.may.some use_.made.may.one of_tran)
      ∙ on

  for_so : (d : DecisionOf use_.made.may.tran k) (b : Branch) (v : Code) → IsVoteOf k.branches d.votes b v
      → is_no v ≡ false
  for_so d b v vote = search (arith, not-true, and_parts, decided_so, use_.made, there, All-contains, none_all)

  at_branch : (b : Branch) → 1 ≤ b.m → CameAt use_.made.may.tran k b → AgreedOrRead k s b
  at_branch b positive (at_asking same h) =
      let z : false ≡ true =
      sym (ap (λ (l : LogState). is_some (record_of l use_.made.may.tran)) same ∙ ap is_some use_.made.may.absent)
      ∙ there in
      cc
  at_branch b positive (at_telling d v vote h) =
      let c : Bool = d.commit in
      by_vote s k use_ b positive v (for_so d b v vote)
      (told_voted Any c b v (before_at k b) (after_at k b) (λ op _. tt) (any_asked (second_op c b.xid v)) h)
      (λ is. told_voted (NoCommit b.xid) c b v (before_at k b) (after_at k b) (unnamed_none b.xid)
      (rw is (untold c b.xid)) h)
  at_branch b positive (at_forgetting d v vote z h) =
      let c : Bool = d.commit in
      by_vote s k use_ b positive v (for_so d b v vote)
      (ended_voted Any c b v (before_at k b) (after_at k b) (λ op _. tt) (any_asked (second_op c b.xid v)) z
      (any_asked (third_op b.xid z)) h)
      (λ is. ended_voted (NoCommit b.xid) c b v (before_at k b) (after_at k b) (unnamed_none b.xid)
      (rw is (untold c b.xid)) z (forgets_none b.xid z) h)

  pub recorded_law : All (AgreedOrRead k s) k.branches
  recorded_law j d lt =
      at_branch (get_or k.branches j d) (positive_all 0 k.branches use_.made.may.rising j d lt)
      (each_came k use_.made.may.rising use_.made.far j d lt)

-- ---- the branches of a commit come out by the log

-- a branch that only read held nothing
read_nothing : (law : Tabled) (accounts : List (List ℕ × ℕ)) (s : Settling) (k : CommitCall) (b : Branch) (T : Tables)
    → IsSettled s → IsUseIn s (commits k)
    → 1 ≤ b.m
    → first_of s b.m ≡ Some T → OnlyRead k s b → asked_sum accounts k s T b ≡ pos 0
read_nothing law accounts s k b T settled use_ positive first z =
    let t : ℕ = k.thread in
    let n : ℕ = prepare_at k b in
    let opened : IsOpenedWith s b.m T = follows_first s b.m T settled first in
    let f =
    sent_stands law s settled t b.m T opened positive (after_at k b) (use_.grown.each b.m positive) n
    (Prepare b.xid) RdOnly z.asked z.agreed in
    ap (λ (g : History). held_by accounts b.xid (tables_after g T))
    (taken (site_of law s settled t b.m T opened) b.xid n RdOnly f)
    ∙ read_law accounts t b.xid (tables_after f.before T) (sym f.code)

-- over later openings
all_histories : (P : History → Type 0) (m : ℕ) (os : List Opening) → All (λ o. P (history_of o.settled m)) os
    → All P (histories m os)
all_histories P m [] all k d lt = absurd (omega arith)
all_histories P m (o ∷ os) all zero d lt = All-head (λ (q : Opening). P (history_of q.settled m)) o os all
all_histories P m (o ∷ os) all (suc k) d lt =
    all_histories P m os (All-tail (λ (q : Opening). P (history_of q.settled m)) o os all) k d (omega arith)

module _ (law : Tabled) (accounts : List (List ℕ × ℕ)) (o : Opening) (later : List Opening) (k : CommitCall)
    (t : TranName) (b : Branch) (T : Tables)
    (kept : IsKept o)
    (later_kept : All IsKept later) (use_ : IsUseIn o.settled (commits k)) (few : b.m ≤ MOST_MANAGERS)
    (of_tran : IsTranOf k.branches t)
    (there : Contains k.branches b) (named : tran_of b.xid ≡ t)
    (own_calls : VotedToCommit k o.settled b → VotedInCall k o.settled b T)
    (first : first_of o.settled b.m ≡ Some T)
    (ended : VotedToCommit k o.settled b → EndsAs (is_recorded k.later t) o later b (known_of k b))
    (own : IsItsOwn k t o later T b) where
  positive : 1 ≤ b.m
  positive = positive_at o.settled k b use_ there

  up : IsUpTo MOST_MANAGERS b.m
  up = (positive, few)

  only : (p : Opening) → OnlyResolves t p → OnlyResolves (tran_of b.xid) p
  only p z = rw named z

  told : All (OnlyTold b.xid) (histories b.m later)
  told =
      all_histories (OnlyTold b.xid) b.m later
      (λ j d lt. resolves_tell b.m b.xid (get_or later j d) up (later_kept j d lt)
      (only (get_or later j d) (own.later_only j d lt)))

  nowhere : All (IsMarkedNowhere b.m b.xid) later → All (CommitsNowhere b.xid) (histories b.m later)
  nowhere marked =
      all_histories (CommitsNowhere b.xid) b.m later (λ j d lt.
      resolves_commit_nothing b.m b.xid (get_or later j d) up (later_kept j d lt)
      (only (get_or later j d) (own.later_only j d lt)) (marked j d lt))

  by_votes : is_recorded k.later t ≡ true → AgreedOrRead k o.settled b
      → ComesOutByTheLog accounts b.m T o later (leg_of accounts k t o.settled T b)
  by_votes on (agreed v) =
      let z = own_calls v in
      voted own.fresh z.votes told (known_of k b) (ended v)
      (ap (λ (h : History). held_by accounts b.xid (tables_after h T)) (sym z.asked))
  by_votes on (read z) =
      unasked
      (All-cons (CommitsNowhere b.xid) (history_of o.settled b.m) (histories b.m later)
      (unsent_law o.settled k b kept.settled use_ positive z.untold own.within) (nowhere (own.unread z)))
      (ap (λ c. if c then asked_sum accounts k o.settled T b else pos 0) on
      ∙ read_nothing law accounts o.settled k b T kept.settled use_ positive first z)

  pub out_law : ComesOutByTheLog accounts b.m T o later (leg_of accounts k t o.settled T b)
  out_law =
      elim (is_recorded k.later t) as
      (λ c. is_recorded k.later t ≡ c → ComesOutByTheLog accounts b.m T o later (leg_of accounts k t o.settled T b)) [
        | true ↦ λ on. by_votes on
            (All-contains (AgreedOrRead k o.settled) k.branches b (recorded_law o.settled k use_ t of_tran on) there)
        | false ↦ λ off.
            unasked
            (All-cons (CommitsNowhere b.xid) (history_of o.settled b.m) (histories b.m later)
            (unrecorded_nowhere o.settled k b t kept.settled use_ there of_tran off own.within)
            (nowhere (own.unmarked off)))
            (ap (λ c. if c then asked_sum accounts k o.settled T b else pos 0) off)
      ] refl

-- ---- by what resolves it

pub tran_each : (bs : List Branch) (t : TranName) → IsTranOf bs t → All (λ b. tran_of b.xid ≡ t) bs
tran_each [] t of_tran k d lt = absurd (omega arith)
tran_each (b ∷ bs) t of_tran zero d lt = of_tran.0
tran_each (b ∷ bs) t of_tran (suc k) d lt = tran_each bs t of_tran.1 k d (omega arith)

pub comes_out_law : Tabled
    → ((o : Opening) (between : List Opening) (last : Opening) (k : CommitCall) (q : ResolveCall)
    → IsResolved o between last k q
    → EndsByTheLog k o (between ++ last ∷ []))
    → (accounts : List (List ℕ × ℕ)) (o : Opening) (between : List Opening) (last : Opening) (k : CommitCall)
    (q : ResolveCall) (t : TranName) (b : Branch) (T : Tables)
    → IsResolved o between last k q → IsTranOf k.branches t → Contains k.branches b → b.m ≤ MOST_MANAGERS
    → first_of o.settled b.m ≡ Some T
    → IsItsOwn k t o (between ++ last ∷ []) T b
    → ComesOutByTheLog accounts b.m T o (between ++ last ∷ []) (leg_of accounts k t o.settled T b)
comes_out_law law outcome accounts o between last k q t b T r of_tran there few first own =
    let later : List Opening = between ++ last ∷ [] in
    let kept : IsKept o = All-head IsKept o later r.kept in
    let use_ : IsUseIn o.settled (commits k) = use_there o.settled o.uses r.us r.vs (commits k) r.use_at kept.uses in
    out_law law accounts o later k t b T kept (All-tail IsKept o later r.kept) use_ few of_tran there
    (All-contains (λ (c : Branch). tran_of c.xid ≡ t) k.branches b (tran_each k.branches t of_tran) there)
    (λ v. voted_in_call law o.settled k b T kept.settled use_ there v r.own first own.plain own.before) first
    (All-contains
    (λ (c : Branch). VotedToCommit k o.settled c → EndsAs (is_recorded k.later t) o later c (known_of k c))
    k.branches b
    ((outcome o between last k q r).each t of_tran) there)
    own
