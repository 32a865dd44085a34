-- Whether a commit's log has its record is what was told of the commit, also where its coordinator died.
use Rattle.std.specs.FinMap as map
use Rattle.xa_words.specs.declared.death.Death.TheVariants as death
use Rattle.xa_base.proofs.{inl, inr, ◌≡◌, ℕ, ◌-◌, ◌≤◌, List, [], ◌∷◌, length, get_or, take, sym, refl, arith, Option}
use Rattle.xa_base.proofs.{All, cases_lt, All-head, All-tail, rules, is_some, ◌≢◌, zero, Bool, true, false, cond, None}
use Rattle.xa_base.proofs.{Some, ◌++◌, append_assoc, ap, ◌∙◌, Contains, eq_by_cmp, is_eq, tied_itself, get-insert}
use Rattle.xa_base.proofs.{or-true, and_parts, Contains-append_right, is_equal, get_or-take}
use Rattle.std.proofs.lemmas.List.{length-take}
use Rattle.std.proofs.lemmas.List.Sums.{sum_by-take-le}
use Rattle.xa_base.specs.{MOST_MANAGERS, IsUpTo}
use Rattle.xa_words.specs.{Code, TranName, XidName, tran_of, RdOnly, Death, Op, Prepare}
use Rattle.xa_desk.specs.{LedgerView, DeskView, ledger, no_ledger, HaveGrown, learnt_shut, with_collected, with_sent}
use Rattle.xa_desk.proofs.Ledgers.{past_end}
use Rattle.xa_driver.specs.{Branch, Ending, EachBranch, HaveRoom, MayCommit, decision_of, CommitOutcome, LastKnown}
use Rattle.xa_driver.specs.{AtBranch, CameTo, HaveAsked, HaveTold, knows_commit, PutsLedger, decides_commit, has_yes}
use Rattle.xa_driver.specs.{yes_of, AsksLedger, IsTranOf, Logs}
use Rattle.xa_driver.specs.declared.done.CommitOutcome.TheVariants as outcome
use Rattle.xa_driver.specs.declared.done.LastKnown.TheVariants as known_as
use Rattle.xa_log.specs.{LogState, IsEither, record_of, with_record, tran_cmp}
use Rattle.laws_commit.specs.{CommitCall, DecisionOf, after_at, before_at, commit_call, CameSoFar, EachVote, IsAsked}
use Rattle.laws_commit.specs.{IsCut, IsEnded, IsTold, asking, forgetting, telling, is_recorded, TurnsOut, endings_of}
use Rattle.xa_words.proofs.Xids.{xid_self}
use Rattle.xa_tables.specs.{names, is_heur}
use Rattle.xa_log.proofs.Transactions.{tran_cmp_total, tran_cmp-IsAntisymmetric}
use Rattle.laws_commit.proofs.OneOutcome.{branch_map}
use Rattle.laws_commit.proofs.Staged.{commit_is_cut}
use Rattle.xa_work.specs.{Commit, HasSent, ComesOfCommit, IfLost}
use Rattle.xa_work.proofs.Sent.{none_sent}
use Rattle.xa_work.proofs.Voted.{MayAsk, SentAt, StaysElsewhere, VotedSo, came_each, came_elsewhere, heard_so, made_so}
use Rattle.xa_work.proofs.Voted.{obeyed_so}
use Rattle.demo_bank_days.specs.{is_applied}

-- the first managers
abbrev pub fewer : List LedgerView → List LedgerView
fewer at = take MOST_MANAGERS at

abbrev pub fewer_at : DeskView → DeskView
fewer_at desk = record desk { ledgers = fewer desk.ledgers }

abbrev pub IsLow : Branch → Type 0
IsLow b = IsUpTo MOST_MANAGERS b.m

pub same_ledger : (at : List LedgerView) (m : ℕ) → IsUpTo MOST_MANAGERS m → ledger (fewer at) m ≡ ledger at m
same_ledger at m (low, high) = get_or-take MOST_MANAGERS at (m - 1) no_ledger (omega (arith, low, high))

pub few_left : (at : List LedgerView) → length (fewer at) ≤ MOST_MANAGERS
few_left at = let e = length-take MOST_MANAGERS at in omega (arith, e)

-- what was sent and collected grows all the same
pub fewer_grown : (at final : List LedgerView) → HaveGrown at final → HaveGrown (fewer at) final
fewer_grown at final grown = record {
  each = λ m positive. elim (cases_lt MOST_MANAGERS m) [
    | inl above ↦
        let none : ledger (fewer at) m ≡ no_ledger = search (arith, past_end, few_left) in
        rw none (record { sent = ((ledger final m).sent, refl); collected = ((ledger final m).collected, refl) })
    | inr low ↦ rw (same_ledger at m (positive, low)) (grown.each m positive)
  ];
}

-- ---- the cut

fewer_room : (at : List LedgerView) (bs : List Branch) → All IsLow bs → HaveRoom at bs → HaveRoom (fewer at) bs
fewer_room at [] low h = tt
fewer_room at (b ∷ bs) low h =
    search (arith, fewer_room at bs (All-tail IsLow b bs low) h.1, All-tail, All-head, length-take, same_ledger)

pub fewer_may : (desk : DeskView) (log : LogState) (bs : List Branch) → All IsLow bs → MayCommit desk log bs
    → MayCommit (fewer_at desk) log bs
fewer_may desk log bs low may = record {
  prepare = record {
    some = may.some;
    most = may.most;
    rising = may.rising;
    room = fewer_room desk.ledgers bs low may.room;
    free = search (arith, sum_by-take-le, desk.ledgers, may.free);
    tran = may.tran;
    one = may.one;
  };
  absent = may.absent;
}

module _ (old new : List LedgerView) where
  at_branch : (P : LedgerView → LedgerView → Type 0) (b : Branch) → IsLow b → P (ledger old b.m) (ledger new b.m)
      → P (ledger (fewer old) b.m) (ledger (fewer new) b.m)
  at_branch P b up h = search (arith, same_ledger, b.m)

  at_votes : (P : Branch → Code → LedgerView → LedgerView → Type 0) (bs : List Branch) (vs : List Code) → All IsLow bs
      → EachVote (λ b v. P b v (ledger old b.m) (ledger new b.m)) bs vs
      → EachVote (λ b v. P b v (ledger (fewer old) b.m) (ledger (fewer new) b.m)) bs vs
  at_votes P [] [] low h = tt
  at_votes P (b ∷ bs) (v ∷ vs) low h =
      (at_branch (P b v) b (All-head IsLow b bs low) h.0, at_votes P bs vs (All-tail IsLow b bs low) h.1)
  at_votes P bs vs low h = absurd h

-- the commit, over them alone
abbrev pub fewer_call : CommitCall → CommitCall
fewer_call c = record c { desk = fewer_at c.desk; new = fewer c.new }

abbrev fewer_decision : (tran : TranName) (c : CommitCall) → DecisionOf tran c → DecisionOf tran (fewer_call c)
fewer_decision tran c d = record { votes = d.votes; commit = d.commit; logged = d.logged; decided = d.decided }

fewer_far : (tran : TranName) (c : CommitCall) → All IsLow c.branches → CameSoFar tran c → CameSoFar tran (fewer_call c)
fewer_far tran c low (asking same unknown each) =
    asking same unknown
    (λ k d lt. let b : Branch = get_or c.branches k d in at_branch c.desk.ledgers c.new (IsAsked b) b (low k d lt)
    (each k d lt))
fewer_far tran c low (telling d unknown each) =
    telling (fewer_decision tran c d) unknown
    (at_votes c.desk.ledgers c.new (λ b v a a'. IsTold d.commit b v a a') c.branches d.votes low each)
fewer_far tran c low (forgetting d seconds each) =
    forgetting (fewer_decision tran c d) seconds
    (branch_map IsLow (λ b v s e. IsEnded d.commit b v s e (before_at c b) (after_at c b)) _
    (λ b v s e up h. at_branch c.desk.ledgers c.new (IsEnded d.commit b v s e) b up h) c.branches d.votes seconds
    c.endings low each)

pub fewer_cut : (c : CommitCall) → All IsLow c.branches → IsCut c → IsCut (fewer_call c)
unfolding fewer_may
fewer_cut c low cut = record {
  may = fewer_may c.desk c.log c.branches low cut.may;
  far = fewer_far cut.may.tran c low cut.far;
  managers = let e = length-take MOST_MANAGERS c.new in let f = length-take MOST_MANAGERS c.desk.ledgers in let
      g = cut.managers in omega (arith, e, f, g);
}

-- the request names the branch, and is no decision of its manager's own
abbrev pub Obeys : XidName → Op → Type 0
Obeys x op = (names x op ≡ true) × (is_heur op ≡ false)

may_obey : (b : Branch) → MayAsk (Obeys b.xid) b.xid
may_obey b = search (arith, xid_self)

-- to a branch's manager such requests, and to the others nothing
abbrev pub ObeysAt : List LedgerView → List LedgerView → Branch → Type 0
ObeysAt old new = SentAt (λ b. Obeys b.xid) old new

-- ---- the record

recorded : (log : LogState) (t : TranName) (managers : List Bool) → is_recorded (with_record log t managers) t ≡ true
recorded log t managers =
    ap is_some (get-insert tran_cmp_total log.records t managers t
    ∙ ap (λ c. cond c (Some managers) (map.get log.records t)) (ap is_eq (tied_itself tran_cmp_total t)))

-- it is there exactly where the log took it
logged_is : (t : TranName) (managers : List Bool) (votes : List Code) (logged : Bool) (log later : LogState)
    → record_of log t ≡ None
    → Logs t managers votes logged log later → is_recorded later t ≡ logged
logged_is t managers votes logged log later absent h = search (arith, recorded, is_some)

-- those of other transactions stay
unadded : (own t : TranName) (managers : List Bool) (log : LogState) → t ≢ own
    → record_of (with_record log own managers) t ≡ record_of log t
unadded own t managers log other =
    get-insert tran_cmp_total log.records own managers t
    ∙ elim (eq_by_cmp tran_cmp t own) as
    (λ c. eq_by_cmp tran_cmp t own ≡ c → cond c (Some managers) (map.get log.records t) ≡ map.get log.records t) [
      | true ↦ λ same. absurd (other (tran_cmp-IsAntisymmetric t own (is_equal _ same)))
      | false ↦ λ _. refl
    ] refl

others_stay : (own t : TranName) (managers : List Bool) (votes : List Code) (logged : Bool) (log later : LogState)
    → t ≢ own
    → Logs own managers votes logged log later → record_of later t ≡ record_of log t
others_stay own t managers votes logged log later other h = search (arith, unadded)

-- so they do where nobody knew whether this one was made
either_others : (own t : TranName) (managers : List Bool) (log later : LogState) → t ≢ own
    → IsEither log later own managers
    → record_of later t ≡ record_of log t
either_others own t managers log later other h = search (arith, unadded)

-- ---- the first vote

-- the branch was asked to prepare, and answered XA_RDONLY
pub record OnlyReads (b : Branch) (a a' : LedgerView) : Type 0 where
  pub more : List Op
  pub sent : a'.sent ≡ a.sent ++ Prepare b.xid ∷ more
  pub collected : Contains a'.collected (length a.sent, RdOnly)

reads : (b : Branch) (a d a' : LedgerView) → AsksLedger a (Prepare b.xid) d RdOnly → HasSent (Obeys b.xid) d a'
    → OnlyReads b a a'
reads b a d a' asks after =
    let open_ : learnt_shut a ≡ false = search (arith, asks.answered) in
    let first : d ≡ with_collected (with_sent a (Prepare b.xid)) (length a.sent) RdOnly = search (arith, rules) in
    let took = after.collected in
    record {
      more = after.more;
      sent = after.sent ∙ ap (λ (l : LedgerView). l.sent ++ after.more) first
          ∙ append_assoc a.sent (Prepare b.xid ∷ []) after.more;
      collected =
          rw (took.1 ∙ ap (λ (l : LedgerView). l.collected ++ took.0) first
          ∙ append_assoc a.collected ((length a.sent, RdOnly) ∷ []) took.0)
          (Contains-append_right a.collected ((length a.sent, RdOnly) ∷ took.0) (length a.sent, RdOnly)
          (zero, omega arith, refl));
    }

-- the first of the branches voted so, and what it was told after that
record FirstVoted (b : Branch) (vs : List Code) (a a' : LedgerView) : Type 0 where
  vote : Code
  others : List Code
  votes : vs ≡ vote ∷ others
  voted : VotedSo (Obeys b.xid) b vote a a'

module _ (old new : List LedgerView) (b : Branch) (bs : List Branch) where
  abbrev First : List Code → Type 0
  First vs = FirstVoted b vs (ledger old b.m) (ledger new b.m)

  asked_first : (vs : List Code) → length vs ≡ length (b ∷ bs)
      → HaveAsked AsksLedger PutsLedger (b ∷ bs) vs (ledger old) (ledger new) → First vs
  asked_first [] many h = absurd (omega (arith, many))
  asked_first (v ∷ vs) many h = search (arith, none_sent)

  told_first : (commit : Bool) (k : ℕ) (vs : List Code)
      → HaveTold AsksLedger PutsLedger commit k (b ∷ bs) vs (ledger old) (ledger new) → First vs
  told_first commit k [] h = absurd h
  told_first commit k (v ∷ vs) h =
      record {
        vote = v;
        others = vs;
        votes = refl;
        voted = heard_so (Obeys b.xid) commit b v (ledger old b.m) (ledger new b.m) (may_obey b) k h.0;
      }

  voting_first : (R : Branch → Code → Option Code → Ending → Type 0)
      → ((v : Code) (s : Option Code) (e : Ending) → R b v s e
      → VotedSo (Obeys b.xid) b v (ledger old b.m) (ledger new b.m))
      → (vs : List Code) (ss : List (Option Code)) (es : List Ending) → EachBranch R (b ∷ bs) vs ss es → First vs
  voting_first R voted (v ∷ vs) (s ∷ ss) (e ∷ es) h =
      record { vote = v; others = vs; votes = refl; voted = voted v s e h.0 }
  voting_first R voted vs ss es h = absurd h

-- where it isn't read only, and no vote is against, there is one to commit
some_yes : (v : Code) (vs : List Code) → (v ≡ RdOnly → ⊥) → decides_commit (v ∷ vs) ≡ true → has_yes (v ∷ vs) ≡ true
some_yes v vs reads decides = search (arith, reads)

some_decided : (b : Branch) (vs : List Code) (a a' : LedgerView) → FirstVoted b vs a a' → (OnlyReads b a a' → ⊥)
    → decides_commit vs ≡ true → has_yes vs ≡ true
some_decided b vs a a' z never decides =
    let votes : z.vote ≡ RdOnly → ⊥ =
    λ is. never (reads b a z.voted.prepared a' (rw is at z.voted.asks) z.voted.after) in
    rw z.votes (some_yes z.vote z.others votes (rw z.votes at decides))

-- then it was decided to commit exactly where the log has the record
decided_so : (t : TranName) (managers : List Bool) (votes : List Code) (logged : Bool) (log later : LogState)
    → (decides_commit votes ≡ true → has_yes votes ≡ true) → Logs t managers votes logged log later
    → decision_of votes logged ≡ logged
decided_so t managers votes logged log later some h = search (arith, and_parts, or-true)

-- ---- what it came to

-- A commit of these branches, the first of which isn't read only, came to this, and was to commit or not: made, or cut
-- short, or without a record that anybody knows of.
pub record HasCome (one two : Branch) (was : Bool) (desk : DeskView) (new : List LedgerView)
    (log later : LogState) : Type 0 where
  pub endings : List Ending
  pub cut : (t : ℕ) → IsCut (commit_call t (one ∷ two ∷ []) desk new log later endings)
  pub obeys : All (ObeysAt desk.ledgers new) (one ∷ two ∷ [])
  pub elsewhere : StaysElsewhere (one ∷ two ∷ []) desk.ledgers new
  pub others : (t : TranName) → t ≢ tran_of one.xid → record_of later t ≡ record_of log t
  pub applied : (OnlyReads one (ledger desk.ledgers one.m) (ledger new one.m) → ⊥)
      → is_recorded later (tran_of one.xid) ≡ was

module _ (one two : Branch) (desk : DeskView) (new : List LedgerView) (log later : LogState) (tran : TranName)
    (absent : record_of log tran ≡ None)
    (never : OnlyReads one (ledger desk.ledgers one.m) (ledger new one.m) → ⊥) where
  abbrev bs : List Branch
  bs = one ∷ two ∷ []

  by_votes : (votes : List Code) (logged commit : Bool)
      → FirstVoted one votes (ledger desk.ledgers one.m) (ledger new one.m)
      → commit ≡ decision_of votes logged → Logs tran (yes_of bs votes) votes logged log later
      → is_recorded later tran ≡ commit
  by_votes votes logged commit first decision logs =
      logged_is tran (yes_of bs votes) votes logged log later absent logs
      ∙ sym
      (decided_so tran (yes_of bs votes) votes logged log later
      (some_decided one votes (ledger desk.ledgers one.m) (ledger new one.m) first never) logs)
      ∙ sym decision

  -- as its coordinator died, it was to commit exactly where the log has the record
  died_commit : (at : Death) (known : LastKnown)
      → CameTo AsksLedger PutsLedger at tran bs (ledger desk.ledgers) (ledger new) log later known
      → is_recorded later tran ≡ knows_commit known
  died_commit (death.Preparing k) (known_as.Votes vs) far =
      ap (λ (l : LogState). is_some (record_of l tran)) far.unlogged ∙ ap is_some absent
  died_commit death.Prepared (known_as.Votes vs) far =
      ap (λ (l : LogState). is_some (record_of l tran)) far.unlogged ∙ ap is_some absent
  died_commit death.Decided (known_as.Decided d vs) far =
      by_votes vs.items d.logged d.commit (asked_first desk.ledgers new one (two ∷ []) vs.items far.counted far.asked)
      far.decided.decision far.decided.logs
  died_commit (death.Telling k) (known_as.Decided d vs) far =
      by_votes vs.items d.logged d.commit (told_first desk.ledgers new one (two ∷ []) d.commit k vs.items far.told)
      far.decided.decision far.decided.logs
  died_commit death.Told (known_as.Told d) far =
      search (arith, by_votes, voting_first, obeyed_so, may_obey, far.seconds, far.decided.decision)
  died_commit at known far = absurd far

-- the records of other transactions stay
died_others : (tran t : TranName) (bs : List Branch) (old new : ℕ → LedgerView) (log later : LogState) (at : Death)
    (known : LastKnown)
    → t ≢ tran
    → CameTo AsksLedger PutsLedger at tran bs old new log later known → record_of later t ≡ record_of log t
died_others tran t bs old new log later (death.Preparing k) (known_as.Votes vs) other far =
    ap (λ (l : LogState). record_of l t) far.unlogged
died_others tran t bs old new log later death.Prepared (known_as.Votes vs) other far =
    ap (λ (l : LogState). record_of l t) far.unlogged
died_others tran t bs old new log later death.Decided (known_as.Decided d vs) other far =
    others_stay tran t (yes_of bs vs.items) vs.items d.logged log later other far.decided.logs
died_others tran t bs old new log later (death.Telling k) (known_as.Decided d vs) other far =
    others_stay tran t (yes_of bs vs.items) vs.items d.logged log later other far.decided.logs
died_others tran t bs old new log later death.Told (known_as.Told d) other far =
    others_stay tran t (yes_of bs d.votes.items) d.votes.items d.logged log later other far.decided.logs
died_others tran t bs old new log later at known other far = absurd far

-- what the log was read as, where nobody knew whether it has the record of these branches, and what was found
pub record IsReadSo (bs : List Branch) (tran : TranName) (log later : LogState) (found : Bool)
    (votes : List Code) : Type 0 where
  pub either : (t : TranName) → IsTranOf bs t → IsEither log later t (yes_of bs votes)
  pub found_ : is_recorded later tran ≡ found

-- nothing is asked of a branch
abbrev IsAny : Branch → Type 0
IsAny b = Unit {0}

module _ (one two : Branch) (at : Option Death) (found : Bool) (desk : DeskView) (new : List LedgerView)
    (log later : LogState) where
  abbrev both : List Branch
  both = one ∷ two ∷ []

  abbrev IsRead : CommitOutcome → Type 0
  IsRead o = IfLost (IsReadSo both (tran_of one.xid) log later found) (Commit o)

  -- what the log has once it is read
  turns_out : (o : CommitOutcome) (came : ComesOfCommit both at o desk new log later) → IsRead o
      → TurnsOut came.may.tran both log later later o
  turns_out (outcome.Decided d) came read = refl
  turns_out (outcome.Undecided vs) came read = read.either came.may.tran came.may.one
  turns_out (outcome.Died point known) came read = refl

  come_others : (o : CommitOutcome) (came : ComesOfCommit both at o desk new log later) → IsRead o → (t : TranName)
      → t ≢ came.may.tran
      → record_of later t ≡ record_of log t
  come_others (outcome.Decided d) came read t other =
      others_stay came.may.tran t (yes_of both d.votes.items) d.votes.items d.logged log later other came.comes.1.logs
  come_others (outcome.Undecided vs) came read t other =
      either_others came.may.tran t (yes_of both vs.items) log later other (read.either came.may.tran came.may.one)
  come_others (outcome.Died point known) came read t other =
      died_others came.may.tran t both (ledger desk.ledgers) (ledger new) log later point known other came.comes.1.far

  come_commit : (o : CommitOutcome) (came : ComesOfCommit both at o desk new log later) → IsRead o
      → (OnlyReads one (ledger desk.ledgers one.m) (ledger new one.m) → ⊥)
      → is_recorded later came.may.tran ≡ is_applied found (Commit o)
  come_commit (outcome.Decided d) came read never =
      by_votes one two desk new log later came.may.tran came.may.absent never d.votes.items d.logged d.commit
      (voting_first desk.ledgers new one (two ∷ [])
      (λ b v s e. AtBranch AsksLedger d.commit b v s e (ledger desk.ledgers b.m) (ledger new b.m))
      (λ v s e. made_so (Obeys one.xid) d.commit one v (ledger desk.ledgers one.m) (ledger new one.m) (may_obey one) s
      e)
      d.votes.items came.comes.1.seconds d.endings.items came.comes.1.each)
      came.comes.1.decision came.comes.1.logs
  come_commit (outcome.Undecided vs) came read never = ap (is_recorded later) (sym came.may.one.0) ∙ read.found_
  come_commit (outcome.Died point known) came read never =
      died_commit one two desk new log later came.may.tran came.may.absent never point known came.comes.1.far

  pub has_come : (o : CommitOutcome) → ComesOfCommit both at o desk new log later → IsRead o
      → HasCome one two (is_applied found (Commit o)) desk new log later
  has_come o came read = record {
    endings = endings_of o;
    cut = λ t.
        commit_is_cut (commit_call t both desk new log later (endings_of o)) came.may.tran later at o came.may
        came.may.one came.managers came.comes (turns_out o came read) refl;
    obeys = came_each (λ b. Obeys b.xid) IsAny (λ b _. may_obey b) desk.ledgers new at came.may.tran both log later o
        (λ k b lt. tt) came.comes;
    elsewhere = came_elsewhere at came.may.tran both desk.ledgers new log later o came.comes;
    others = λ t other. come_others o came read t (λ e. other (e ∙ sym came.may.one.0));
    applied = λ never. ap (is_recorded later) came.may.one.0 ∙ come_commit o came read never;
  }
