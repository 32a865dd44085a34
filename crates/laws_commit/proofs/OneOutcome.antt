-- One outcome for all branches of a commit, by what it asks of each and what the log has of its transaction from then
-- on.
use Rattle.xa_base.proofs.{none_all, [], arith, and-false, cond, not, if◌then◌else◌, is_some, ◌≡◌, ℕ, Bool, true, false}
use Rattle.xa_base.proofs.{◌==◌, ◌&&◌, ◌||◌, List, ◌∷◌, sym, refl, ap, ◌∙◌, Some, None, All, get-insert, eq_by_cmp}
use Rattle.xa_base.proofs.{is_eq, tied_itself, All-nil, All-cons, All-head, All-tail, and_parts, is_equal, at_false}
use Rattle.xa_base.proofs.{at_true, by_if, rules, Option, ◌≤◌, eqb-true, list_any, or_from, not-true}
use Rattle.xa_base.proofs.{false_from_ne_true, and_left, and_right, true_from_ne_false, both_ways}
use Rattle.laws_commit.specs.{CommitCall, IsFinished, is_recorded, Use, commits, resolves, AreUses, OfCommit}
use Rattle.laws_commit.specs.{ends_rolled_back, has_committed, has_rolled_back, has_vote_against, was_refused}
use Rattle.laws_commit.specs.{IsCommittedTransaction, IsAbortedTransaction, DidOnly}
use Rattle.std.proofs.lemmas.Bool.{and_cases}
use Rattle.xa_base.specs.{MOST_MANAGERS, IsUpTo}
use Rattle.xa_words.specs.{TranName, Code, XidName, Op, Forget}
use Rattle.xa_driver.specs.{is_recorded_at, Done, Branch, is_yes, decides_commit, has_yes, voted_yes, yes_of, Logs}
use Rattle.xa_driver.specs.{appended, failed, unwanted, decision_of, is_decided, second_op, third_op, outcome_op}
use Rattle.xa_driver.specs.{Ending, AtBranch, AsksLedger, EachBranch, IsTraceOfCommit, has_branch_at, AreBranchesRising}
use Rattle.xa_driver.specs.{wants_record, NoCommitWasSent, is_commit, Heuristic, InDoubt, Left, RolledBack, Committed}
use Rattle.xa_driver.specs.{is_read, is_no, ending_of, yes_ending, no_ending, IsTranOf}
use Rattle.xa_log.specs.{LogState, Records, record_of, tran_cmp}
use Rattle.xa_driver.proofs.Mapped.{IsAskedFor, branch_mapped}
use Rattle.xa_desk.specs.{LedgerView, ledger}
use Rattle.laws_commit.specs.Outcomes.{ends_committed}
use Rattle.xa_driver.proofs.Calls.{one_tran}
use Rattle.std.proofs.Math.Bool.{and-true}
use Rattle.xa_words.proofs.ManagerSets.{in_set_of}
use Rattle.xa_log.proofs.Transactions.{tran_cmp_total, tran_cmp-IsAntisymmetric}
use Rattle.std.specs.FinMap as map
use Rattle.laws_commit.proofs.Resolves.{sends_on, stays, sent_none}

-- the record of the transaction names the manager
abbrev pub is_marked : Records → TranName → ℕ → Bool
is_marked records t m = is_recorded_at (map.get records t) m

-- ---- a record that is made

-- it names the managers that voted to commit
mark_is : (m : ℕ) (bs : List Branch) (vs : List Code) → IsUpTo MOST_MANAGERS m
    → is_recorded_at (Some (yes_of bs vs)) m ≡ voted_yes m bs vs
mark_is m bs vs up = in_set_of (λ k. voted_yes k bs vs) m up

-- where a branch voted to commit some vote is
pub some_yes : (m : ℕ) (bs : List Branch) (vs : List Code) → voted_yes m bs vs ≡ true → has_yes vs ≡ true
some_yes m (b ∷ bs) (v ∷ vs) e =
    elim (is_yes v) as (λ y. ((b.m == m) && y) || voted_yes m bs vs ≡ true → (y || has_yes vs) ≡ true) [
      | true ↦ λ _. refl
      | false ↦ λ e. some_yes m bs vs (sym (ap (λ q. q || voted_yes m bs vs) (and-false (b.m == m))) ∙ e)
    ] e
some_yes m bs vs e = cc

-- ---- what a decision leaves

-- a record where it was decided to commit and some vote is to commit, and else none
pub record_left : (t : TranName) (managers : List Bool) (votes : List Code) (logged : Bool) (log later : LogState)
    → record_of log t ≡ None
    → Logs t managers votes logged log later
    → record_of later t ≡ (if decision_of votes logged && has_yes votes then Some managers else None)
record_left t managers votes logged log later absent (appended wants on is) =
    let w = and_parts (decides_commit votes) (has_yes votes) wants in
    ap (λ (l : LogState). record_of l t) is ∙ get-insert tran_cmp_total log.records t managers t
    ∙ at_true (eq_by_cmp tran_cmp t t) _ _ (ap is_eq (tied_itself tran_cmp_total t))
    ∙ sym (at_true (decision_of votes logged && has_yes votes) _ _ (λ i. (w.0 i && (not (w.1 i) || on i)) && w.1 i))
record_left t managers votes logged log later absent (failed wants off is) = search (arith, and_parts, at_false)
record_left t managers votes logged log later absent (unwanted wants off is) =
    search (arith, at_false, and_right, and_cases)

-- where it was decided to abort it leaves none
pub none_on_abort : (t : TranName) (managers : List Bool) (votes : List Code) (logged : Bool) (log later : LogState)
    → record_of log t ≡ None
    → Logs t managers votes logged log later → decision_of votes logged ≡ false → record_of later t ≡ None
none_on_abort t managers votes logged log later absent logs off = search (arith, record_left, at_false, and_left)

-- where some vote is to commit, the record is the decision
pub record_so : (t : TranName) (managers : List Bool) (votes : List Code) (logged : Bool) (log later : LogState)
    → record_of log t ≡ None
    → Logs t managers votes logged log later → has_yes votes ≡ true
    → record_of later t ≡ (if decision_of votes logged then Some managers else None)
record_so t managers votes logged log later absent logs some = search (arith, record_left, and-true)

pub recorded_is : (t : TranName) (managers : List Bool) (votes : List Code) (logged : Bool) (log later : LogState)
    → record_of log t ≡ None
    → has_yes votes ≡ true → Logs t managers votes logged log later → decision_of votes logged ≡ is_recorded later t
recorded_is t managers votes logged log later absent some logs =
    by_if (λ o. decision_of votes logged ≡ is_some o) (decision_of votes logged) (Some managers) None (λ on. on)
    (λ off. off)
    ∙ sym (ap is_some (record_so t managers votes logged log later absent logs some))

-- and so is the mark of a manager that voted to commit
pub own_mark : (bs : List Branch) (log later : LogState) (votes : List Code) (logged : Bool) (t : TranName) (m : ℕ)
    → IsUpTo MOST_MANAGERS m
    → record_of log t ≡ None → voted_yes m bs votes ≡ true → Logs t (yes_of bs votes) votes logged log later
    → is_marked later.records t m ≡ decision_of votes logged
own_mark bs log later votes logged t m up absent here logs =
    ap (λ o. is_recorded_at o m)
    (record_so t (yes_of bs votes) votes logged log later absent logs (some_yes m bs votes here))
    ∙ by_if (λ o. is_recorded_at o m ≡ decision_of votes logged) (decision_of votes logged) (Some (yes_of bs votes))
    None (λ on. mark_is m bs votes up ∙ here ∙ sym on) (λ off. sym off)

-- ---- it stays

-- a commit leaves the mark of the manager as it is
abbrev pub IsQuiet : Bool → TranName → ℕ → Use → Type 0
IsQuiet mark t m = OfCommit (λ k. is_marked k.log.records t m ≡ mark → is_marked k.later.records t m ≡ mark)

-- a resolve finds the mark so
abbrev pub FindsMark : Bool → TranName → ℕ → Use → Type 0
FindsMark mark t m (commits c) = Unit {0}
FindsMark mark t m (resolves q) = is_marked q.records t m ≡ mark

module _ (mark : Bool) (t : TranName) (m : ℕ) (up : IsUpTo MOST_MANAGERS m) where
  inserted : (bs : List Branch) (vs : List Code) (log : LogState) (own : TranName) → map.get log.records own ≡ None
      → (own ≡ t → mark ≡ false → voted_yes m bs vs ≡ false) → is_marked log.records t m ≡ mark
      → is_marked (map.insert log.records own (yes_of bs vs)) t m ≡ mark
  inserted bs vs log own absent quiet e =
      elim (eq_by_cmp tran_cmp t own) as
      (λ c. eq_by_cmp tran_cmp t own ≡ c → is_marked (map.insert log.records own (yes_of bs vs)) t m ≡ mark) [
        | false ↦ λ other. ap (λ o. is_recorded_at o m)
            (get-insert tran_cmp_total log.records own (yes_of bs vs) t
            ∙ ap (λ c. cond c (Some (yes_of bs vs)) (map.get log.records t)) other)
            ∙ e
        | true ↦ λ same.
            let is : own ≡ t = sym (tran_cmp-IsAntisymmetric t own (is_equal _ same)) in
            let unmarked : mark ≡ false =
            sym e ∙ ap (λ o. is_recorded_at o m) (ap (map.get log.records) (sym is) ∙ absent) in
            ap (λ (k : TranName). is_marked (map.insert log.records own (yes_of bs vs)) k m) (sym is)
            ∙ ap (λ o. is_recorded_at o m) (get-insert tran_cmp_total log.records own (yes_of bs vs) own ∙ ap
            (λ c. cond c (Some (yes_of bs vs)) (map.get log.records own)) (ap is_eq (tied_itself tran_cmp_total own)))
            ∙ mark_is m bs vs up ∙ quiet is unmarked ∙ sym unmarked
      ] refl

  pub logs_keep : (bs : List Branch) (vs : List Code) (logged : Bool) (log later : LogState) (own : TranName)
      → map.get log.records own ≡ None
      → (own ≡ t → mark ≡ false → voted_yes m bs vs ≡ false) → is_marked log.records t m ≡ mark
      → Logs own (yes_of bs vs) vs logged log later → is_marked later.records t m ≡ mark
  logs_keep bs vs logged log later own absent quiet e logs = search (arith, inserted)

  -- from use to use
  pub marks_stay : (us : List Use) (records : Records) → AreUses t records us → is_marked records t m ≡ mark
      → All (IsQuiet mark t m) us
      → All (FindsMark mark t m) us
  marks_stay [] records h e quiet = All-nil (FindsMark mark t m)
  marks_stay (commits c ∷ us) records h e quiet =
      All-cons (FindsMark mark t m) (commits c) us tt
      (marks_stay us c.later.records h.1
      (All-head (IsQuiet mark t m) (commits c) us quiet (ap (λ o. is_recorded_at o m) h.0 ∙ e))
      (All-tail (IsQuiet mark t m) (commits c) us quiet))
  marks_stay (resolves q ∷ us) records h e quiet =
      All-cons (FindsMark mark t m) (resolves q) us (ap (λ o. is_recorded_at o m) h.0 ∙ e)
      (marks_stay us records h.1 e (All-tail (IsQuiet mark t m) (resolves q) us quiet))

pub second_so : (P : Op → Type 0) (commit : Bool) (x : XidName) (v : Code) → P (outcome_op commit x)
    → IsAskedFor P (second_op commit x v)
second_so P commit x v so = search (arith, rules)

-- it was told a decision
abbrev pub is_told_decision : Option Code → Bool
is_told_decision None = false
is_told_decision (Some c) = is_decided c

pub third_so : (P : Op → Type 0) (x : XidName) (s : Option Code) → (is_told_decision s ≡ true → P (Forget x))
    → IsAskedFor P (third_op x s)
third_so P x s so = search (arith, rules)

-- what is asked of a branch by a commit, by a desk's lists
abbrev pub Traced : Bool → List LedgerView → List LedgerView → Branch → Code → Option Code → Ending → Type 0
Traced commit old new b v z e = AtBranch AsksLedger commit b v z e (ledger old b.m) (ledger new b.m)

-- so by one that came to its end
abbrev pub Reported : CommitCall → Done → Branch → Code → Option Code → Ending → Type 0
Reported c d = Traced d.commit c.desk.ledgers c.new

-- what is shown of each branch of which C is known follows for each
pub branch_map : (C : Branch → Type 0) (P Q : Branch → Code → Option Code → Ending → Type 0)
    → ((b : Branch) (v : Code) (s : Option Code) (e : Ending) → C b → P b v s e → Q b v s e)
    → (bs : List Branch) (vs : List Code) (ss : List (Option Code)) (es : List Ending) → All C bs
    → EachBranch P bs vs ss es → EachBranch Q bs vs ss es
branch_map C P Q f [] [] [] [] all h = tt
branch_map C P Q f (b ∷ bs) (v ∷ vs) (s ∷ ss) (e ∷ es) all h =
    (f b v s e (All-head C b bs all) h.0, branch_map C P Q f bs vs ss es (All-tail C b bs all) h.1)
branch_map C P Q f bs vs ss es all h = absurd h

-- the managers of branches have numbers from 1 on
pub positive_all : (lo : ℕ) (bs : List Branch) → AreBranchesRising lo bs → All (λ b. 1 ≤ b.m) bs
positive_all lo [] r = All-nil (λ (b : Branch). 1 ≤ b.m)
positive_all lo (b ∷ bs) r =
    All-cons (λ (c : Branch). 1 ≤ c.m) b bs (let up = r.0 in omega (arith, up)) (positive_all b.m bs r.1)

-- P holds of each ledger before and after, if it holds where nothing was done and where the trace was of a branch of
-- which C is known
module _ (P : LedgerView → LedgerView → Type 0) (stays : (a : LedgerView) → P a a) (C : Branch → Type 0)
    (old new : List LedgerView) (d : Done)
    (traced : (b : Branch) → C b → (v : Code) (s : Option Code) (e : Ending) (a a' : LedgerView)
    → AtBranch AsksLedger d.commit b v s e a a' → P a a') where
  at_branch : (m : ℕ) (bs : List Branch) (vs : List Code) (ss : List (Option Code)) (es : List Ending) → All C bs
      → EachBranch (Traced d.commit old new) bs vs ss es → has_branch_at bs m ≡ true → P (ledger old m) (ledger new m)
  at_branch m [] [] [] [] all h e = cc
  at_branch m (b ∷ bs) (v ∷ vs) (s ∷ ss) (x ∷ es) all h e =
      elim (b.m == m) as (λ c. (b.m == m) ≡ c → (c || has_branch_at bs m) ≡ true → P (ledger old m) (ledger new m)) [
        | true ↦ λ here _. rw (eqb-true b.m m here) at
            (traced b (All-head C b bs all) v s x (ledger old b.m) (ledger new b.m) h.0)
        | false ↦ λ other e. at_branch m bs vs ss es (All-tail C b bs all) h.1 e
      ] refl e
  at_branch m bs vs ss es all h e = absurd h

  pub every_manager : (tran : TranName) (bs : List Branch) (log later : LogState) → All C bs
      → IsTraceOfCommit tran bs old new log later d → (m : ℕ) → 1 ≤ m
      → P (ledger old m) (ledger new m)
  every_manager tran bs log later all call m positive =
      elim (has_branch_at bs m) as (λ b. has_branch_at bs m ≡ b → P (ledger old m) (ledger new m)) [
        | true ↦ λ e. at_branch m bs d.votes.items call.course.seconds d.endings.items all call.course.each e
        | false ↦ λ e. rw (call.course.others m positive e) (stays (ledger old m))
      ] refl

abbrev pub IsNoCommit : Op → Type 0
IsNoCommit op = is_commit op ≡ false

-- on abort no Commit is sent to any manager
pub abort_sends_no_commit : (tran : TranName) (bs : List Branch) (old new : List LedgerView) (log later : LogState)
    (done : Done)
    → IsTraceOfCommit tran bs old new log later done → done.commit ≡ false → NoCommitWasSent old new
abort_sends_no_commit tran bs old new log later done call off m positive =
    sent_none is_commit (ledger old m) (ledger new m)
    (every_manager (DidOnly IsNoCommit) (stays IsNoCommit) (λ b. Unit {0}) old new done
    (λ b _ v s e a a' is. no_commit b v s e a a' (rw off at is)) tran bs log later
    (λ k d lt. tt) call m positive)
  where
    no_commit : (b : Branch) (v : Code) (s : Option Code) (e : Ending) (a a' : LedgerView)
        → AtBranch AsksLedger false b v s e a a' → DidOnly IsNoCommit a a'
    no_commit b v s e a a' is =
        (branch_mapped (sends_on IsNoCommit a) false b v s e a a' is (second_so IsNoCommit false b.xid v refl)
        (third_so IsNoCommit b.xid s (λ _. refl)) refl).on (stays IsNoCommit a)

-- where the log didn't take the record, the decision is to abort
pub failed_append_aborts : (tran : TranName) (bs : List Branch) (old new : List LedgerView) (log later : LogState)
    (done : Done)
    → IsTraceOfCommit tran bs old new log later done → wants_record done.votes.items ≡ true → done.logged ≡ false
    → done.commit ≡ false
failed_append_aborts tran bs old new log later done call wanted off =
    search (arith, and_parts, and-false, done.votes.items)

abbrev pub Falls : (Ending → Bool) → Ending → Type 0
Falls test e = test e ≡ false

-- a vote is to commit, that the branch only read, or against
pub neither : (v : Code) → is_yes v ≡ false → is_read v ≡ false → is_no v ≡ true
neither v against unread = λ i. not (against i || unread i)

-- what holds of each ending that a branch may have after a vote to commit
pub after_yes : (P : Ending → Type 0) (commit : Bool) (s : Option Code) → P (if commit then Committed else RolledBack)
    → P InDoubt
    → ((c : Code) → P (Heuristic c)) → ((c : Code) → P (Left c)) → P (yes_ending commit s)
after_yes P commit s ended doubt heuristic left = search (arith, rules)

-- and after one against
pub after_no : (P : Ending → Type 0) (v : Code) (s : Option Code) → P RolledBack → ((c : Code) → P (Heuristic c))
    → ((c : Code) → P (Left c))
    → P (no_ending v s)
after_no P v s back heuristic left = search (arith, rules)

-- what isn't voted for isn't committed, and on abort nothing is
pub unvoted : (commit : Bool) (v : Code) (s : Option Code) → is_yes v ≡ false
    → Falls ends_committed (ending_of commit v s)
unvoted commit v s e = search (arith, after_no)

pub uncommitted : (v : Code) (s : Option Code) → Falls ends_committed (ending_of false v s)
uncommitted v s = search (arith, at_true, after_yes, unvoted)

-- on commit nothing is rolled back, where no vote is against
pub not_rolled_back : (v : Code) (s : Option Code) → is_no v ≡ false → Falls ends_rolled_back (ending_of true v s)
not_rolled_back v s e = search (arith, after_yes, neither)

-- a test that no ending of a call passes, where W holds of its votes
module _ (Q : Branch → Code → Option Code → Ending → Type 0) (commit : Bool) (test : Ending → Bool) (W : Code → Type 0)
    (ends : (b : Branch) (v : Code) (s : Option Code) (e : Ending) → Q b v s e → e ≡ ending_of commit v s)
    (falls : (v : Code) (s : Option Code) → W v → Falls test (ending_of commit v s)) where
  pub none_end : (bs : List Branch) (vs : List Code) (ss : List (Option Code)) (es : List Ending)
      → EachBranch Q bs vs ss es → All W vs
      → list_any test es ≡ false
  none_end [] [] [] [] h all = refl
  none_end (b ∷ bs) (v ∷ vs) (s ∷ ss) (e ∷ es) h all =
      search (arith, none_end bs vs ss es h.1 (All-tail W v vs all), or_from, ends, All-head)
  none_end bs vs ss es h all = absurd h

module _ (c : CommitCall) (d : Done) (tran : TranName) (f : IsFinished c d) (of_tran : IsTranOf c.branches tran) where
  open c use {branches as bs, desk, new, log, later}
  open f use {made.{may, trace}}

  same_tran_here : may.tran ≡ tran
  same_tran_here = one_tran bs may.tran tran may.some may.one of_tran

  call : IsTraceOfCommit tran bs desk.ledgers new log later d
  call = rw same_tran_here at trace

  open d use {votes.{items as votes}}

  -- a test that no ending passes
  none_passes : (test : Ending → Bool) (W : Code → Type 0)
      → ((v : Code) (s : Option Code) → W v → Falls test (ending_of d.commit v s)) → All W votes
      → list_any test d.endings.items ≡ false
  none_passes test W falls =
      none_end (Reported c d) d.commit test W (λ b v s e is. is.ends) falls bs votes call.course.seconds d.endings.items
      call.course.each

  absent : record_of log tran ≡ None
  absent = ap (record_of log) (sym same_tran_here) ∙ may.absent

  -- on abort
  pub aborted : d.commit ≡ false → IsAbortedTransaction tran desk.ledgers new later d
  aborted off = record {
    uncommitted = none_passes ends_committed (λ v. Unit {0})
        (λ v s _. ap (λ c. ends_committed (ending_of c v s)) off ∙ uncommitted v s) (λ k e lt. tt);
    unrecorded = none_on_abort tran (yes_of bs votes) votes d.logged log later absent call.course.logs
        (sym call.course.decision ∙ off);
    unsent = abort_sends_no_commit tran bs desk.ledgers new log later d call off;
  }

  -- on commit no vote is against, and nothing is rolled back
  pub unopposed : d.commit ≡ true → has_vote_against d ≡ false
  unopposed on = not-true _ (and_parts _ _ (sym call.course.decision ∙ on)).0

  kept : d.commit ≡ true → has_rolled_back d ≡ false
  kept on =
      none_passes ends_rolled_back (λ v. is_no v ≡ false)
      (λ v s e. ap (λ c. ends_rolled_back (ending_of c v s)) on ∙ not_rolled_back v s e)
      (none_all is_no votes (unopposed on))

  pub committed_law : has_committed d ≡ true → IsCommittedTransaction tran bs later d
  committed_law some =
      let on : d.commit ≡ true =
      true_from_ne_false (d.commit) (λ off. both_ways (has_committed d) (aborted off).uncommitted some) in
      let some_yes : has_yes votes ≡ true = true_from_ne_false (has_yes votes) (λ e.
      both_ways (has_committed d)
      (none_passes ends_committed (λ v. is_yes v ≡ false) (unvoted d.commit) (none_all is_yes votes e)) some) in
      let recorded =
      record_so tran (yes_of bs votes) votes d.logged log later absent call.course.logs some_yes
      ∙ at_true (decision_of votes d.logged) _ _ (sym call.course.decision ∙ on) in
      search (arith, unopposed, recorded, kept)

  pub aborted_law : was_refused d ≡ true → IsAbortedTransaction tran desk.ledgers new later d
  aborted_law refused =
      search (
        arith,
        aborted,
        false_from_ne_true,
        both_ways,
        or_from,
        unopposed,
        kept,
        failed_append_aborts,
        call,
        and_parts,
        not-true,
      )
