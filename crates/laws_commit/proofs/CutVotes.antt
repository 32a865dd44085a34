-- The votes that a commit got which was cut short, and what is left of them where only resolves name its transaction.
use Rattle.xa_base.proofs.{contains_on, arith, ◌≡◌, ◌≢◌, ℕ, suc, ◌+◌, ◌≤◌, Bool, true, false, List, ◌∷◌, ◌++◌, length}
use Rattle.xa_base.proofs.{append_assoc, refl, ap, ◌∙◌, Option, All, Contains, All-contains, ◌==◌, ◌||◌, zero}
use Rattle.xa_base.proofs.{slice_get, ◌<◌, ◌&&◌, [], get_or, Some, unwrap_or, or-true, eq-eqb, ne_eqb}
use Rattle.xa_base.proofs.{false_from_ne_true, or_from, eqb-true, begins_on, all_mid, same_begins}
use Rattle.xa_base.proofs.{Contains-append_right, All-nil, All-cons, at_false, both_ways, Contains-push}
use Rattle.xa_base.specs.{MOST_MANAGERS, IsUpTo, Begins}
use Rattle.xa_words.specs.{XidName, Decides-xid_eq, TranName, tran_of, Op, OpenRm, Prepare, Code, RmFail, Request}
use Rattle.xa_tables.specs.{History, of_thread, names}
use Rattle.xa_desk.specs.{LedgerView, ledger, HasGrown, numbered, learnt_shut, with_sent, with_collected, HaveGrown}
use Rattle.xa_switch.specs.{Settling, IsSettled, sent, ledgers_of, history as history_of}
use Rattle.xa_driver.specs.{IsDecidedBy, Done, Branch, Ending, Outcome, AsksLedger, outcome_op, AtBranch, has_yes}
use Rattle.xa_driver.specs.{voted_yes, is_yes, AreBranchesRising, EachBranch, IsTranOf, voted, IsAnswered, IsBegun}
use Rattle.xa_driver.specs.{AskTrace, VotesAndObeys, collected, in_flight, unasked, second_op, third_op}
use Rattle.xa_log.specs.{LogState}
use Rattle.laws_commit.specs.{DecisionOf, after_at, before_at, CommitCall, IsFinished, ResolveCall, Use, resolves}
use Rattle.laws_commit.specs.{IsUseIn, NamesTran, ResolveHasSent, IsAsked, CameSoFar, known_at, DidOther, EachVote}
use Rattle.laws_commit.specs.{IsCut, IsEnded, IsTold, asking, forgetting, telling, IsKept, OnlyResolves, Opening}
use Rattle.laws_commit.specs.{DidOnly, AfterOther}
use Rattle.xa_driver.proofs.Mapped.{Asks, Any, IsAskedFor, any_asked}
use Rattle.xa_driver.proofs.Requests.{trace_for}
use Rattle.laws_commit.proofs.Settled.{sent_between, by_ledger}
use Rattle.laws_commit.proofs.Sites.{Parted, request_of, part, numbered_both, at_seam}
use Rattle.laws_commit.proofs.Resolves.{resolve_sends, asked_sends, stays, on, sends_for}
use Rattle.laws_commit.proofs.OneOutcome.{is_marked, logs_keep, branch_map, Reported}

-- what a thread sent to a manager
pub sent_is : (s : Settling) (m : ℕ) → 1 ≤ m → (t : ℕ) → sent s t m ≡ (ledger (ledgers_of s t) m).sent
sent_is s m positive t = by_ledger (ledgers_of s t) m (λ (z : LedgerView). z.sent) positive refl

-- ---- what resolves sent

module _ (s : Settling) (settled : IsSettled s) (m : ℕ) (up : IsUpTo MOST_MANAGERS m) where
  abbrev H : History
  H = history_of s m

  -- what a use of the log sent to it is so
  abbrev pub Passes : (Op → Type 0) → Use → Type 0
  Passes P u = All (λ r. ResolveHasSent m r u → P r.op) H

  use_passes : (P : Op → Type 0) → P OpenRm → (u : Use) → IsUseIn s u
      → ((q : ResolveCall) → u ≡ resolves q → (o : Outcome) → Contains q.outcomes o → Asks P q.records m o) → Passes P u
  use_passes P opens (resolves q) use_ asks = λ k d lt has.
      let z : DidOnly P (ledger q.old m) (ledger q.new m) =
      resolve_sends q.scan q.records q.old q.new q.outcomes use_.made P m up opens (asks q refl) in
      sent_between s settled q.thread m up.0 P (ledger q.old m) (ledger q.new m) z.more z.sent z.all
      (use_.grown.each m up.0) k d lt has.thread has.from has.below
  use_passes P opens u use_ asks = λ k d lt has. absurd has

  -- so is each request that names the transaction, where nothing but resolves does
  pub named_so : (P : Op → Type 0) (t : TranName) (us : List Use) → P OpenRm → All (IsUseIn s) us
      → ((q : ResolveCall) → Contains us (resolves q) → (o : Outcome) → Contains q.outcomes o → Asks P q.records m o)
      → All (λ r. NamesTran t r.op → (u : Use) × (Contains us u × ResolveHasSent m r u)) H
      → All (λ r. NamesTran t r.op → P r.op) H
  named_so P t us opens uses asks only k d lt named = search (arith, use_passes, All-contains)

-- a request that names a branch names its transaction
pub named_tran : (x : XidName) (op : Op) → names x op ≡ true → NamesTran (tran_of x) op
named_tran x op n = grind (arith, Decides-xid_eq)

-- where a Prepare that was sent stands in the history
pub prepare_part : (s : Settling) → IsSettled s → (m : ℕ) → 1 ≤ m → (t : ℕ) (x : XidName) (a a' : LedgerView)
    → HasGrown a' (ledger (ledgers_of s t) m)
    → (more : List Op) → a'.sent ≡ a.sent ++ Prepare x ∷ more
    → (later : List Op) × Parted t (numbered t 0 a.sent) (numbered t (suc (0 + length a.sent)) later)
    (request_of t (0 + length a.sent) (Prepare x)) (history_of s m)
prepare_part s settled m positive t x a a' grown more is =
    let later : List Op = more ++ grown.sent.0 in
    let ops : sent s t m ≡ a.sent ++ Prepare x ∷ later = search (arith, sent_is, append_assoc, a.sent) in
    let own : of_thread t (history_of s m) ≡ numbered t 0 a.sent ++ request_of t (0 + length a.sent) (Prepare x)
    ∷ numbered t (suc (0 + length a.sent)) later =
    (settled.agree t m).carried ∙ ap (numbered t 0) ops ∙ numbered_both t 0 a.sent (Prepare x ∷ later) in (
      later,
      part t (history_of s m) (numbered t 0 a.sent) (numbered t (suc (0 + length a.sent)) later)
          (request_of t (0 + length a.sent) (Prepare x)) own,
    )

-- what a resolve sends is no Prepare
abbrev pub IsNoPrepare : Op → Type 0
IsNoPrepare op = (y : XidName) → op ≢ Prepare y

ends_no_prepare : (commit : Bool) (x : XidName) → IsNoPrepare (outcome_op commit x)
ends_no_prepare commit x y e = grind arith

-- ---- what was sent

-- A vote was collected as the code of its Prepare, and what was sent after that is so.
pub record HasVoted (P : Op → Type 0) (b : Branch) (v : Code) (a a' : LedgerView) : Type 0 where
  pub prepared : IsAnswered a (Some (Prepare b.xid)) (Some v)
  pub rest : DidOnly P (voted b v a) a'

module _ (P : Op → Type 0) where
  one_sent : (a a' : LedgerView) (op : Op) → P op → a'.sent ≡ a.sent ++ op ∷ [] → Begins a.collected a'.collected
      → DidOnly P a a'
  one_sent a a' op so sends begins =
      record { more = op ∷ []; sent = sends; all = All-cons P op [] so (All-nil P); collected = begins }

  pub begun_sends : (op : Option Op) (a a' : LedgerView) → IsAskedFor P op → IsBegun op a a' → DidOnly P a a'
  begun_sends op a a' so (unasked e) = rw e (stays P a)
  begun_sends op a a' so (in_flight o is open_ e) =
      rw e (one_sent a (with_sent a o) o (rw is at so) refl (same_begins a.collected))
  begun_sends op a a' so (collected code tr) = rw tr.trace (asked_sends P a op code so)

  -- after the vote, by how far it came
  module _ (commit : Bool) (b : Branch) (v : Code) (a a' : LedgerView)
      (others : (op : Op) → names b.xid op ≡ false → P op)
      (second : IsAskedFor P (second_op commit b.xid v)) where
    after_other : (R : LedgerView → LedgerView → Type 0) (d e : LedgerView) → ((c : LedgerView) → R c e → DidOnly P c e)
        → AfterOther b.xid R d e
        → DidOnly P d e
    after_other R d e sends z =
        on P d z.start e (sends_for (λ op. names b.xid op ≡ false) P others d z.start z.between) (sends z.start z.last)

    pub forget_sends : (s : Option Code) {e : Ending} → IsAskedFor P (third_op b.xid s)
        → (z : IsEnded commit b v s e a a') → DidOnly P z.decided a'
    forget_sends s third z =
        after_other (IsBegun (third_op b.xid s)) z.decided a' (λ c. begun_sends (third_op b.xid s) c a' third) z.forgets

    pub told_voted : IsTold commit b v a a' → HasVoted P b v a a'
    told_voted z = record {
      prepared = z.prepares.answered;
      rest = rw z.prepares.trace at
          (after_other (IsBegun (second_op commit b.xid v)) z.prepared a'
          (λ c. begun_sends (second_op commit b.xid v) c a' second) z.tells);
    }

    pub ended_voted : (s : Option Code) {e : Ending} → IsAskedFor P (third_op b.xid s) → IsEnded commit b v s e a a'
        → HasVoted P b v a a'
    ended_voted s third z = record {
      prepared = z.obeyed.prepares.answered;
      rest = rw z.obeyed.prepares.trace at
          (on P z.obeyed.prepared z.decided a'
          (after_other (AskTrace (second_op commit b.xid v) s) z.obeyed.prepared z.decided
          (λ c tr. begun_sends (second_op commit b.xid v) c z.decided second (collected s tr)) z.obeyed.tells)
          (forget_sends s third z));
    }

  -- its Prepare with the rest
  pub all_sent : (b : Branch) (v : Code) (a a' : LedgerView) → P (Prepare b.xid) → HasVoted P b v a a' → DidOnly P a a'
  all_sent b v a a' so h = on P a (voted b v a) a' (asked_sends P a (Some (Prepare b.xid)) (Some v) so) h.rest

-- ---- a vote that was collected

pub shut_unless : (v : Code) (a : LedgerView) → (learnt_shut a ≡ true → v ≡ RmFail) → is_yes v ≡ true
    → learnt_shut a ≡ false
shut_unless v a refused y =
    false_from_ne_true (learnt_shut a) (λ shut. both_ways (is_yes v) (ap is_yes (refused shut)) y)

pub first_is : (b : Branch) (v : Code) (a : LedgerView) → learnt_shut a ≡ false
    → voted b v a ≡ with_collected (with_sent a (Prepare b.xid)) (length a.sent) v
first_is b v a open_ = at_false (learnt_shut a) _ _ open_

-- its Prepare was sent, unless the manager is learnt to be shut
pub prepare_sent : (P : Op → Type 0) (b : Branch) (v : Code) (a a' : LedgerView) → learnt_shut a ≡ false
    → (h : HasVoted P b v a a')
    → a'.sent ≡ a.sent ++ Prepare b.xid ∷ h.rest.more
prepare_sent P b v a a' open_ h = search (arith, first_is, append_assoc, a.sent)

pub prepare_there : (P : Op → Type 0) (b : Branch) (v : Code) (a a' : LedgerView) → learnt_shut a ≡ false
    → HasVoted P b v a a'
    → slice_get a'.sent (length a.sent) ≡ Some (Prepare b.xid)
prepare_there P b v a a' open_ h =
    ap (λ l. slice_get l (length a.sent)) (prepare_sent P b v a a' open_ h) ∙ at_seam a.sent (Prepare b.xid) h.rest.more

-- and the vote was collected with its number
pub vote_there : (P : Op → Type 0) (b : Branch) (v : Code) (a a' : LedgerView) (pairs : List (ℕ × Code))
    → learnt_shut a ≡ false → HasVoted P b v a a'
    → Begins a'.collected pairs → Contains pairs (length a.sent, v)
vote_there P b v a a' pairs open_ h begins =
    let took : Begins (a.collected ++ (length a.sent, v) ∷ []) a'.collected = search (arith, first_is) in
    contains_on (a.collected ++ (length a.sent, v) ∷ []) pairs (length a.sent, v)
    (begins_on _ a'.collected pairs took begins)
    (Contains-push a.collected (length a.sent, v))

-- ---- all of them

pub branch_votes : (P : Branch → Code → Option Code → Ending → Type 0) (Q : Branch → Code → Type 0)
    → ((b : Branch) (v : Code) (s : Option Code) (e : Ending) → P b v s e → Q b v)
    → (bs : List Branch) (vs : List Code) (ss : List (Option Code)) (es : List Ending) → EachBranch P bs vs ss es
    → EachVote Q bs vs
branch_votes P Q f [] [] [] [] h = tt
branch_votes P Q f (b ∷ bs) (v ∷ vs) (s ∷ ss) (e ∷ es) h = (f b v s e h.0, branch_votes P Q f bs vs ss es h.1)
branch_votes P Q f bs vs ss es h = absurd h

-- whatever was sent
abbrev pub Votes : CommitCall → Branch → Code → Type 0
Votes c b v = HasVoted Any b v (before_at c b) (after_at c b)

abbrev pub Ended : CommitCall → Bool → Branch → Code → Option Code → Ending → Type 0
Ended c commit b v s e = IsEnded commit b v s e (before_at c b) (after_at c b)

-- what its coordinator knew of each branch is its ending
pub known_each : (P : Branch → Code → Option Code → Ending → Type 0) (A : Type 0) (known : ℕ → Ending) (lo : ℕ)
    (bs : List Branch) (vs : List Code) (zs : List (Option Code)) (es : List Ending)
    → AreBranchesRising lo bs → ((n : ℕ) → lo < n → known_at n bs es ≡ known n) → (has_yes vs ≡ true → A)
    → EachBranch P bs vs zs es
    → EachBranch (λ b v z e. P b v z e × (known b.m ≡ e) × (is_yes v ≡ true → A)) bs vs zs es
known_each P A known lo [] [] [] [] rising same some h = tt
known_each P A known lo (b ∷ bs) (v ∷ vs) (z ∷ zs) (e ∷ es) rising same some h =
    search (arith, known_each P A known b.m bs vs zs es rising.1, unwrap_or, eq-eqb, ne_eqb, or-true, rising.0, b.m)
known_each P A known lo bs vs zs es rising same some h = absurd h

-- ---- one branch, by how far the commit came

-- its vote is one of those that made the decision, and marks its manager
pub record IsVoteOf (bs : List Branch) (votes : List Code) (b : Branch) (v : Code) : Type 0 where
  pub among : Contains votes v
  pub marks : is_yes v ≡ true → voted_yes b.m bs votes ≡ true

voters : (P : Branch → Code → Type 0) (bs : List Branch) (vs : List Code) → EachVote P bs vs
    → All (λ b. (v : Code) × (P b v × IsVoteOf bs vs b v)) bs
voters P [] [] h = All-nil (λ b. (v : Code) × (P b v × IsVoteOf [] [] b v))
voters P (b ∷ bs) (v ∷ vs) h =
    All-cons (λ c. (w : Code) × (P c w × IsVoteOf (b ∷ bs) (v ∷ vs) c w)) b bs (
      v,
      (
        h.0,
        record {
          among = (zero, omega arith, refl);
          marks = λ y. λ i. (eq-eqb b.m b.m refl i && y i) || voted_yes b.m bs vs;
        },
      ),
    ) (λ j d lt.
    let w = voters P bs vs h.1 j d lt in
    let own : Bool = (b.m == (get_or bs j d).m) && is_yes v in (
      w.0,
      (
        w.1.0,
        record {
          among = Contains-append_right (v ∷ []) vs w.0 w.1.1.among;
          marks = λ y. ap (λ z. own || z) (w.1.1.marks y) ∙ or-true own;
        },
      ),
    ))
voters P bs vs h = absurd h

-- so of each branch, with its second code and what its coordinator knew
pub known_voters : (P : Branch → Code → Option Code → Ending → Type 0) (bs : List Branch) (vs : List Code)
    (zs : List (Option Code)) (es : List Ending)
    → AreBranchesRising 0 bs → EachBranch P bs vs zs es
    → All (λ b. (v : Code) × (((z : Option Code) × P b v z (known_at b.m bs es)) × IsVoteOf bs vs b v)) bs
known_voters P bs vs zs es rising each =
    let Known : Branch → Code → Option Code → Ending → Type 0 =
    λ b v z e. P b v z e × (known_at b.m bs es ≡ e) × (is_yes v ≡ true → Unit {0}) in
    let Q : Branch → Code → Type 0 = λ b v. (z : Option Code) × P b v z (known_at b.m bs es) in
    let known = known_each P (Unit {0}) (λ n. known_at n bs es) 0 bs vs zs es rising (λ n above. refl) (λ _. tt) each in
    voters Q bs vs (branch_votes Known Q (λ b v z e h. (z, rw (← h.1) at h.0)) bs vs zs es known)

-- a decision, by what was decided
abbrev pub as_decision : {tran : TranName} (c : CommitCall) {votes : List Code} {commit logged : Bool}
    → IsDecidedBy tran c.branches c.log c.later votes commit logged → DecisionOf tran c
as_decision c {votes} {commit} {logged} by = record { votes = votes; commit = commit; logged = logged; decided = by }

pub data CameAt (tran : TranName) (c : CommitCall) (b : Branch) : Type 0 where
  at_asking : c.later ≡ c.log → IsAsked b (before_at c b) (after_at c b) → CameAt tran c b
  at_telling : (d : DecisionOf tran c) (v : Code) → IsVoteOf c.branches d.votes b v
      → IsTold d.commit b v (before_at c b) (after_at c b) → CameAt tran c b
  at_forgetting : (d : DecisionOf tran c) (v : Code) → IsVoteOf c.branches d.votes b v → (z : Option Code)
      → Ended c d.commit b v z (known_at b.m c.branches c.endings) → CameAt tran c b

pub each_came : {tran : TranName} (c : CommitCall) → AreBranchesRising 0 c.branches → CameSoFar tran c
    → All (CameAt tran c) c.branches
each_came c rising (asking same unknown each) j d lt = at_asking same (each j d lt)
each_came c rising (telling d unknown each) j b lt =
    let w = voters (λ b v. IsTold d.commit b v (before_at c b) (after_at c b)) c.branches d.votes each j b lt in
    at_telling d w.0 w.1.1 w.1.0
each_came c rising (forgetting d seconds each) j b lt =
    let w = known_voters (Ended c d.commit) c.branches d.votes seconds c.endings rising each j b lt in
    at_forgetting d w.0 w.1.1 w.1.0.0 w.1.0.1

pub any_voted : (commit : Bool) (b : Branch) (v : Code) (s : Option Code) {e : Ending} (a a' : LedgerView)
    → IsEnded commit b v s e a a' → HasVoted Any b v a a'
any_voted commit b v s a a' =
    ended_voted Any commit b v a a' (λ op _. tt) (any_asked (second_op commit b.xid v)) s (any_asked (third_op b.xid s))

-- ---- a commit that came to its end

pub did_nothing : (x : XidName) (a : LedgerView) → DidOther x a a
did_nothing x = stays (λ op. names x op ≡ false)

-- with nothing before it
pub at_once : (x : XidName) (R : LedgerView → LedgerView → Type 0) (a a' : LedgerView) → R a a' → AfterOther x R a a'
at_once x R a a' is = record { start = a; between = did_nothing x a; last = is }

-- where it obeyed, it ended, by what was done of its Forget
pub ended_by : (commit : Bool) (b : Branch) (v : Code) (s : Option Code) (e : Ending) (a d a' : LedgerView)
    → VotesAndObeys AsksLedger commit b v s e a d
    → IsBegun (third_op b.xid s) d a' → IsEnded commit b v s e a a'
ended_by commit b v s e a d a' o third =
    let second =
    at_once b.xid (AskTrace (second_op commit b.xid v) s) o.prepared d
    (trace_for (second_op commit b.xid v) s o.prepared d o.obeys) in
    let forgets = at_once b.xid (IsBegun (third_op b.xid s)) d a' third in
    record {
      decided = d;
      obeyed = record { prepared = o.prepared; prepares = o.prepares; tells = second };
      forgets = forgets;
      ends = o.ends;
    }

pub ended_so : (commit : Bool) (b : Branch) (v : Code) (s : Option Code) (e : Ending) (a a' : LedgerView)
    → AtBranch AsksLedger commit b v s e a a'
    → IsEnded commit b v s e a a'
ended_so commit b v s e a a' is =
    ended_by commit b v s e a is.decided a' is.obeyed
    (collected is.third (trace_for (third_op b.xid s) is.third is.decided a' is.forgets))

-- it is one that was cut short after it
pub finished_law : (c : CommitCall) (d : Done) → IsFinished c d → IsCut c
finished_law c d f = record {
  may = f.made.may;
  far = forgetting (as_decision c f.made.trace.course.decided) f.made.trace.course.seconds
      (rw f.told
      (branch_map (λ b. Unit {0}) (Reported c d) (Ended c d.commit)
      (λ b v s e _. ended_so d.commit b v s e (before_at c b) (after_at c b)) c.branches d.votes.items
      f.made.trace.course.seconds d.endings.items (λ k e lt. tt) f.made.trace.course.each));
  managers = f.made.trace.managers;
}

-- so each branch was reported by its vote, its second code, and what its coordinator knew
pub record WasReported (c : CommitCall) (d : Done) (b : Branch) : Type 0 where
  pub vote : Code
  pub second : Option Code
  pub traced : Reported c d b vote second (known_at b.m c.branches c.endings)

pub each_reported : (c : CommitCall) (d : Done) → IsFinished c d → All (WasReported c d) c.branches
each_reported c d f j b lt =
    let w =
    known_voters (Reported c d) c.branches d.votes.items f.made.trace.course.seconds c.endings f.made.may.rising
    (rw f.told f.made.trace.course.each) j b lt in
    record { vote = w.0; second = w.1.0.0; traced = w.1.0.1 }

-- ---- where none may be to commit

none_of : (P : Branch → Code → Type 0) (t : TranName) (m : ℕ)
    → ((b : Branch) (v : Code) → tran_of b.xid ≡ t → b.m ≡ m → P b v → is_yes v ≡ false)
    → (bs : List Branch) (vs : List Code) → IsTranOf bs t → EachVote P bs vs → voted_yes m bs vs ≡ false
none_of P t m against [] [] tran h = refl
none_of P t m against (b ∷ bs) (v ∷ vs) tran h =
    search (arith, none_of P t m against bs vs tran.1 h.1, or_from, eqb-true, tran.0, b.m, tran.1)
none_of P t m against bs vs tran h = absurd h

-- where nothing but resolves names the transaction
module _ (o : Opening) (kept : IsKept o) (t : TranName) (only : OnlyResolves t o) (m : ℕ)
    (up : IsUpTo MOST_MANAGERS m) where
  no_prepares : All (λ r. NamesTran t r.op → IsNoPrepare r.op) (history_of o.settled m)
  no_prepares =
      named_so o.settled kept.settled m up IsNoPrepare t o.uses (λ y e. cc) kept.uses
      (λ q _ p _. record { ends = λ _ _. ends_no_prepare p.commit p.xid; forgets = λ _ _ y e. cc }) (only m)

  pub no_vote : (c : CommitCall) → HaveGrown c.new (ledgers_of o.settled c.thread) → (b : Branch) (v : Code)
      → tran_of b.xid ≡ t → b.m ≡ m → Votes c b v
      → is_yes v ≡ false
  no_vote c grown b v of_tran same h =
      false_from_ne_true (is_yes v) (λ y.
      let mine : HasVoted Any b v (ledger c.desk.ledgers m) (ledger c.new m) = rw (← same) h in
      let open_ : learnt_shut (ledger c.desk.ledgers m) ≡ false =
      shut_unless v (ledger c.desk.ledgers m) mine.prepared y in
      let at =
      prepare_part o.settled kept.settled m up.0 c.thread b.xid (ledger c.desk.ledgers m) (ledger c.new m)
      (grown.each m up.0) mine.rest.more
      (prepare_sent Any b v (ledger c.desk.ledgers m) (ledger c.new m) open_ mine) in
      all_mid (λ (r : Request). NamesTran t r.op → IsNoPrepare r.op) at.1.before at.1.after
      (request_of c.thread (0 + length (ledger c.desk.ledgers m).sent) (Prepare b.xid))
      (rw at.1.place at no_prepares) of_tran b.xid refl)

-- a mark of the transaction stays, where its votes make none
pub cut_keeps : (mark : Bool) (t : TranName) (m : ℕ) → IsUpTo MOST_MANAGERS m → (c : CommitCall) (k : IsCut c)
    → (k.may.tran ≡ t → (b : Branch) (v : Code) → tran_of b.xid ≡ t → b.m ≡ m → Votes c b v → is_yes v ≡ false)
    → is_marked c.log.records t m ≡ mark → is_marked c.later.records t m ≡ mark
cut_keeps mark t m up c k quiet e = so_far k.far
  where
    so_far : CameSoFar k.may.tran c → is_marked c.later.records t m ≡ mark
    so_far (asking same none each) = ap (λ (l : LogState). is_marked l.records t m) same ∙ e
    so_far (telling d none each) =
        logs_keep mark t m up c.branches d.votes d.logged c.log c.later k.may.tran k.may.absent (λ same _.
        none_of (λ b v. IsTold d.commit b v (before_at c b) (after_at c b)) t m (λ b v of at h.
        quiet same b v of at
        (told_voted Any d.commit b v (before_at c b) (after_at c b) (λ _ _. tt)
        (any_asked (second_op d.commit b.xid v)) h))
        c.branches d.votes (rw same at k.may.one) each) e d.logs
    so_far (forgetting d seconds each) =
        logs_keep mark t m up c.branches d.votes d.logged c.log c.later k.may.tran k.may.absent (λ same _.
        none_of (Votes c) t m (quiet same) c.branches d.votes (rw same at k.may.one)
        (branch_votes (Ended c d.commit) (Votes c) (λ b v s e. any_voted d.commit b v s (before_at c b) (after_at c b))
        c.branches d.votes seconds c.endings each))
        e d.logs
