-- What a commit sent: one that was made, one that came to no decision, or one whose coordinator died.
use Rattle.xa_base.proofs.{arith, ◌≡◌, ◌≤◌, ℕ, zero, suc, Bool, true, false, ◌||◌, ◌==◌, Option, Some, None, List, []}
use Rattle.xa_base.proofs.{◌∷◌, refl, All, eqb-true, All-nil, All-cons, All-head, All-tail, same_begins, some_same}
use Rattle.xa_words.specs.{XidName, TranName, Death, Op, Forget, Prepare, Rollback, Code}
use Rattle.xa_words.specs.declared.request.Op.TheVariants as op
use Rattle.xa_words.specs.declared.death.Death.TheVariants as death
use Rattle.xa_desk.specs.{LedgerView, ledger}
use Rattle.xa_driver.specs.{Branch, CommitOutcome, LastKnown, Ending, AsksFor, AtBranch, CameTo, ComesTo, HaveAsked}
use Rattle.xa_driver.specs.{HaveTold, PutsLedger, AsksOrPuts, VotesAndHears, VotesAndObeys, to_come, withheld}
use Rattle.xa_driver.specs.{second_op, third_op, AsksLedger, EachBranch, has_branch_at, IsTranOf, LogKind, TellsTheLog}
use Rattle.xa_driver.specs.declared.done.CommitOutcome.TheVariants as outcome
use Rattle.xa_driver.specs.declared.done.LastKnown.TheVariants as known_as
use Rattle.xa_driver.specs.Deaths.{sent}
use Rattle.xa_log.specs.{LogState}
use Rattle.xa_work.specs.{Commit, HasSent, HaveSent, IfLost, LeavesKnown, LosesRecord}
use Rattle.xa_work.proofs.Sent.{none_sent, sent_on, asked_sent}

-- ---- one request

put_sent : (P : Op → Type 0) (op : Op) (a a' : LedgerView) → P op → PutsLedger a op a' → HasSent P a a'
put_sent P op a a' so (sent open_ is) =
    rw is
    (record {
      more = op ∷ [];
      sent = refl;
      each = All-cons P op [] so (All-nil P);
      collected = same_begins a.collected;
    })
put_sent P op a a' so (withheld shut is) = rw is (none_sent P a)

answered_sent : (P : Op → Type 0) (op : Op) (code : Code) (a a' : LedgerView) → P op → AsksLedger a op a' code
    → HasSent P a a'
answered_sent P op code a a' so tr =
    rw tr.trace (asked_sent P a (Some op) (Some code) (λ o is. rw (some_same op o is) at so))

obeyed_sent : (P : Op → Type 0) (op : Option Op) (code : Option Code) (a a' : LedgerView)
    → ((o : Op) → op ≡ Some o → P o) → AsksFor AsksLedger op code a a'
    → HasSent P a a'
obeyed_sent P None code a a' so h = rw h.1 (none_sent P a)
obeyed_sent P (Some op) None a a' so h = absurd h
obeyed_sent P (Some op) (Some code) a a' so h = answered_sent P op code a a' (so op refl) h

told_sent : (P : Op → Type 0) (k : ℕ) (op : Option Op) (a a' : LedgerView) → ((o : Op) → op ≡ Some o → P o)
    → AsksOrPuts AsksLedger PutsLedger k op a a'
    → HasSent P a a'
told_sent P zero None a a' so h = rw h (none_sent P a)
told_sent P (suc k) None a a' so h = rw h (none_sent P a)
told_sent P zero (Some op) a a' so h = put_sent P op a a' (so op refl) h
told_sent P (suc k) (Some op) a a' so h = answered_sent P op h.0 a a' (so op refl) h.1

-- ---- all branches

-- what was sent to the branch's manager
abbrev pub SentAt : (Branch → Op → Type 0) → List LedgerView → List LedgerView → Branch → Type 0
SentAt P old new b = HasSent (P b) (ledger old b.m) (ledger new b.m)

-- at no other manager anything was done
abbrev pub StaysElsewhere : List Branch → List LedgerView → List LedgerView → Type 0
StaysElsewhere bs old new = (m : ℕ) → 1 ≤ m → has_branch_at bs m ≡ false → ledger new m ≡ ledger old m

there_sent : (P : Op → Type 0) (bs : List Branch) (old new : List LedgerView) (m : ℕ) → All (SentAt (λ b. P) old new) bs
    → has_branch_at bs m ≡ true
    → HasSent P (ledger old m) (ledger new m)
there_sent P [] old new m each there = cc
there_sent P (b ∷ bs) old new m each there =
    elim (b.m == m) as
    (λ c. (b.m == m) ≡ c → (c || has_branch_at bs m) ≡ true → HasSent P (ledger old m) (ledger new m)) [
      | true ↦ λ here _. rw (eqb-true b.m m here) at (All-head (SentAt (λ c. P) old new) b bs each)
      | false ↦ λ _ rest. there_sent P bs old new m (All-tail (SentAt (λ c. P) old new) b bs each) rest
    ] refl there

pub branches_sent : (P : Op → Type 0) (bs : List Branch) (old new : List LedgerView) → All (SentAt (λ b. P) old new) bs
    → StaysElsewhere bs old new
    → HaveSent P old new
branches_sent P bs old new each others = search (arith, there_sent, none_sent)

-- ---- a branch that voted

-- the branch was asked to prepare, with its vote, and what was sent after that is so
pub record VotedSo (P : Op → Type 0) (b : Branch) (vote : Code) (a a' : LedgerView) : Type 0 where
  pub prepared : LedgerView
  pub asks : AsksLedger a (Prepare b.xid) prepared vote
  pub after : HasSent P prepared a'

voted_all : (P : Op → Type 0) (b : Branch) (v : Code) (a a' : LedgerView) → P (Prepare b.xid) → VotedSo P b v a a'
    → HasSent P a a'
voted_all P b v a a' so z = sent_on (answered_sent P (Prepare b.xid) v a z.prepared so z.asks) z.after

-- ---- what a branch may be asked for

-- what a commit may ask for of the branch is so
pub record MayAsk (P : Op → Type 0) (x : XidName) : Type 0 where
  pub first : P (Prepare x)
  pub commit : P (op.Commit x false)
  pub rollback : P (Rollback x)
  pub forget : P (Forget x)

second_so : (P : Op → Type 0) (x : XidName) → MayAsk P x → (commit : Bool) (v : Code) (o : Op)
    → second_op commit x v ≡ Some o → P o
second_so P x may true v o = search (arith, some_same)
second_so P x may false v o = search (arith, some_same)

third_so : (P : Op → Type 0) (x : XidName) → MayAsk P x → (s : Option Code) (o : Op) → third_op x s ≡ Some o → P o
third_so P x may None o is = cc
third_so P x may (Some c) o is = search (arith, some_same)

module _ (P : Op → Type 0) (commit : Bool) (b : Branch) (v : Code) (a a' : LedgerView) (may : MayAsk P b.xid) where
  pub heard_so : (k : ℕ) → VotesAndHears AsksLedger PutsLedger commit k b v a a' → VotedSo P b v a a'
  heard_so k h = search (arith, told_sent, second_so, h.prepared)

  pub obeyed_so : (s : Option Code) (e : Ending) → VotesAndObeys AsksLedger commit b v s e a a' → VotedSo P b v a a'
  obeyed_so s e h = search (arith, obeyed_sent, second_so, h.prepared)

  pub made_so : (s : Option Code) (e : Ending) → AtBranch AsksLedger commit b v s e a a' → VotedSo P b v a a'
  made_so s e h = record {
    prepared = h.prepared;
    asks = h.prepares;
    after =
        sent_on
        (obeyed_sent P (second_op commit b.xid v) s h.prepared h.decided (second_so P b.xid may commit v) h.obeys)
        (obeyed_sent P (third_op b.xid s) h.third h.decided a' (third_so P b.xid may s) h.forgets);
  }

-- ---- which requests these are

module _ (P : Branch → Op → Type 0) (Q : Branch → Type 0) (firsts : (b : Branch) → Q b → P b (Prepare b.xid))
    (old new : List LedgerView) where
  abbrev Sent : Branch → Type 0
  Sent = SentAt P old new

  pub asked_each : (bs : List Branch) (vs : List Code) → All Q bs
      → HaveAsked AsksLedger PutsLedger bs vs (ledger old) (ledger new) → All Sent bs
  asked_each [] [] so h = All-nil Sent
  asked_each [] (v ∷ vs) so h = absurd h
  asked_each (b ∷ bs) [] so h = search (arith, asked_each bs, All-cons, put_sent, All-head, All-tail)
  asked_each (b ∷ bs) (v ∷ vs) so h =
      search (arith, asked_each bs vs (All-tail Q b bs so) h.1, All-cons, answered_sent, All-head, All-tail)

module _ (P : Branch → Op → Type 0) (Q : Branch → Type 0) (may : (b : Branch) → Q b → MayAsk (P b) b.xid)
    (old new : List LedgerView) where
  abbrev AllSent : List Branch → Type 0
  AllSent bs = All (SentAt P old new) bs

  abbrev Voted : Branch → Code → Type 0
  Voted b v = VotedSo (P b) b v (ledger old b.m) (ledger new b.m)

  one_more_voted : (b : Branch) (bs : List Branch) (v : Code) → Q b → Voted b v → AllSent bs → AllSent (b ∷ bs)
  one_more_voted b bs v so voted =
      All-cons (SentAt P old new) b bs (voted_all (P b) b v (ledger old b.m) (ledger new b.m) (may b so).first voted)

  voting_each : (R : Branch → Code → Option Code → Ending → Type 0)
      → ((b : Branch) (v : Code) (s : Option Code) (e : Ending) → Q b → R b v s e → Voted b v)
      → (bs : List Branch) (vs : List Code) (ss : List (Option Code)) (es : List Ending) → All Q bs
      → EachBranch R bs vs ss es → AllSent bs
  voting_each R voted [] [] [] [] so h = All-nil (SentAt P old new)
  voting_each R voted (b ∷ bs) (v ∷ vs) (s ∷ ss) (e ∷ es) so h =
      search (arith, voting_each R voted bs vs ss es (All-tail Q b bs so) h.1, All-head, one_more_voted, All-tail)
  voting_each R voted bs vs ss es so h = absurd h

  told_each : (commit : Bool) (k : ℕ) (bs : List Branch) (vs : List Code) → All Q bs
      → HaveTold AsksLedger PutsLedger commit k bs vs (ledger old) (ledger new) → AllSent bs
  told_each commit k [] [] so h = All-nil (SentAt P old new)
  told_each commit k (b ∷ bs) (v ∷ vs) so h =
      let its : Q b = All-head Q b bs so in
      one_more_voted b bs v its (heard_so (P b) commit b v (ledger old b.m) (ledger new b.m) (may b its) k h.0)
      (told_each commit (to_come (second_op commit b.xid v) k) bs vs (All-tail Q b bs so) h.1)
  told_each commit k bs vs so h = absurd h

  died_each : (at : Death) (tran : TranName) (bs : List Branch) (log later : LogState) (known : LastKnown) → All Q bs
      → CameTo AsksLedger PutsLedger at tran bs (ledger old) (ledger new) log later known → AllSent bs
  died_each (death.Preparing k) tran bs log later (known_as.Votes vs) so far =
      asked_each P Q (λ b its. (may b its).first) old new bs vs.items so far.asked
  died_each death.Prepared tran bs log later (known_as.Votes vs) so far =
      asked_each P Q (λ b its. (may b its).first) old new bs vs.items so far.asked
  died_each death.Decided tran bs log later (known_as.Decided d vs) so far =
      asked_each P Q (λ b its. (may b its).first) old new bs vs.items so far.asked
  died_each (death.Telling k) tran bs log later (known_as.Decided d vs) so far =
      told_each d.commit k bs vs.items so far.told
  died_each death.Told tran bs log later (known_as.Told done) so far = search (arith, voting_each, obeyed_so)
  died_each at tran bs log later known so far = absurd far

  -- what a commit sent, whatever it came to
  pub came_each : (dies : Option Death) (tran : TranName) (bs : List Branch) (log later : LogState) (o : CommitOutcome)
      → All Q bs
      → ComesTo AsksLedger PutsLedger dies tran bs (ledger old) (ledger new) log later o → AllSent bs
  came_each dies tran bs log later (outcome.Decided d) so (lives, made) = search (arith, voting_each, made_so)
  came_each dies tran bs log later (outcome.Undecided vs) so (decides, left) =
      asked_each P Q (λ b its. (may b its).first) old new bs vs.items so left.asked
  came_each dies tran bs log later (outcome.Died at known) so (some, died) =
      died_each at tran bs log later known so died.far

-- ---- at all managers

pub came_elsewhere : (dies : Option Death) (tran : TranName) (bs : List Branch) (old new : List LedgerView)
    (log later : LogState) (o : CommitOutcome)
    → ComesTo AsksLedger PutsLedger dies tran bs (ledger old) (ledger new) log later o → StaysElsewhere bs old new
came_elsewhere dies tran bs old new log later (outcome.Decided d) (lives, made) = made.others
came_elsewhere dies tran bs old new log later (outcome.Undecided vs) (decides, left) = left.others
came_elsewhere dies tran bs old new log later (outcome.Died at known) (some, died) = died.others

module _ (P : Op → Type 0) (Q : Branch → Type 0) (firsts : (b : Branch) → Q b → P (Prepare b.xid))
    (old new : List LedgerView) where
  -- what was sent before any branch was told a decision
  pub untold_sent : (bs : List Branch) (votes : List Code) → All Q bs
      → HaveAsked AsksLedger PutsLedger bs votes (ledger old) (ledger new)
      → StaysElsewhere bs old new → HaveSent P old new
  untold_sent bs votes so h others =
      branches_sent P bs old new (asked_each (λ b. P) Q firsts old new bs votes so h) others

-- ---- what became of the log

module _ {L : Type 0} (kind : LogKind L) (bs : List Branch) (old new : L) where
  pub leaves_known : (t : TranName) (o : CommitOutcome) → TellsTheLog kind t bs old new o
      → LeavesKnown (kind.knows new) (Commit o)
  leaves_known t (outcome.Decided d) tells = tells.1
  leaves_known t (outcome.Undecided vs) tells = tells.unknown
  leaves_known t (outcome.Died at known) tells = tells.1

  pub if_lost : (o : CommitOutcome) → ((t : TranName) → IsTranOf bs t → TellsTheLog kind t bs old new o)
      → IfLost (LosesRecord kind.loses bs old new) (Commit o)
  if_lost (outcome.Decided d) tells = tt
  if_lost (outcome.Undecided vs) tells = λ t own. (tells t own).lost
  if_lost (outcome.Died at known) tells = tt
