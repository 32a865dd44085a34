-- What a branch stands at as the opening ends in which its commit was cut short.
use Rattle.xa_base.proofs.{contains_on, [], rules, false_from_ne_true, ◌≡◌, ℕ, inl, inr, Bool, true, false, List, ◌∷◌}
use Rattle.xa_base.proofs.{◌++◌, length, length-append, append_assoc, slice_get, get_or, sym, refl, ap, ◌∙◌, arith}
use Rattle.xa_base.proofs.{Option, Some, None, All, Contains, All-contains, All-head, some_same, all_after, at_true}
use Rattle.xa_base.proofs.{all_left, ◌<◌, slice_get_within, both_ways, Contains-push, ◌⊎◌, ⊎_elim}
use Rattle.xa_base.specs.{Begins}
use Rattle.xa_words.specs.{XidName, Done, RmFail, Op, Prepare, Request, Code}
use Rattle.xa_words.proofs.Xids.{xid_self}
use Rattle.laws_tables.proofs.UnnamedLaw.{tables_after-append}
use Rattle.xa_tables.specs.{HeuristicDecision, State, is_left_in, decision_code, next, Fate, decided_fate, fate}
use Rattle.xa_tables.specs.{last_or, tables_after, names, Tables, History}
use Rattle.xa_desk.specs.{LedgerView, learnt_shut, with_sent, with_collected}
use Rattle.xa_driver.specs.{Branch, Ending, IsBegun, asked, collected, in_flight, unasked, is_decided, second_op}
use Rattle.xa_driver.specs.{third_op, outcome_op, voted}
use Rattle.laws_commit.specs.{DidOther, IsAsked, IsEnded, IsTold, IsBetween, DidOnly, OnlyTheseOrDecisionsName}
use Rattle.laws_commit.specs.{told_fate}
use Rattle.xa_driver.proofs.Mapped.{IsAskedFor, any_asked, Any}
use Rattle.xa_tables.specs.Histories as history
use Rattle.laws_commit.proofs.CutVotes.{vote_there, HasVoted, ended_voted, first_is, forget_sends, prepare_sent}
use Rattle.laws_commit.proofs.CutVotes.{told_voted}
use Rattle.laws_commit.proofs.Guided.{ends, leaves, tells, AtEnd, Comes, once, IsGuided, at_last, fate_any, fates_from}
use Rattle.laws_commit.proofs.Guided.{guided_after, stands_now, told_there}
use Rattle.laws_commit.proofs.Leading.{waits, unforgotten, over, IsTowards, Stands, ends_towards}
use Rattle.laws_commit.proofs.Sites.{Site, StandsIn, above, at_place, below, later_place, fates, request_of, same_code}
use Rattle.laws_commit.proofs.Sites.{at_seam, IsFromTo, own_sent}
use Rattle.laws_commit.proofs.OneOutcome.{is_told_decision, second_so, third_so}
use Rattle.laws_commit.proofs.Courses.{yes_wanted}
use Rattle.laws_commit.proofs.Resolves.{sends_for}

-- ---- what was sent

-- its Prepare, and after it nothing but what leads the branch, or doesn't name it
pub record HasSentOnly (commit : Bool) (L : Type 0) (x : XidName) (a a' : LedgerView) : Type 0 where
  pub rest : List Op
  pub sent : a'.sent ≡ a.sent ++ Prepare x ∷ rest
  pub all : All (IsTowards commit L x) rest

module _ (commit : Bool) (L : Type 0) (x : XidName) where
  other_towards : (op : Op) → names x op ≡ false → IsTowards commit L x op
  other_towards op other named = let z : true ≡ false = sym named ∙ other in cc

  -- what leads it is no Prepare of it
  not_first : (sent more : List Op) → All (IsTowards commit L x) more
      → slice_get (sent ++ more) (length sent) ≡ Some (Prepare x) → ⊥
  not_first sent [] all e =
      absurd (omega (arith, slice_get_within (sent ++ []) (length sent) (Prepare x) e, length-append sent []))
  not_first sent (op ∷ more) all e = search (arith, some_same, at_seam, All-head, xid_self)

  unprepared : (a a' : LedgerView) → DidOnly (IsTowards commit L x) a a'
      → slice_get a'.sent (length a.sent) ≡ Some (Prepare x) → ⊥
  unprepared a a' z first = not_first a.sent z.more z.all (ap (λ l. slice_get l (length a.sent)) (sym z.sent) ∙ first)

-- a request that was begun was sent, or nothing was done
begun_sent : (op : Op) (a a' : LedgerView) → IsBegun (Some op) a a' → (a' ≡ a) ⊎ (a'.sent ≡ a.sent ++ op ∷ [])
begun_sent op a a' (unasked e) = inl e
begun_sent op a a' (in_flight o is open_ e) = search (arith, some_same)
begun_sent op a a' (collected None tr) = absurd tr.answered
begun_sent op a a' (collected (Some c) tr) = search (arith, tr.trace)

-- where it was asked to prepare
pub asked_only : (commit : Bool) (L : Type 0) (b : Branch) (a a' : LedgerView) → IsAsked b a a'
    → slice_get a'.sent (length a.sent) ≡ Some (Prepare b.xid)
    → HasSentOnly commit L b.xid a a'
asked_only commit L b a a' z first =
    let P : Op → Type 0 = IsTowards commit L b.xid in
    let rest : DidOnly P z.left a' =
    sends_for (λ op. names b.xid op ≡ false) P (other_towards commit L b.xid) z.left a' z.after in
    ⊎_elim (λ (same : z.left ≡ a). absurd (unprepared commit L b.xid a a' (rw same at rest) first))
    (λ (is : z.left.sent ≡ a.sent ++ Prepare b.xid ∷ []).
    record {
      rest = rest.more;
      sent = rest.sent ∙ ap (λ l. l ++ rest.more) is
          ∙ append_assoc a.sent (Prepare b.xid ∷ []) rest.more;
      all = rest.all;
    })
    (begun_sent (Prepare b.xid) a z.left z.asks)

-- ---- a vote that was collected

-- it was asked, so the manager wasn't learnt to be shut
pub open_so : (commit : Bool) (L : Type 0) (b : Branch) (v : Code) (a a' : LedgerView)
    → HasVoted (IsTowards commit L b.xid) b v a a'
    → slice_get a'.sent (length a.sent) ≡ Some (Prepare b.xid) → learnt_shut a ≡ false
open_so commit L b v a a' h first = search (arith, false_from_ne_true, unprepared, at_true, b.xid)

pub voted_only : (commit : Bool) (L : Type 0) (b : Branch) (v : Code) (a a' : LedgerView)
    → HasVoted (IsTowards commit L b.xid) b v a a' → learnt_shut a ≡ false
    → HasSentOnly commit L b.xid a a'
voted_only commit L b v a a' h open_ =
    record { rest = h.rest.more; sent = prepare_sent (IsTowards commit L b.xid) b v a a' open_ h; all = h.rest.all }

-- it is what the settled opening has
pub vote_is : (P : Op → Type 0) (b : Branch) (v w : Code) (a a' : LedgerView) (entries pairs : List (ℕ × Code))
    → HasVoted P b v a a' → learnt_shut a ≡ false
    → Begins a'.collected pairs → All (λ p. slice_get entries p.0 ≡ Some p) pairs → Contains pairs (length a.sent, w)
    → v ≡ w
vote_is P b v w a a' entries pairs h open_ begins answered agreed =
    let Q : ℕ × Code → Type 0 = λ p. slice_get entries p.0 ≡ Some p in
    same_code (slice_get entries (length a.sent)) (length a.sent) (length a.sent) v w
    (All-contains Q pairs (length a.sent, v) answered (vote_there P b v a a' pairs open_ h begins))
    (All-contains Q pairs (length a.sent, w) answered agreed)

-- ---- by how far it came

-- what it is asked leads it, whatever it voted, where a Forget may be
second_towards : (commit : Bool) (L : Type 0) (x : XidName) (v : Code)
    → IsAskedFor (IsTowards commit L x) (second_op commit x v)
second_towards commit L x v = second_so (IsTowards commit L x) commit x v (ends_towards commit L x x)

pub told_voted_so : (commit : Bool) (L : Type 0) (b : Branch) (v : Code) (a a' : LedgerView) → IsTold commit b v a a'
    → HasVoted (IsTowards commit L b.xid) b v a a'
told_voted_so commit L b v a a' =
    told_voted (IsTowards commit L b.xid) commit b v a a' (other_towards commit L b.xid)
    (second_towards commit L b.xid v)

pub ended_voted_so : (commit : Bool) (L : Type 0) (b : Branch) (v : Code) (s : Option Code) {e : Ending}
    (a a' : LedgerView)
    → (is_told_decision s ≡ true → L)
    → IsEnded commit b v s e a a' → HasVoted (IsTowards commit L b.xid) b v a a'
ended_voted_so commit L b v s a a' may = search (arith, ended_voted, other_towards, second_towards, third_so, b.xid)

-- The second request of a branch was sent after its Prepare, and was told a code.
pub record WasTold (commit : Bool) (x : XidName) (c : Code) (a a' : LedgerView) : Type 0 where
  pub number : ℕ
  pub later : length a.sent < number
  pub sent : slice_get a'.sent number ≡ Some (outcome_op commit x)
  pub told : Contains a'.collected (number, c)

pub was_told : (commit : Bool) (b : Branch) (v c : Code) {e : Ending} (a a' : LedgerView)
    → IsEnded commit b v (Some c) e a a' → learnt_shut a ≡ false
    → v ≡ Done
    → is_decided c ≡ true → WasTold commit b.xid c a a'
was_told commit b v c a a' z open_ agreed decided =
    let x : XidName = b.xid in
    let op : Op = outcome_op commit x in
    let wanted : second_op commit x v ≡ Some op = ap (second_op commit x) agreed ∙ yes_wanted commit x in
    let start : LedgerView = z.obeyed.tells.start in
    let second = z.obeyed.tells.last in
    let between : DidOther x (voted b v a) start = rw z.obeyed.prepares.trace at z.obeyed.tells.between in
    let refused : learnt_shut start ≡ true → c ≡ RmFail = rw wanted at second.answered in
    let open_now : learnt_shut start ≡ false = search (arith, false_from_ne_true, both_ways) in
    let two : LedgerView = with_collected (with_sent start op) (length start.sent) c in
    let is_two : asked start (second_op commit x v) (Some c) ≡ two = search (arith, rules) in
    let last : DidOnly Any two a' =
    rw (second.trace, is_two) at
    (forget_sends Any commit b v a a' (λ _ _. tt) (any_asked (second_op commit x v)) (Some c)
    (any_asked (third_op x (Some c))) z) in
    let first : start.sent ≡ a.sent ++ Prepare x ∷ between.more = search (arith, first_is, append_assoc, a.sent) in
    record {
      number = length start.sent;
      later = let e = ap length first in omega (arith, e, length-append a.sent (Prepare x ∷ between.more));
      sent = ap (λ l. slice_get l (length start.sent)) (last.sent ∙ append_assoc start.sent (op ∷ []) last.more)
          ∙ at_seam start.sent op last.more;
      told = contains_on two.collected a'.collected (length start.sent, c) last.collected
          (Contains-push start.collected (length start.sent, c));
    }

-- It ended as was decided, or was left, in doubt or decided by itself; or a decision was ended, and then its ending
-- tells it.
comes_so : (commit : Bool) (K L : Type 0) (s : Option State) (f : Fate) (e : Ending)
    → (L → (d : HeuristicDecision) × (f ≡ decided_fate d) × (told_fate e ≡ Some (decided_fate d)))
    → Stands commit true (Unit {0}) L s f
    → Comes commit (Unit {0}) K s f e
comes_so commit K L s f e told (waits y o is g) = leaves tt (ap is_left_in is) (waits g refl is g)
comes_so commit K L s f e told (unforgotten d is g l) = leaves tt (ap is_left_in is) (unforgotten d is g (inl refl))
comes_so commit K L s f e told (over is (inl z)) = ends z.1
comes_so commit K L s f e told (over is (inr z)) = let t = told z.1.1 in tells t.0 t.1 t.2

-- ---- in its manager's history

module _ {t : ℕ} {T : Tables} {H : History} (s : Site t T H) (x : XidName) (a a' : LedgerView)
    (grown : Begins a'.sent s.ops) (commit : Bool)
    (only : OnlyTheseOrDecisionsName x t (length a.sent) (length a'.sent) H) where
  abbrev n : ℕ
  n = length a.sent

  module _ (L : Type 0) (h : HasSentOnly commit L x a a') where
    abbrev IsLeading : Request → Type 0
    IsLeading r =
        r.thread ≡ t
        → IsFromTo (IsTowards commit L x) (length (a.sent ++ Prepare x ∷ [])) (length a'.sent) r.number r.op

    -- what names the branch after it decides it, or leads it
    pub guide : (c : Code) (f : StandsIn t n (Prepare x) c T H) → All (λ r. IsGuided commit L x r.op) f.after
    guide c f k d lt named plain =
        let between : IsBetween t n (length a'.sent) (get_or f.after k d) = only f.before f.after
        (request_of t n (Prepare x)) f.place refl refl k d lt named plain in
        let up = above s n (Prepare x) f.before f.after f.place k d lt between.thread in
        let leading : All IsLeading H = own_sent t (IsTowards commit L x) H s.ops (a.sent ++ Prepare x ∷ []) a'.sent
        h.rest s.carried grown
        (h.sent ∙ sym (append_assoc a.sent (Prepare x ∷ []) h.rest)) h.all in
        all_after IsLeading f.before (request_of t n (Prepare x)) f.after (rw f.place at leading) k d lt between.thread
        (omega (arith, up, length-append a.sent (Prepare x ∷ []))) between.below named

    -- whatever its fate was before
    any_so : StandsIn t n (Prepare x) Done T H → (g k : Fate) → last_or g (fates x H T) ≡ last_or k (fates x H T)
    any_so f g k =
        fate_any s commit (Unit {0}) L f (guide Done f) g ∙ sym (fate_any s commit (Unit {0}) L f (guide Done f) k)

    pub sent_fates : StandsIn t n (Prepare x) Done T H → (g : Fate) (before after : History)
        → H ≡ before ++ request_of t n (Prepare x) ∷ after
        → fates x (request_of t n (Prepare x) ∷ after) (tables_after before T) ≡ history.InDoubt ∷ once (fate x g H T)
    sent_fates f g before after place =
        let there = at_place s n (Prepare x) Done f before after place in
        fates_from s commit (Unit {0}) L there (guide Done there) tt g

    -- where its second request was told a decision, that is its fate
    pub told_fate_is : StandsIn t n (Prepare x) Done T H → (k : ℕ) → n < k → (c : Code)
        → StandsIn t k (outcome_op commit x) c T H
        → (d : HeuristicDecision) → c ≡ decision_code d → (g : Fate) → fate x g H T ≡ decided_fate d
    told_fate_is f k past c second d e g =
        let Q : Request → Type 0 = λ r. IsGuided commit L x r.op in
        let P1 : Request = request_of t n (Prepare x) in
        let S : Request = request_of t k (outcome_op commit x) in
        let all = guide Done f in
        let later = later_place t f.before second.before P1 S f.after second.after (sym f.place ∙ second.place) refl
        past
        (below s n (Prepare x) f.before f.after f.place) in
        let parts = rw later.after at all in
        let now : Tables = (next t (Prepare x) (tables_after f.before T)).0 in
        let code : (next t (outcome_op commit x) (tables_after later.mid now)).1 ≡ decision_code d =
        sym (second.code ∙ ap (λ (h : History). (next t (outcome_op commit x) (tables_after h T)).1) later.before ∙ ap
        (λ (U : Tables). (next t (outcome_op commit x) U).1) (tables_after-append f.before (P1 ∷ later.mid) T)) ∙ e in
        s.law.leaves H x g T ∙ fate_any s commit (Unit {0}) L f all g
        ∙ told_there commit (Unit {0}) L t k x now f.after later.mid second.after history.InDoubt later.after s.law
        (guided_after commit (Unit {0}) L x later.mid now history.InDoubt
        (all_left Q later.mid (S ∷ second.after) parts)
        (stands_now s commit (Unit {0}) L f all tt))
        (all_after Q later.mid S second.after parts) d code

    -- so where each decision that is ended is told by its ending
    pub sent_end : StandsIn t n (Prepare x) Done T H → (e : Ending) (K : Type 0) (g : Fate)
        → (L → (d : HeuristicDecision) × (fate x g H T ≡ decided_fate d) × (told_fate e ≡ Some (decided_fate d)))
        → AtEnd commit (Unit {0}) K x (fate x g H T) H T e
    sent_end f e K g told = record {
      comes = comes_so commit K L _ _ e told (at_last s commit (Unit {0}) L f (guide Done f) tt g).stands;
      any = any_so f;
    }
