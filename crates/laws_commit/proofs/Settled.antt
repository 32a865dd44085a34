-- What the branches of a call came to in a settled opening, where what they were asked by a desk's ledgers stands in
-- their
-- managers' histories.
use Rattle.xa_base.proofs.{contains_on, got_on, none_all, Contains-push, [], All-nil, All-cons, inl, inr, ◌≡◌, ℕ, Bool}
use Rattle.xa_base.proofs.{true, false, List, ◌∷◌, ◌++◌, length, length-append, append_assoc, slice_get, refl, ap, ◌∙◌}
use Rattle.xa_base.proofs.{arith, Option, Some, All, list_any-append, at_false, at_true, All-contains, All-head}
use Rattle.xa_base.proofs.{All-tail, Contains, list_any, list_any_at, ◌≤◌, if◌then◌else◌, sym, le-leb, cases_lt}
use Rattle.xa_base.proofs.{or_parts, not-true, pos, false_from_ne_true, or-false}
use Rattle.xa_base.specs.{Begins}
use Rattle.xa_words.specs.{Code, Op, TranName, XidName, Request}
use Rattle.xa_tables.specs.{Tables, History, coded, HeuristicDecision, state_of, next, fate_of_state, Fate, IsFateOf}
use Rattle.xa_tables.specs.{decided_fate, tables_after}
use Rattle.xa_desk.specs.{LedgerView, learnt_shut, with_sent, with_collected, ledger, no_ledger, is_known, HasGrown}
use Rattle.xa_desk.specs.{HaveGrown}
use Rattle.xa_switch.specs.{collected, answers, Settling, IsSettled, sent, IsOpenedWith, ledgers_of}
use Rattle.xa_switch.specs.{history as history_of}
use Rattle.xa_driver.specs.{Done, Branch, Ending, AtBranch, AsksLedger, is_yes, is_no, ending_of, second_op, third_op}
use Rattle.xa_driver.specs.{EachBranch, IsTraceOfCommit, ReadOnly, sent_so_far}
use Rattle.xa_driver.proofs.Mapped.{Morphism, keeps, Any, any_asked, branch_mapped}
use Rattle.xa_driver.proofs.Requests.{asked_grows}
use Rattle.xa_desk.proofs.Ledgers.{as_it_was, grown_on, past_end}
use Rattle.xa_log.specs.{LogState}
use Rattle.laws_commit.specs.{CommitCall, IsFinishedIn, ends_in_doubt, is_decided_everywhere, IsLeftAlone}
use Rattle.laws_commit.specs.{IsLeftOrDecided, OnlyTheseName, OnlyTheseOrDecisionsName, IsDecidedAfter, KeepsItsVote}
use Rattle.laws_commit.specs.{TellsTheFate, undecided, decided, told_fate, EachOutcome, KeepsTheVotes, TellsTheFates}
use Rattle.laws_commit.specs.{has_committed, ends_rolled_back, ends_heuristic, ends_left, ends_read_only, Shares}
use Rattle.laws_commit.specs.{CountsTheCommitted, HasAllOrNothing, Tabled}
use Rattle.laws_commit.specs.Outcomes.{ends_committed}
use Rattle.laws_commit.proofs.Sites.{OpensWithSome, Site, StandsIn, Sent, AsksIn, stands_by, at_seam, IsFromTo}
use Rattle.laws_commit.proofs.Sites.{own_sent}
use Rattle.laws_commit.proofs.Courses.{Course, asked_at, course_of, own_plain}
use Rattle.laws_commit.proofs.OneOutcome.{Reported, every_manager, branch_map, positive_all, committed_law}
use Rattle.laws_commit.proofs.Values.{Counted, branch_counts}
use Rattle.laws_commit.proofs.Fated.{Told, branch_told, none_decides}

-- how many requests a ledger has, and whether it has learnt that its manager is shut
abbrev pub heard : LedgerView → Sent
heard a = record { number = length a.sent; shut = learnt_shut a }

-- what was sent to a manager, and collected from it, stands in the ledger with it
pub by_ledger : {X : Type 0} (at : List LedgerView) (m : ℕ) (f : LedgerView → List X) → 1 ≤ m → f no_ledger ≡ []
    → (if is_known at m then f (ledger at m) else []) ≡ f (ledger at m)
by_ledger at m f positive none = search (arith, past_end, le-leb, cases_lt)

pub sent_on : (s : Settling) (t m : ℕ) → 1 ≤ m → (a : LedgerView) → HasGrown a (ledger (ledgers_of s t) m)
    → Begins a.sent (sent s t m)
sent_on s t m positive a grown = rw (by_ledger (ledgers_of s t) m (λ (l : LedgerView). l.sent) positive refl) grown.sent

-- what was sent between two of a desk's lists stands in the history with the numbers between them
pub sent_between : (s : Settling) → IsSettled s → (t m : ℕ) → 1 ≤ m
    → (P : Op → Type 0) (a a' : LedgerView) (more : List Op) → a'.sent ≡ a.sent ++ more
    → All P more
    → HasGrown a' (ledger (ledgers_of s t) m)
    → All (λ r. r.thread ≡ t → IsFromTo P (length a.sent) (length a'.sent) r.number r.op) (history_of s m)
sent_between s settled t m positive P a a' more is all grown =
    own_sent t P (history_of s m) (sent s t m) a.sent a'.sent more (settled.agree t m).carried
    (sent_on s t m positive a' grown) is all

pub collected_on : (s : Settling) (t m : ℕ) → 1 ≤ m → (a : LedgerView) → HasGrown a (ledger (ledgers_of s t) m)
    → Begins a.collected (collected s t m)
collected_on s t m positive a grown =
    rw (by_ledger (ledgers_of s t) m (λ (l : LedgerView). l.collected) positive refl) grown.collected

-- a manager of a settled opening, and what the thread collected from it
module _ (law : Tabled) (s : Settling) (settled : IsSettled s) (t m : ℕ) (T : Tables)
    (with_T : IsOpenedWith s m T) where
  abbrev pub site_of : Site t T (history_of s m)
  site_of = record { law = law; opening = with_T.opened; ops = sent s t m; carried = (settled.agree t m).carried }

  pub answered_of : All (λ p. slice_get (answers t (coded (history_of s m) T)) p.0 ≡ Some p) (collected s t m)
  answered_of = search (arith, slice_get)

  -- what was sent with a number, and collected with a code, stands in the history
  pub sent_stands : 1 ≤ m → (a : LedgerView) → HasGrown a (ledger (ledgers_of s t) m) → (n : ℕ) (op : Op) (c : Code)
      → slice_get a.sent n ≡ Some op
      → Contains (ledger (ledgers_of s t) m).collected (n, c) → StandsIn t n op c T (history_of s m)
  sent_stands positive a grown n op c asked agreed =
      let more = sent_on s t m positive a grown in
      stands_by site_of n op c (ap (λ l. slice_get l n) more.1 ∙ got_on a.sent more.0 n op asked)
      (All-contains (λ (p : ℕ × Code). slice_get (answers t (coded (history_of s m) T)) p.0 ≡ Some p) (collected s t m)
      (n, c) answered_of
      (rw (by_ledger (ledgers_of s t) m (λ (l : LedgerView). l.collected) positive refl) agreed))

  -- so a branch that was asked by a ledger that the thread's has grown from
  module _ (positive : 1 ≤ m) where
    abbrev Later : LedgerView → Type 0
    Later a = HasGrown a (ledger (ledgers_of s t) m)

    stands_in : (a : LedgerView) (op : Op) (c : Code) → Later (with_collected (with_sent a op) (length a.sent) c)
        → StandsIn t (length a.sent) op c T (history_of s m)
    stands_in a op c later =
        sent_stands positive (with_collected (with_sent a op) (length a.sent) c) later (length a.sent) op c
        (at_seam a.sent op [])
        (contains_on (a.collected ++ (length a.sent, c) ∷ []) _ (length a.sent, c) later.collected
        (Contains-push a.collected (length a.sent, c)))

    heard_in : Morphism Any AsksLedger (AsksIn t T (history_of s m)) heard (λ z. Unit {0}) Later
    heard_in = record {
      each = λ d e op c _ is. record {
        on = λ q. q;
        back = grown_on d e (ledger (ledgers_of s t) m) (rw is.trace (asked_grows d (Some op) (Some c)));
        over = λ _ now. search
            (arith, at_true, at_false, stands_in, is.answered, length-append, list_any-append, or-false);
      };
    }

    branch_in : (b : Branch) (commit : Bool) (vote : Code) (second : Option Code) (ending : Ending) (a a' : LedgerView)
        → AtBranch AsksLedger commit b vote second ending a a' → Later a'
        → AtBranch (AsksIn t T (history_of s m)) commit b vote second ending (heard a) (heard a')
    branch_in b commit vote second ending a a' is later =
        (branch_mapped heard_in commit b vote second ending a a' is (any_asked (second_op commit b.xid vote))
        (any_asked (third_op b.xid second)) tt).over tt later

-- of a branch that didn't vote against a test fails that fails where it voted yes, and where it only read
unless_against : (test : Ending → Bool) (commit : Bool) (vote : Code) (second : Option Code) → test ReadOnly ≡ false
    → (is_yes vote ≡ true → test (ending_of commit vote second) ≡ false) → is_no vote ≡ false
    → test (ending_of commit vote second) ≡ false
unless_against test commit vote second reads fails n = grind arith

-- what is shown of each branch follows for each, where C is known of the branches, V of the votes and E of the endings
pub outcome_all : (C : Branch → Type 0) (V : Code → Type 0) (E : Ending → Type 0)
    (P Q : Branch → Code → Ending → Type 0)
    → ((b : Branch) (v : Code) (e : Ending) → C b → V v → E e → P b v e → Q b v e)
    → (bs : List Branch) (vs : List Code) (es : List Ending) → All C bs → All V vs → All E es → EachOutcome P bs vs es
    → EachOutcome Q bs vs es
outcome_all C V E P Q f [] [] [] all votes ends h = tt
outcome_all C V E P Q f (b ∷ bs) (v ∷ vs) (e ∷ es) all votes ends h = (
  f b v e (All-head C b bs all) (All-head V v vs votes) (All-head E e es ends) h.0,
  outcome_all C V E P Q f bs vs es (All-tail C b bs all) (All-tail V v vs votes) (All-tail E e es ends) h.1,
)
outcome_all C V E P Q f bs vs es all votes ends h = absurd h

pub outcome_map : (P Q : Branch → Code → Ending → Type 0) → ((b : Branch) (v : Code) (e : Ending) → P b v e → Q b v e)
    → (bs : List Branch) (vs : List Code) (es : List Ending) → EachOutcome P bs vs es → EachOutcome Q bs vs es
outcome_map P Q f bs vs es =
    outcome_all (λ b. Unit {0}) (λ v. Unit {0}) (λ e. Unit {0}) P Q (λ b v e _ _ _. f b v e) bs vs es (λ k d lt. tt)
    (λ k d lt. tt) (λ k d lt. tt)

-- and of each ending, where V holds of the votes
pub outcome_ends : (V : Code → Type 0) (P : Branch → Code → Ending → Type 0) (E : Ending → Type 0)
    → ((b : Branch) (v : Code) (e : Ending) → V v → P b v e → E e)
    → (bs : List Branch) (vs : List Code) (es : List Ending) → All V vs → EachOutcome P bs vs es → All E es
outcome_ends V P E so [] [] [] votes h = All-nil E
outcome_ends V P E so (b ∷ bs) (v ∷ vs) (e ∷ es) votes h =
    All-cons E e es (so b v e (All-head V v vs votes) h.0) (outcome_ends V P E so bs vs es (All-tail V v vs votes) h.1)
outcome_ends V P E so bs vs es votes h = absurd h

-- tables by which a history has the same codes give a request in it the same
code_within : (before after : History) (r : Request) (T U : Tables)
    → coded (before ++ r ∷ after) T ≡ coded (before ++ r ∷ after) U
    → (next r.thread r.op (tables_after before T)).1 ≡ (next r.thread r.op (tables_after before U)).1
code_within [] after r T U e = search (arith, r.thread, r.op)
code_within (q ∷ before) after r T U e =
    let tail : coded (before ++ r ∷ after) (next q.thread q.op T).0 ≡ coded (before ++ r ∷ after)
    (next q.thread q.op U).0 =
    cc in
    code_within before after r (next q.thread q.op T).0 (next q.thread q.op U).0 tail

-- so a decision that was carried out by the one was by the other
pub decided_alike : (x : XidName) (t n : ℕ) (T U : Tables) (H : History) → coded H T ≡ coded H U
    → IsDecidedAfter x t n T H → IsDecidedAfter x t n U H
decided_alike x t n T U H e z =
    let place : H ≡ (z.before ++ z.request ∷ z.between) ++ z.decision ∷ z.after = search (arith, append_assoc) in
    search (arith, code_within, z.after, z.decision)

-- branch by branch, without the second codes
pub each_outcome : (C : Branch → Type 0) (P : Branch → Code → Option Code → Ending → Type 0)
    (Q : Branch → Code → Ending → Type 0)
    → ((b : Branch) (v : Code) (z : Option Code) (e : Ending) → C b → P b v z e → Q b v e)
    → (bs : List Branch) (vs : List Code) (zs : List (Option Code)) (es : List Ending) → All C bs
    → EachBranch P bs vs zs es → EachOutcome Q bs vs es
each_outcome C P Q so [] [] [] [] all h = tt
each_outcome C P Q so (b ∷ bs) (v ∷ vs) (z ∷ zs) (e ∷ es) all h =
    (so b v z e (All-head C b bs all) h.0, each_outcome C P Q so bs vs zs es (All-tail C b bs all) h.1)
each_outcome C P Q so bs vs zs es all h = absurd h

-- the course of a branch in its manager's history
module _ (law : Tabled) (s : Settling) (t : ℕ) (settled : IsSettled s) (b : Branch) (commit : Bool) (v : Code)
    (z : Option Code) (e : Ending)
    (a a' : LedgerView) (positive : 1 ≤ b.m) (grown : HasGrown a' (ledger (ledgers_of s t) b.m))
    (is : AtBranch AsksLedger commit b v z e a a')
    (T : Tables) (with_T : IsOpenedWith s b.m T) where
  its_course : Course (asked_at (site_of law s settled t b.m T with_T) b.xid (length a.sent) (length a'.sent) v) commit
      e
  its_course =
      course_of (site_of law s settled t b.m T with_T) b commit v z e (heard a) (heard a')
      (branch_in law s settled t b.m T with_T positive b commit v z e a a' is grown)

  -- and what became of it
  pub told_in : OnlyTheseOrDecisionsName b.xid t (length a.sent) (length a'.sent) (history_of s b.m)
      → Told t b.xid (fate_of_state (state_of T b.xid)) T (history_of s b.m) (length a.sent) v e
  told_in only = branch_told its_course (fate_of_state (state_of T b.xid)) (law.first b.xid T) only

-- in a settled opening, by the histories of its managers
module _ (law : Tabled) (opened : OpensWithSome) (s : Settling) (t : ℕ) where
  -- what became of one branch
  pub record Fated (b : Branch) (n : ℕ) (vote : Code) (ending : Ending) : Type 0 where
    pub keeps : KeepsItsVote s t b n vote ending
    pub tells : TellsTheFate s t b n ending
    pub unless_no : is_no vote ≡ false → ends_left ending ≡ false
    pub named : is_yes vote ≡ true → ends_heuristic ending ≡ true
        → (d : HeuristicDecision) × (told_fate ending ≡ Some (decided_fate d))

  -- and what it counts for, whose requests have the numbers from n to below `last`
  pub record Both (b : Branch) (n last : ℕ) (vote : Code) (ending : Ending) : Type 0 where
    pub fated : Fated b n vote ending
    pub counted : (T : Tables) → IsOpenedWith s b.m T → Counted t b.xid T (history_of s b.m) n last ending
    pub undecided : is_no vote ≡ false → ends_heuristic ending ≡ false

  -- ---- branches whose requests have the numbers from those of `old` to below those of `new`

  module _ (settled : IsSettled s) (commit : Bool) (old new : ℕ → ℕ) where
    -- what a branch went through, in its manager's history
    abbrev pub InHistory : Branch → Code → Option Code → Ending → Type 0
    InHistory b v z e = (T : Tables) (with_T : IsOpenedWith s b.m T)
        → Course (asked_at (site_of law s settled t b.m T with_T) b.xid (old b.m) (new b.m) v) commit e
        × (e ≡ ending_of commit v z)

    module _ (b : Branch) (vote : Code) (second : Option Code) (ending : Ending)
        (is : InHistory b vote second ending) where
      one_told : OnlyTheseOrDecisionsName b.xid t (old b.m) (new b.m) (history_of s b.m) → (before : Fate) (T : Tables)
          → IsOpenedWith s b.m T
          → IsFateOf b.xid before T → Told t b.xid before T (history_of s b.m) (old b.m) vote ending
      one_told only before T with_T fits = branch_told (is T with_T).0 before fits only

      one_voted : OnlyTheseOrDecisionsName b.xid t (old b.m) (new b.m) (history_of s b.m) → (T : Tables)
          → IsOpenedWith s b.m T
          → Told t b.xid (fate_of_state (state_of T b.xid)) T (history_of s b.m) (old b.m) vote ending
      one_voted only T with_T = one_told only (fate_of_state (state_of T b.xid)) T with_T (law.first b.xid T)

      pub one_fated : OnlyTheseOrDecisionsName b.xid t (old b.m) (new b.m) (history_of s b.m)
          → Fated b (old b.m) vote ending
      one_fated only =
          let open_ = opened s b.m settled in
          let z = one_voted only open_.0 open_.1 in
          let ends = (is open_.0 open_.1).1 in
          record {
            keeps = record {
              reached = z.reached;
              shut = z.shut;
              decided = λ y h U with_U. (one_voted only U with_U).decided y h;
            };
            tells = record {
              told = λ before f was e. was.opened.fates b.xid before
                  ∙ (one_told only before was.first was.opened was.fits).told f e;
              doubt = λ before was unknown. elim ((one_told only before was.first was.opened was.fits).doubt unknown) [
                | inl none ↦ undecided (was.opened.fates b.xid before ∙ none)
                | inr some ↦ decided some.0 (was.opened.fates b.xid before ∙ some.1.0)
                    (λ U with_U. decided_alike b.xid t (old b.m) was.first U (history_of s b.m)
                    (sym was.opened.codes ∙ with_U.codes) some.1.1)
              ];
            };
            unless_no = λ no. ap ends_left ends
                ∙ unless_against ends_left commit vote second refl (λ y. sym (ap ends_left ends) ∙ z.reached y) no;
            named = z.named;
          }

      pub one_both : OnlyTheseName b.xid t (old b.m) (new b.m) (history_of s b.m)
          → Both b (old b.m) (new b.m) vote ending
      one_both only =
          let open_ = opened s b.m settled in
          let weak : OnlyTheseOrDecisionsName b.xid t (old b.m) (new b.m) (history_of s b.m) = λ before after r place
          own number k d lt named _.
          only before after r place own number k d lt named in
          let site = site_of law s settled t b.m open_.0 open_.1 in
          let ends = (is open_.0 open_.1).1 in
          let plain : is_yes vote ≡ true
          → ends_heuristic ending ≡ false = λ y. false_from_ne_true (ends_heuristic ending) (λ h.
          none_decides site b.xid (old b.m) (new b.m) only (own_plain (is open_.0 open_.1).0)
          ((one_voted weak open_.0 open_.1).decided y h)) in
          record {
            fated = one_fated weak;
            counted = λ U with_U. branch_counts (is U with_U).0 only;
            undecided = λ no. ap ends_heuristic ends
                ∙ unless_against ends_heuristic commit vote second refl (λ y. sym (ap ends_heuristic ends) ∙ plain y)
                no;
          }

  -- an ending that isn't in doubt, where one branch or none was committed
  ending_is : (whole : Bool) (e : Ending) → (whole ≡ true → ends_rolled_back e ≡ false)
      → (whole ≡ true → ends_heuristic e ≡ false)
      → (whole ≡ true → ends_left e ≡ false) → (ends_committed e ≡ true → whole ≡ true) → ends_in_doubt e ≡ false
      → ends_read_only e ≡ false → ends_committed e ≡ whole
  ending_is whole e agree plain reached some doubt reads = grind arith

  -- then all additions count, or none
  pub each_whole : (whole : Bool) (from upto : ℕ → ℕ) (bs : List Branch) (vs : List Code) (es : List Ending)
      → (whole ≡ true → list_any ends_rolled_back es ≡ false) → (whole ≡ true → list_any is_no vs ≡ false)
      → (list_any ends_committed es ≡ true → whole ≡ true)
      → list_any ends_in_doubt es ≡ false → EachOutcome (λ b v e. Both b (from b.m) (upto b.m) v e) bs vs es
      → EachOutcome (λ b v e. Shares s t b (from b.m) whole) bs vs es
  each_whole whole from upto bs vs es agree unopposed some doubt =
      outcome_all (λ b. Unit {0}) (λ v. whole ≡ true → is_no v ≡ false)
      (λ e. (whole ≡ true → ends_rolled_back e ≡ false) × (ends_committed e ≡ true → whole ≡ true)
      × (ends_in_doubt e ≡ false))
      (λ b v e. Both b (from b.m) (upto b.m) v e) (λ b v e. Shares s t b (from b.m) whole)
      (λ b v e _ votes ending h T with_T k d add.
      let z = h.counted T with_T in
      z.counted k d add ∙ ap (λ q. if q then d else pos 0)
      (ending_is whole e ending.0 (λ w. h.undecided (votes w)) (λ w. h.fated.unless_no (votes w)) ending.1 ending.2
      (z.adders k d add))) bs vs es (λ k d lt. tt)
      (λ k d lt w. none_all is_no vs (unopposed w) k d lt)
      (λ k d lt. (
        λ w. none_all ends_rolled_back es (agree w) k d lt,
        λ c. some (list_any_at ends_committed es k d lt c),
        none_all
            ends_in_doubt es doubt k d lt,
      ))

-- ---- by a desk's lists

module _ (law : Tabled) (opened : OpensWithSome) (s : Settling) (c : CommitCall) (d : Done)
    (f : IsFinishedIn s c d) where
  open c use {thread as t, branches as bs, desk.{ledgers as at}, new}
  open f use {settled, made.{may, trace.{course}}}

  abbrev In : Branch → Code → Option Code → Ending → Type 0
  In = InHistory law opened s t settled d.commit (sent_so_far at) (sent_so_far new)

  each : EachBranch In bs d.votes.items course.seconds d.endings.items
  each =
      branch_map (λ b. 1 ≤ b.m) (Reported c d) In (λ b v z e positive h T with_T. (
        its_course law s t settled b d.commit v z e (ledger at b.m) (ledger new b.m) positive
            (f.grown.each b.m positive)
            h T with_T,
        h.ends,
      ))
      bs d.votes.items course.seconds d.endings.items (positive_all 0 bs may.rising) course.each

  module _ (alone : IsLeftOrDecided s c) where
    all_fated : EachOutcome (λ b v e. Fated law opened s t b (sent_so_far at b.m) v e) bs d.votes.items d.endings.items
    all_fated =
        each_outcome _ In _
        (λ b v z e only is. one_fated law opened s t settled d.commit (sent_so_far at) (sent_so_far new) b v z e is
        only)
        bs d.votes.items course.seconds d.endings.items alone.each each

    pub votes_law : KeepsTheVotes s t bs (sent_so_far at) d
    votes_law = search (arith, outcome_map, all_fated)

    pub fates_law : TellsTheFates s t bs (sent_so_far at) d
    fates_law = search (arith, outcome_map, all_fated)

  module _ (alone : IsLeftAlone s c) where
    pub all_outcomes : EachOutcome (λ b v e. Both law opened s t b (sent_so_far at b.m) (sent_so_far new b.m) v e) bs
        d.votes.items d.endings.items
    all_outcomes =
        each_outcome _ In _
        (λ b v z e only is. one_both law opened s t settled d.commit (sent_so_far at) (sent_so_far new) b v z e is
        only)
        bs d.votes.items course.seconds d.endings.items alone.each each

    pub counts_law : CountsTheCommitted s t bs (sent_so_far at) d
    counts_law = search (arith, outcome_map, all_outcomes)

    -- no branch was rolled back, and none voted against, where one was committed
    pub whole_law : is_decided_everywhere d ≡ true → HasAllOrNothing s t bs (sent_so_far at) d
    whole_law sure =
        let none = or_parts _ _ (not-true _ sure) in
        let whole = committed_law c d may.tran f.finished may.one in
        let each_so = each_whole law opened s t (has_committed d) (sent_so_far at) (sent_so_far new) bs d.votes.items
        d.endings.items (λ some. (whole some).kept)
        (λ some. (whole some).unopposed) (λ e. e) none.0 all_outcomes in
        record { each = each_so }

-- a commit only makes the lists grow
traced_grows : (commit : Bool) (b : Branch) (v : Code) (z : Option Code) (e : Ending) (a a' : LedgerView)
    → AtBranch AsksLedger commit b v z e a a'
    → HasGrown a a'
traced_grows commit b v z e a a' is =
    (branch_mapped
    (keeps AsksLedger Any (HasGrown a)
    (λ d w op c _ asked q. grown_on a d w q (rw asked.trace (asked_grows d (Some op) (Some c))))) commit b v z e
    a a' is (any_asked (second_op commit b.xid v)) (any_asked (third_op b.xid z)) tt).on (as_it_was a)

pub growth_law : (tran : TranName) (bs : List Branch) (old new : List LedgerView) (log later : LogState) (d : Done)
    → IsTraceOfCommit tran bs old new log later d → HaveGrown old new
growth_law tran bs old new log later d call =
    record {
      each = every_manager HasGrown as_it_was (λ b. Unit {0}) old new d (λ b _. traced_grows d.commit b) tran bs
          log later (λ k d lt. tt) call;
    }
