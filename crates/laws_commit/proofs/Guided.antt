-- What a branch that voted to commit stands at as the opening of its commit ends, where requests that lead it and
-- heuristic
-- decisions name it; and how it ends, by its fate then and through the later openings.
use Rattle.xa_base.proofs.{arith, ◌≡◌, ℕ, Bool, true, false, if◌then◌else◌, List, [], ◌∷◌, sym, refl, ap, ◌∙◌, Option}
use Rattle.xa_base.proofs.{Some, None, list_any, list_any-append, or-true, rules, at_true, unwrap_or, inl, inr, ◌++◌}
use Rattle.xa_base.proofs.{All, cons_option, All-head, All-tail, All-cons, both_ways}
use Rattle.xa_base.specs.{Begins}
use Rattle.xa_words.specs.{XidName, Done, Op, Code, xid_eq, Prepare, Request}
use Rattle.xa_tables.proofs.Soundness.{Sound, sound_after, opening_sound}
use Rattle.laws_fates.proofs.FateLaw.{run_sound, last_more}
use Rattle.laws_tables.proofs.UnnamedLaw.{tables_after-append}
use Rattle.laws_tables.proofs.PreparedLaw.{Decides, Nothing, Completes, decides}
use Rattle.xa_tables.specs.{is_S3, IsToldDecision, State, HeuristicDecision, state_of, is_left_in, decision_code, next}
use Rattle.xa_tables.specs.{Fate, tables_after, last_or, is_in_doubt as is_unknown, decided_fate, Tables, History}
use Rattle.xa_tables.specs.{HeuristicallyCompleted, TablesAndCode, fate, fate_of, names, is_heur, AwaitsAfter}
use Rattle.xa_desk.specs.{LedgerView, learnt_shut}
use Rattle.xa_driver.specs.{Branch, Ending, is_yes, yes_ending, AsksLedger, outcome_op, voted, AtBranch, Committed}
use Rattle.xa_driver.specs.{ReadOnly, RolledBack, InDoubt, Heuristic, Left, is_decided}
use Rattle.laws_commit.specs.{ends_in_doubt, told_fate, ended_as, Tabled, ends_heuristic, ends_left}
use Rattle.xa_driver.proofs.Requests.{trace_of, asked_grows}
use Rattle.xa_words.proofs.Xids.{xid_self}
use Rattle.xa_tables.specs.declared.state.State.TheVariants.{Prepared}
use Rattle.xa_tables.specs.Histories as history
use Rattle.laws_commit.proofs.Courses.{yes_is, yes_wanted}
use Rattle.laws_commit.proofs.Leading.{after_all, Goes, Stands, waits, unforgotten, Leads, Led, Standing, step_led}
use Rattle.laws_commit.proofs.Leading.{IsTowards, ends_towards, led_after, ends_fate}
use Rattle.laws_commit.proofs.Sites.{Site, StandsIn, fates, request_of, fates_both, last_both}

-- It ended as was decided, or its ending tells that it was decided heuristically, or it is left; and then W is known.
pub data Comes (commit : Bool) (W L : Type 0) (s : Option State) (f : Fate) (e : Ending) : Type 0 where
  ends : f ≡ ended_as commit → Comes commit W L s f e
  tells : (d : HeuristicDecision) → f ≡ decided_fate d → told_fate e ≡ Some (decided_fate d) → Comes commit W L s f e
  leaves : W → is_left_in s ≡ true → Stands commit true (f ≡ history.InDoubt) L s f → Comes commit W L s f e

-- so by its manager's history, which tells its fate whatever it was before
pub record AtEnd (commit : Bool) (W L : Type 0) (x : XidName) (f : Fate) (H : History) (T : Tables) (e : Ending) : Type
    0 where
  pub comes : Comes commit W L (state_of (tables_after H T) x) f e
  pub any : (g h : Fate) → last_or g (fates x H T) ≡ last_or h (fates x H T)

pub unknown_so : (f : Fate) → is_unknown f ≡ true → f ≡ history.InDoubt
unknown_so f e = grind arith

-- a fate, unless it is unknown
abbrev pub once : Fate → List Fate
once f = if is_unknown f then [] else f ∷ []

pub told_decided : (commit : Bool) (d : HeuristicDecision)
    → told_fate (yes_ending commit (Some (decision_code d))) ≡ Some (decided_fate d)
told_decided commit d = grind arith

pub tells_so : (law : Tabled) (commit : Bool) (t : ℕ) (x : XidName) (d : HeuristicDecision) (U : Tables)
    → (next t (outcome_op commit x) U).1 ≡ decision_code d
    → IsToldDecision x d U (next t (outcome_op commit x) U)
tells_so law true t x d U e = law.commit_tells t x d U e
tells_so law false t x d U e = law.rollback_tells t x d U e

-- ---- where it is left in doubt the desk has learnt that the manager is shut

pub learnt_on : (a b : LedgerView) → Begins a.collected b.collected → learnt_shut a ≡ true → learnt_shut b ≡ true
learnt_on a b begins e = search (arith, list_any, list_any-append, a.collected)

pub learnt_in_doubt : (b : Branch) (vote : Code) (second : Option Code) (ending : Ending) (commit : Bool)
    (a a' : LedgerView)
    → AtBranch AsksLedger commit b vote second ending a a' → is_yes vote ≡ true → ends_in_doubt ending ≡ true
    → learnt_shut a' ≡ true
learnt_in_doubt b vote second ending commit a a' is y doubt =
    search (arith, trace_of, yes_is, yes_wanted, learnt_on, asked_grows, list_any-append, or-true, b.xid)

-- fates that are known
pub is_known_so : (f : Fate) (commit : Bool) → f ≡ ended_as commit → is_unknown f ≡ false
is_known_so f commit e = grind arith

pub is_decided_so : (f : Fate) (d : HeuristicDecision) → f ≡ decided_fate d → is_unknown f ≡ false
is_decided_so f d e = grind arith

-- fates that differ, and decisions that are told apart
pub decided_apart : (d : HeuristicDecision) (commit : Bool) → decided_fate d ≡ ended_as commit → ⊥
decided_apart d commit e = grind arith

pub read_apart : (d : HeuristicDecision) → decided_fate d ≡ history.ReadOnly → ⊥
read_apart d e = grind arith

pub decided_one : (d k : HeuristicDecision) → decided_fate d ≡ decided_fate k → d ≡ k
decided_one d k e = grind arith

-- the decision that a code tells
pub decision_so : (c : Code) → is_decided c ≡ true → (d : HeuristicDecision) × (c ≡ decision_code d)
decision_so c e = grind arith

-- an ending that isn't heuristic tells no decision
pub untold : (e : Ending) (d : HeuristicDecision) → ends_heuristic e ≡ false → told_fate e ≡ Some (decided_fate d) → ⊥
untold e d plain told = grind arith

-- ---- a branch that is left, where its ending tells what became of it

-- its fate is unknown, or that of a decision
left_fate : (commit : Bool) (L : Type 0) {s : Option State} (f g : Fate) → is_left_in s ≡ true
    → Stands commit true (f ≡ history.InDoubt) L s f
    → is_unknown g ≡ false → ((d : HeuristicDecision) → decided_fate d ≡ g → ⊥) → f ≡ g → ⊥
left_fate commit L f g left st known apart same = search (arith, apart)

-- so it is in doubt, or was decided
pub doubted : (commit : Bool) (W L : Type 0) {s : Option State} (f : Fate) (e : Ending)
    → ((g : Fate) → told_fate e ≡ Some g → f ≡ g) → ends_left e ≡ false
    → (ends_heuristic e ≡ true → (d : HeuristicDecision) × (told_fate e ≡ Some (decided_fate d)))
    → (ends_in_doubt e ≡ true → W) → Comes commit (Unit {0}) L s f e → Comes commit W L s f e
doubted commit W L f e told reached named why (ends g) = ends g
doubted commit W L f e told reached named why (tells d g h) = tells d g h
doubted commit W L {s} f e told reached named why (leaves _ left st) = by_ending e told reached named why
  where
    by_ending : (e : Ending) → ((g : Fate) → told_fate e ≡ Some g → f ≡ g) → ends_left e ≡ false
        → (ends_heuristic e ≡ true → (d : HeuristicDecision) × (told_fate e ≡ Some (decided_fate d)))
        → (ends_in_doubt e ≡ true → W) → Comes commit W L s f e
    by_ending Committed told reached named why =
        absurd
        (left_fate commit L f history.Committed left st refl (λ d. decided_apart d true)
        (told history.Committed refl))
    by_ending RolledBack told reached named why =
        absurd
        (left_fate commit L f history.RolledBack left st refl (λ d. decided_apart d false)
        (told history.RolledBack refl))
    by_ending ReadOnly told reached named why =
        absurd (left_fate commit L f history.ReadOnly left st refl read_apart (told history.ReadOnly refl))
    by_ending InDoubt told reached named why = leaves (why refl) left st
    by_ending (Heuristic c) told reached named why = let z = named refl in tells z.0 (told (decided_fate z.0) z.1) z.1
    by_ending (Left c) told reached named why = cc

-- where it is known all the same
pub comes_for : (commit : Bool) (W L : Type 0) {s : Option State} {f : Fate} {e : Ending} → W
    → Comes commit (Unit {0}) L s f e → Comes commit W L s f e
comes_for commit W L w (ends g) = ends g
comes_for commit W L w (tells d g h) = tells d g h
comes_for commit W L w (leaves _ left st) = leaves w left st

-- one that is in doubt is left
pub left_in_doubt : (commit : Bool) (W L : Type 0) {s : Option State} (f : Fate) (e : Ending) → Comes commit W L s f e
    → is_unknown f ≡ true
    → W × (is_left_in s ≡ true) × Stands commit true (f ≡ history.InDoubt) L s f
left_in_doubt commit W L f e comes unknown = search (arith, both_ways, is_known_so, is_decided_so)

-- what the branch may be named in: a heuristic decision, or what leads it
abbrev pub IsGuided : Bool → Type 0 → XidName → Op → Type 0
IsGuided commit L x op = names x op ≡ true → is_heur op ≡ false → Leads commit L op

-- such a request makes nothing of it, or it is known what
abbrev pub IsGuidedTo : Bool → Type 0 → Type 0 → XidName → Op → Fate → TablesAndCode → Type 0
IsGuidedTo commit D L x op f a = Goes commit true D L (λ g. is_unknown g ≡ false) x op f a

pub decided_known : (d : HeuristicDecision) → is_unknown (decided_fate d) ≡ false
decided_known d = grind arith

-- it leads the branch, or doesn't name it; or it is a decision of it
by_guide : (P : Type 0) (commit : Bool) (L : Type 0) (x : XidName) (op : Op) → IsGuided commit L x op
    → (IsTowards commit L x op → P)
    → (names x op ≡ true → is_heur op ≡ true → P) → P
by_guide P commit L x op guide leads decides = search (arith, both_ways)

module _ (commit : Bool) (D L : Type 0) (x : XidName) where
  doubt_so : (s : Option State) (f : Fate) → Stands commit true D L s f → is_S3 s ≡ true → is_unknown f ≡ true
  doubt_so s f st voted = search (arith, rules)

  by_decision : (f : Fate) (T : Tables) (op : Op) (a : TablesAndCode) → Stands commit true D L (state_of T x) f
      → Decides x op T a → IsGuidedTo commit D L x op f a
  by_decision f T op a st (Nothing same none) = search (arith, unwrap_or, a.0)
  by_decision f T op a st (Completes d voted state opened told) = record {
    stands = unforgotten d state (ap (λ (o : Option Fate). unwrap_or o f) told) (inl refl);
    makes = inr (decided_fate d, (told, decided_known d));
    once = λ known. absurd (both_ways (is_unknown f) known (doubt_so (state_of T x) f st voted));
  }

  pub guided : (f : Fate) (T : Tables) → Stands commit true D L (state_of T x) f → Sound T → (t : ℕ) (op : Op)
      → IsGuided commit L x op
      → IsGuidedTo commit D L x op f (next t op T)
  guided f T st sound t op guide =
      by_guide (IsGuidedTo commit D L x op f (next t op T)) commit L x op guide
      (λ leads. let led = step_led commit true D L x f T st sound t op leads in search (arith, is_known_so))
      (λ named heur. by_decision f T op (next t op T) st (decides t x op T named heur))

  pub guided_after : (h : History) (T : Tables) (f : Fate) → All (λ r. IsGuided commit L x r.op) h
      → Standing commit true D L x T f
      → Standing commit true D L x (tables_after h T) (last_or f (fates x h T))
  guided_after h T f guide s =
      (after_all commit true D L (λ g. is_unknown g ≡ false) x (IsGuided commit L x) guided h T f guide s).0

  -- one that was in doubt gets at most one fate
  abbrev Once : Fate → List Fate → Type 0
  Once f fs = (is_unknown f ≡ false → fs ≡ []) × (is_unknown f ≡ true → fs ≡ once (last_or f fs))

  pub fates_once : (h : History) (T : Tables) (f : Fate) → All (λ r. IsGuided commit L x r.op) h
      → Standing commit true D L x T f → Once f (fates x h T)
  fates_once [] T f guide s = (λ _. refl, λ unknown. sym (ap (λ b. if b then [] else f ∷ []) unknown))
  fates_once (r ∷ h) T f guide s =
      let P : Request → Type 0 = λ q. IsGuided commit L x q.op in
      let T1 : Tables = (next r.thread r.op T).0 in
      let o : Option Fate = fate_of x r.op (next r.thread r.op T).1 in
      let here : IsGuided commit L x r.op = All-head P r h guide in
      let st = guided f T s.stands s.sound r.thread r.op here in
      let rest =
      fates_once h T1 (unwrap_or o f) (All-tail P r h guide)
      (record { stands = st.stands; sound = sound_after r.thread r.op T s.sound }) in
      search (arith, st.makes, st.once, unwrap_or, cons_option)

-- so nothing more is made of one whose fate is known, by what leads it
pub known_stays : (commit : Bool) (D L : Type 0) (x : XidName) (h : History) (T : Tables) (f : Fate)
    → is_unknown f ≡ false
    → All (λ r. IsTowards commit L x r.op) h → Standing commit true D L x T f → fates x h T ≡ []
known_stays commit D L x h T f known towards s =
    (fates_once commit D L x h T f (λ k d lt named plain. towards k d lt named) s).0 known

-- ---- a request for the outcome, in its place

-- what stands so and was decided has that fate
decided_of : {commit : Bool} {D L : Type 0} {d : HeuristicDecision} {s : Option State} {f : Fate}
    → s ≡ Some (HeuristicallyCompleted d)
    → Stands commit true D L s f → f ≡ decided_fate d
decided_of {d = d} is st = search (arith, rules)

module _ (commit : Bool) (D L : Type 0) (t n : ℕ) (x : XidName) (T : Tables) (H before after : History) (f : Fate)
    (place : H ≡ before ++ request_of t n (outcome_op commit x) ∷ after) where
  abbrev own : Request
  own = request_of t n (outcome_op commit x)

  abbrev told : TablesAndCode
  told = next t (outcome_op commit x) (tables_after before T)

  abbrev here : Fate
  here = last_or f (fates x before T)

  after_it : last_or f (fates x H T) ≡ last_or here (fates x (own ∷ after) (tables_after before T))
  after_it =
      ap (λ (h : History). last_or f (fates x h T)) place ∙ ap (last_or f) (fates_both x before (own ∷ after) T)
      ∙ last_both f (fates x before T) _

  -- what it leaves stands after all
  pub led_there : Sound (tables_after before T) → (open_ : Bool) → All (λ r. IsTowards commit L x r.op) after
      → Led commit open_ D L x (outcome_op commit x) here told
      → Standing commit open_ D L x (tables_after H T) (last_or f (fates x H T))
  led_there sound open_ towards led =
      let made : Option Fate = fate_of x (outcome_op commit x) told.1 in
      let tables_are : tables_after H T ≡ tables_after after told.0 = ap (λ (h : History). tables_after h T) place
      ∙ tables_after-append before (own ∷ after) T in
      rw (last_more here made (fates x after told.0) ∙ sym after_it) at
      (rw (← tables_are) at
      (led_after commit open_ D L x after told.0 (unwrap_or made here) towards
      (record {
        stands = led.stands;
        sound = sound_after t (outcome_op commit x) (tables_after before T) sound;
      })).0)

  module _ (law : Tabled) (st : Standing commit true D L x (tables_after before T) (last_or f (fates x before T)))
      (guide : All (λ r. IsGuided commit L x r.op) after) where
    pub ended_there : told.1 ≡ Done → last_or f (fates x H T) ≡ ended_as commit
    ended_there e =
        let made : fate_of x (outcome_op commit x) told.1 ≡ Some (ended_as commit) =
        ap (fate_of x (outcome_op commit x)) e ∙ ends_fate commit x in
        let led =
        step_led commit true D L x here (tables_after before T) st.stands st.sound t (outcome_op commit x)
        (ends_towards commit L x x) in
        let stands : Stands commit true D L (state_of told.0 x) (ended_as commit) = search (arith, unwrap_or) in
        let there : Standing commit true D L x told.0 (ended_as commit) = search (arith, sound_after) in
        let silent : fates x after told.0 ≡ [] =
        (fates_once commit D L x after told.0 (ended_as commit) guide there).0
        (is_known_so (ended_as commit) commit refl) in
        after_it ∙ (λ i. last_or here (cons_option (made i) (silent i)))

    -- a decision that it was told is its fate
    pub told_there : (d : HeuristicDecision) → told.1 ≡ decision_code d → last_or f (fates x H T) ≡ decided_fate d
    told_there d e =
        let is : here ≡ decided_fate d =
        decided_of (tells_so law commit t x d (tables_after before T) e).state st.stands in
        let all : All (λ r. IsGuided commit L x r.op) (own ∷ after) = search (arith, All-cons, ends_towards) in
        after_it
        ∙ ap (last_or here)
        ((fates_once commit D L x (own ∷ after) (tables_after before T) here all st).0
        (ap is_unknown is ∙ decided_known d))
        ∙ is

-- ---- from the Prepare on

module _ {t n : ℕ} {x : XidName} {T : Tables} {H : History} (s : Site t T H) (commit : Bool) (D L : Type 0)
    (f : StandsIn t n (Prepare x) Done T H)
    (guide : All (λ r. IsGuided commit L x r.op) f.after) where
  open s use {law, opening}
  open f use {before, after, place}

  abbrev U : Tables
  U = tables_after before T

  abbrev now : Tables
  now = (next t (Prepare x) U).0

  prepared : state_of now x ≡ Some Prepared
  prepared =
      let w : AwaitsAfter t x [] now =
      law.awaits before [] t x T opening (sym f.code) (λ k d lt. absurd (omega (arith, lt))) in
      search (arith, w.decision, w.fates)

  pub voted_now : fate_of x (Prepare x) (next t (Prepare x) U).1 ≡ Some history.InDoubt
  voted_now = ap (fate_of x (Prepare x)) (sym f.code) ∙ at_true (xid_eq x x) _ None (xid_self x)

  pub fate_any : (g : Fate) → last_or g (fates x H T) ≡ last_or history.InDoubt (fates x after now)
  fate_any g = search (arith, last_both, fates_both, request_of, cons_option, voted_now, place)

  pub stands_now : D → Standing commit true D L x now history.InDoubt
  stands_now doubt =
      record {
        stands = waits doubt refl prepared refl;
        sound = sound_after t (Prepare x) U (run_sound before T (opening_sound T opening));
      }

  pub at_last : D → (g : Fate) → Standing commit true D L x (tables_after H T) (fate x g H T)
  at_last doubt g =
      rw (law.leaves H x g T ∙ fate_any g)
      (rw (ap (λ (h : History). tables_after h T) place
      ∙ tables_after-append before (request_of t n (Prepare x) ∷ after) T)
      (guided_after commit D L x after now history.InDoubt guide (stands_now doubt)))

  -- and so what the Prepare and what is after it make of it
  pub fates_from : D → (g : Fate)
      → fates x (request_of t n (Prepare x) ∷ after) U ≡ history.InDoubt ∷ once (fate x g H T)
  fates_from doubt g =
      ap (λ o. cons_option o (fates x after now)) voted_now
      ∙ ap (λ l. history.InDoubt ∷ l)
      ((fates_once commit D L x after now history.InDoubt guide (stands_now doubt)).1 refl
      ∙ ap once (sym (law.leaves H x g T ∙ fate_any g)))
