-- What a branch that voted to commit stands at, where nothing but resolves names it.
use Rattle.xa_base.proofs.{both_ways, rules, arith, ◌⊎◌, not, cond, is_some, unwrap_or, ◌≡◌, ◌≢◌, ℕ, inl, inr, Bool}
use Rattle.xa_base.proofs.{true, false, ◌||◌, if◌then◌else◌, [], ◌∷◌, sym, refl, ap, ◌∙◌, Option, Some, None, All}
use Rattle.xa_base.proofs.{cons_option, not-false, or_from, All-nil, All-cons, All-head, All-tail, and-false, by_if}
use Rattle.xa_base.proofs.{at_false, at_true, or-true, cases_Bool}
use Rattle.xa_words.specs.{XidName, xid_eq, Decides-xid_eq, Done, Nota, Proto, RmFail, Op, Commit, Rollback, Forget}
use Rattle.xa_words.specs.{Request, Code, is_done}
use Rattle.xa_words.proofs.Xids.{xid_self}
use Rattle.xa_tables.proofs.Soundness.{Sound, AtWork, standing, sound_after}
use Rattle.laws_fates.proofs.FateLaw.{nobody_rests, last_more}
use Rattle.xa_tables.proofs.SoundLemmas.{get_gone}
use Rattle.laws_tables.proofs.UnnamedLaw.{unnamed_fate, unnamed_stays}
use Rattle.xa_tables.specs.{heuristic_code_of, committed, State, HeuristicallyCompleted, HeuristicDecision, has_opened}
use Rattle.xa_tables.specs.{state_of, exists, is_left_in, is_prepared, is_completed, is_rollback_only}
use Rattle.xa_tables.specs.{is_somebody_associated, reason_of, decision_code, TablesAndCode, next, by_rules, commit_two}
use Rattle.xa_tables.specs.{rollback, gone, Fate, tables_after, fate_of, last_or, decided_fate, reopened, reopened_fate}
use Rattle.xa_tables.specs.{names, Tables, History}
use Rattle.xa_tables.specs.declared.state.State.TheVariants.{Prepared}
use Rattle.xa_tables.proofs.Reopening.{state_reopened}
use Rattle.laws_commit.specs.{ended_as}
use Rattle.xa_driver.specs.{outcome_op}
use Rattle.xa_tables.proofs.Effects.{error_tells, reason_rolls_back, decision_commits_nothing}
use Rattle.xa_tables.proofs.Effects.{decision_rolls_nothing_back}
use Rattle.xa_tables.specs.Histories as history
use Rattle.laws_commit.proofs.Sites.{fates}

-- it ended as was decided, where it was undecided at first: D; or heuristically, and then it is listed: L
abbrev pub IsOver : Bool → Type 0 → Type 0 → Fate → Type 0
IsOver commit D L f = (D × (f ≡ ended_as commit)) ⊎ ((d : HeuristicDecision) × ((f ≡ decided_fate d) × L))

-- By its state and its fate the branch awaits the outcome, it was decided heuristically and isn't forgotten, or it is
-- over.
-- Once it is no longer open it doesn't await the outcome, and a decision is listed.
pub data Stands (commit open_ : Bool) (D L : Type 0) (s : Option State) (f : Fate) : Type 0 where
  waits : D → open_ ≡ true → s ≡ Some Prepared → f ≡ history.InDoubt → Stands commit open_ D L s f
  unforgotten : (d : HeuristicDecision) → s ≡ Some (HeuristicallyCompleted d) → f ≡ decided_fate d → (open_ ≡ true) ⊎ L
      → Stands commit open_ D L s f
  over : s ≡ None → IsOver commit D L f → Stands commit open_ D L s f

-- what a resolve may ask of the branch: to end as was decided, and a Forget once it is listed
abbrev pub Leads : Bool → Type 0 → Op → Type 0
Leads commit L (Commit y one_phase) = (one_phase ≡ false) × (commit ≡ true)
Leads commit L (Rollback y) = commit ≡ false
Leads commit L (Forget y) = L
Leads commit L op = ⊥

abbrev pub IsTowards : Bool → Type 0 → XidName → Op → Type 0
IsTowards commit L x op = names x op ≡ true → Leads commit L op

-- what a request leaves of it: it stands so, and nothing was made of it, or Q
pub record Goes (commit open_ : Bool) (D L : Type 0) (Q : Fate → Type 0) (x : XidName) (op : Op) (f : Fate)
    (a : TablesAndCode) : Type 0 where
  pub stands : Stands commit open_ D L (state_of a.0 x) (unwrap_or (fate_of x op a.1) f)
  pub makes : (fate_of x op a.1 ≡ None) ⊎ ((g : Fate) × ((fate_of x op a.1 ≡ Some g) × Q g))
  pub once : history.is_in_doubt f ≡ false → fate_of x op a.1 ≡ None

abbrev pub Led : Bool → Bool → Type 0 → Type 0 → XidName → Op → Fate → TablesAndCode → Type 0
Led commit open_ D L x op f a = Goes commit open_ D L (λ g. g ≡ ended_as commit) x op f a

-- so after a history
pub record Standing (commit open_ : Bool) (D L : Type 0) (x : XidName) (T : Tables) (f : Fate) : Type 0 where
  pub stands : Stands commit open_ D L (state_of T x) f
  pub sound : Sound T

named_self : (x : XidName) (o : Option Fate) → (if xid_eq x x then o else None) ≡ o
named_self x o = at_true (xid_eq x x) o None (xid_self x)

gone_state : (T : Tables) (x : XidName) → state_of (gone x T) x ≡ None
gone_state T x = get_gone T.states x x ∙ at_true (xid_eq x x) None _ (xid_self x)

-- a branch that stands so isn't at work, so nobody is associated with it
rests : (commit open_ : Bool) (D L : Type 0) (s : Option State) (f : Fate) → Stands commit open_ D L s f
    → standing s ≢ AtWork
rests commit open_ D L s f st w = search (arith, rules)

-- it is gone, and ended as was decided
gone_so : (commit open_ : Bool) (D L : Type 0) (x : XidName) (f : Fate) (op : Op) (c : Code) (T : Tables)
    → D × (f ≡ history.InDoubt)
    → fate_of x op c ≡ Some (ended_as commit) → Led commit open_ D L x op f (gone x T, c)
gone_so commit open_ D L x f op c T y e = record {
  stands = over (gone_state T x) (inl (y.0, ap (λ o. unwrap_or o f) e));
  makes = inr (ended_as commit, (e, refl));
  once = λ known. absurd (both_ways (history.is_in_doubt f) known (ap history.is_in_doubt y.1));
}

module _ (commit open_ : Bool) (D L : Type 0) (x : XidName) (f : Fate) (T : Tables)
    (st : Stands commit open_ D L (state_of T x) f) where
  -- nothing was done
  same : (op : Op) (c : Code) → fate_of x op c ≡ None → Led commit open_ D L x op f (T, c)
  same op c e = record { stands = rw e st; makes = inl e; once = λ _. e }

  refuses : (op : Op) → (fate_of x op Proto ≡ None) × (fate_of x op RmFail ≡ None)
  refuses op = ((error_tells op Proto refl).fates x, (error_tells op RmFail refl).fates x)

  -- one that is there and isn't completed awaits the outcome
  undecided : not (exists T x) ≡ false → is_completed T x ≡ false → D × (f ≡ history.InDoubt)
  undecided there open_now = search (arith, st)

  committing : commit ≡ true → Led commit open_ D L x (Commit x false) f (commit_two x T)
  committing is =
      let P : TablesAndCode → Type 0 = Led commit open_ D L x (Commit x false) f in
      by_if P (not (exists T x)) _ _ (λ _. same (Commit x false) Nota (named_self x None)) (λ there.
      by_if P (is_completed T x) _ _
      (λ e. same (Commit x false) (heuristic_code_of T x)
      (named_self x _ ∙ decision_commits_nothing (state_of T x) e))
      (λ open_now.
      by_if P (is_somebody_associated T.associations x || not (is_prepared T x)) _ _
      (λ _. same (Commit x false) Proto (refuses (Commit x false)).0) (λ _.
      gone_so commit open_ D L x f (Commit x false) Done (committed x T) (undecided there open_now)
      (named_self x (Some history.Committed) ∙ ap (λ b. Some (ended_as b)) (sym is)))))

  rolling_back : commit ≡ false → Led commit open_ D L x (Rollback x) f (rollback x T)
  rolling_back is =
      let P : TablesAndCode → Type 0 = Led commit open_ D L x (Rollback x) f in
      let ends : Some history.RolledBack ≡ Some (ended_as commit) = ap (λ b. Some (ended_as b)) (sym is) in
      by_if P (not (exists T x)) _ _ (λ _. same (Rollback x) Nota (named_self x None)) (λ there.
      by_if P (is_completed T x) _ _
      (λ e. same (Rollback x) (heuristic_code_of T x)
      (named_self x _ ∙ decision_rolls_nothing_back (state_of T x) e))
      (λ open_now.
      by_if P (is_somebody_associated T.associations x) _ _ (λ _. same (Rollback x) Proto (refuses (Rollback x)).0)
      (λ _.
      by_if P (is_rollback_only T x) _ _
      (λ e. gone_so commit open_ D L x f (Rollback x) (reason_of T x) T (undecided there open_now)
      (named_self x _
      ∙ ap (λ b. if is_done (reason_of T x) || b then Some history.RolledBack else None)
      (reason_rolls_back (state_of T x) e)
      ∙ at_true
      (is_done (reason_of T x) || true) (Some history.RolledBack) None (or-true (is_done (reason_of T x))) ∙ ends))
      (λ _. gone_so commit open_ D L x f (Rollback x) Done T (undecided there open_now)
      (named_self x (Some history.RolledBack) ∙ ends)))))

  unless_refused : (t : ℕ) (op : Op) → Led commit open_ D L x op f (by_rules t op T)
      → Led commit open_ D L x op f (next t op T)
  unfolding next
  unless_refused t op h =
      by_if (Led commit open_ D L x op f) (T.shut) _ _ (λ _. same op RmFail (refuses op).1) (λ _.
      by_if (Led commit open_ D L x op f) _ _ _ (λ _. same op Proto (refuses op).0) (λ _. h))

  -- a request of the three that name it and lead it
  named_led : (t : ℕ) (op : Op) → names x op ≡ true → Leads commit L op → Led commit open_ D L x op f (next t op T)
  named_led t (Commit y one_phase) n l =
      rw l.0 (rw ((Decides-xid_eq y x).0 n) (unless_refused t (Commit x false) (committing l.1)))
  named_led t (Rollback y) n l =
      rw ((Decides-xid_eq y x).0 n) (unless_refused t (Rollback x) (rolling_back l))
  named_led t (Forget y) n l =
      rw ((Decides-xid_eq y x).0 n) (unless_refused t (Forget x) (search (arith, same, gone_state, not-false)))
  named_led t op n l = absurd l

  -- a request that doesn't name it, or leads it
  pub step_led : Sound T → (t : ℕ) (op : Op) → IsTowards commit L x op → Led commit open_ D L x op f (next t op T)
  step_led sound t op towards =
      elim (names x op) as (λ b. names x op ≡ b → Led commit open_ D L x op f (next t op T)) [
        | true ↦ λ n. named_led t op n (towards n)
        | false ↦ λ n.
            record {
              stands =
                  rw (unnamed_stays t op x T (nobody_rests T sound x (rests commit open_ D L (state_of T x) f st))
                  n).state (rw (unnamed_fate x op (next t op T).1 n) st);
              makes = inl (unnamed_fate x op (next t op T).1 n);
              once = λ _. unnamed_fate x op (next t op T).1 n;
            }
      ] refl

-- after a history of requests that each leave it so; and each fate that they make is so
pub after_all : (commit open_ : Bool) (D L : Type 0) (Q : Fate → Type 0) (x : XidName) (A : Op → Type 0)
    → ((f : Fate) (T : Tables) → Stands commit open_ D L (state_of T x) f → Sound T → (t : ℕ) (op : Op) → A op
    → Goes commit open_ D L Q x op f (next t op T))
    → (h : History) (T : Tables) (f : Fate) → All (λ r. A r.op) h → Standing commit open_ D L x T f
    → Standing commit open_ D L x (tables_after h T) (last_or f (fates x h T)) × All Q (fates x h T)
after_all commit open_ D L Q x A step [] T f all s = (s, All-nil Q)
after_all commit open_ D L Q x A step (r ∷ h) T f all s =
    let P : Request → Type 0 = λ q. A q.op in
    let T1 : Tables = (next r.thread r.op T).0 in
    let o : Option Fate = fate_of x r.op (next r.thread r.op T).1 in
    let goes = step f T s.stands s.sound r.thread r.op (All-head P r h all) in
    let rest =
    after_all commit open_ D L Q x A step h T1 (unwrap_or o f) (All-tail P r h all)
    (record { stands = goes.stands; sound = sound_after r.thread r.op T s.sound }) in
    let made : All Q (fates x h T1) = rest.1 in
    (rw (last_more f o (fates x h T1)) at rest.0, search (arith, cons_option, All-cons, goes.makes))

-- so requests that lead it, whose fates are that which was decided
pub led_after : (commit open_ : Bool) (D L : Type 0) (x : XidName) (h : History) (T : Tables) (f : Fate)
    → All (λ r. IsTowards commit L x r.op) h
    → Standing commit open_ D L x T f
    → Standing commit open_ D L x (tables_after h T) (last_or f (fates x h T)) × All (λ g. g ≡ ended_as commit)
    (fates x h T)
led_after commit open_ D L x =
    after_all commit open_ D L (λ g. g ≡ ended_as commit) x (IsTowards commit L x) (step_led commit open_ D L x)

-- ---- the request that ends it

-- XA_OK ends it
pub ends_fate : (commit : Bool) (x : XidName) → fate_of x (outcome_op commit x) Done ≡ Some (ended_as commit)
ends_fate commit x = grind (arith, at_true, xid_self)

-- a thread that has it open is answered by the rules, unless it is shut
asked_now : (t : ℕ) (op : Op) (T : Tables) → T.shut ≡ false → has_opened T t ≡ true → next t op T ≡ by_rules t op T
unfolding next
asked_now t op T open_ has = search (arith, at_false, and-false)

pub ends_towards : (commit : Bool) (L : Type 0) (x y : XidName) → IsTowards commit L x (outcome_op commit y)
ends_towards commit L x y n = search (arith, cases_Bool)

module _ (commit : Bool) (D L : Type 0) (x : XidName) (f : Fate) (T : Tables) (sound : Sound T) (t : ℕ)
    (open_ : T.shut ≡ false)
    (has : has_opened T t ≡ true) where
  -- one that awaits the outcome
  prepared_ends : D × (f ≡ history.InDoubt) → state_of T x ≡ Some Prepared
      → Led commit false D L x (outcome_op commit x) f (next t (outcome_op commit x) T)
  prepared_ends y e =
      rw (answer commit)
      (gone_so commit false D L x f (outcome_op commit x) Done (if commit then committed x T else T) y
      (ends_fate commit x))
    where
      free : is_somebody_associated T.associations x ≡ false
      free = search (arith, nobody_rests)

      answer : (b : Bool) → next t (outcome_op b x) T ≡ (gone x (if b then committed x T else T), Done)
      answer b = search (arith, asked_now, at_false, is_some, or_from)

  -- one that was decided tells so
  decided_tells : (d : HeuristicDecision) → state_of T x ≡ Some (HeuristicallyCompleted d) → (b : Bool)
      → (next t (outcome_op b x) T).1 ≡ decision_code d
  decided_tells d e b = search (arith, asked_now, at_false, is_some, at_true)

  -- where what is told is listed, it is no longer open
  pub ends_it : Stands commit true D L (state_of T x) f
      → ((d : HeuristicDecision) → (next t (outcome_op commit x) T).1 ≡ decision_code d → L)
      → Led commit false D L x (outcome_op commit x) f (next t (outcome_op commit x) T)
  ends_it (waits y o e g) told = prepared_ends (y, g) e
  ends_it (unforgotten d e g l) told =
      step_led commit false D L x f T (unforgotten d e g (inr (told d (decided_tells d e commit)))) sound t
      (outcome_op commit x) (ends_towards commit L x x)
  ends_it (over e g) told =
      step_led commit false D L x f T (over e g) sound t (outcome_op commit x) (ends_towards commit L x x)

-- ---- a reopening

left_as : (T : Tables) (x : XidName) (o : Option State) → state_of T x ≡ o
    → state_of (reopened T) x ≡ cond (is_left_in o) o None
left_as T x o e = state_reopened T x ∙ ap (λ s. cond (is_left_in s) s None) e

pub as_decided : (commit : Bool) → reopened_fate (ended_as commit) ≡ ended_as commit
as_decided commit = grind arith

pub by_itself : (d : HeuristicDecision) → reopened_fate (decided_fate d) ≡ decided_fate d
by_itself d = grind arith

-- leaves the branch as it stands
pub stands_reopened : (commit open_ : Bool) (D L : Type 0) (x : XidName) (T : Tables) (f : Fate)
    → Stands commit open_ D L (state_of T x) f
    → Stands commit open_ D L (state_of (reopened T) x) (reopened_fate f)
stands_reopened commit open_ D L x T f (waits y o e g) = waits y o (left_as T x _ e) (ap reopened_fate g)
stands_reopened commit open_ D L x T f (unforgotten d e g l) =
    unforgotten d (left_as T x _ e) (ap reopened_fate g ∙ by_itself d) l
stands_reopened commit open_ D L x T f (over e g) = search (arith, left_as, as_decided, by_itself)

-- a branch that is no longer open is over
pub is_over : (commit : Bool) (D L : Type 0) (s : Option State) (f : Fate) → Stands commit false D L s f
    → IsOver commit D L f
is_over commit D L s f st = search (arith, rules)
