-- The tables tell what became of each branch, in one opening and over any.
use Rattle.xa_tables.proofs.Soundness.{standing, opening_sound, Sound, associated_works, sound_after, AtWork, own_works}
use Rattle.xa_tables.proofs.Soundness.{working, works}
use Rattle.laws_fates.proofs.ShutLaw.{after_accepted}
use Rattle.xa_tables.proofs.SoundLemmas.{get_put, get_gone}
use Rattle.xa_tables.proofs.Reopening.{left_opens, new_opens, reopens, state_reopened}
use Rattle.xa_tables.specs.{Failed, Transient, stated, Live, InDoubt, Committed, HeurCommitted, HeurRolledBack}
use Rattle.xa_tables.specs.{if_named, Tables, TablesAndCode, next, tables_after, accepted, coded, fates_in, History}
use Rattle.xa_tables.specs.{Fate, fate, fate_of, last_or, State, Active, Idle, RollbackOnly, HeuristicallyCompleted}
use Rattle.xa_tables.specs.{HeuristicDecision, state_of, is_S3, is_S5, is_somebody_associated, ending_of_fate, Absent}
use Rattle.xa_tables.specs.{is_in_doubt, is_unfinished, decided_fate, IsOpening, fate_of_state, IsNew, reopened}
use Rattle.xa_tables.specs.{left_by, IsFateOf, reopened_fate, fate_left, FatesAreTold}
use Rattle.xa_words.specs.{xid_eq, XidName, Op, Decides-xid_eq, xid_cmp}
use Rattle.xa_tables.proofs.Effects.{Starts, Effect, effect_of, Stays, Joins, Resumes, Fails, Idles, Dooms, Prepares}
use Rattle.xa_tables.proofs.Effects.{Commits, Drops, CommitsByItself, RollsBackByItself, Forgets, named_none}
use Rattle.xa_base.proofs.{◌≡◌, ℕ, true, false, if◌then◌else◌, [], ◌∷◌, refl, arith, sym, ap, ◌∙◌, map, cons_option}
use Rattle.xa_base.proofs.{◌≢◌, ◌||◌, Option, None, Some, is_some, unwrap_or, List, get-empty}
use Rattle.xa_tables.specs.declared.state.State.TheVariants.{Prepared as S3}
use Rattle.std.specs.FinMap as map
use Rattle.xa_tables.specs.declared.state.HeuristicDecision.TheVariants as decision
use Rattle.std.specs.FinMap as map

-- ---- what a state tells

-- the state of a branch tells its fate
pub record Tells (o : Option State) (f : Fate) : Type 0 where
  pub prepared : is_S3 o ≡ is_in_doubt f
  pub exists : is_some o ≡ (is_unfinished f || is_S5 o)
  pub decided : (d : HeuristicDecision) → o ≡ Some (HeuristicallyCompleted d) → f ≡ decided_fate d

-- a branch that doesn't exist, and hasn't begun or has ended
none_tells : (f : Fate) → is_in_doubt f ≡ false → is_unfinished f ≡ false → Tells None f
none_tells f sure ended = record { prepared = sym sure; exists = sym (ap (λ b. b || false) ended); decided = λ d e. cc }

pub decided_tells : (d : HeuristicDecision) → Tells (Some (HeuristicallyCompleted d)) (decided_fate d)
decided_tells d = grind arith

-- each state tells some fate
pub told_tells : (o : Option State) → Tells o (fate_of_state o)
told_tells (Some (HeuristicallyCompleted d)) = decided_tells d
told_tells None = none_tells Absent refl refl
told_tells (Some s) = record { prepared = refl; exists = refl; decided = λ d e. cc }

-- so all states of work tell the same
works_tells : (o p : Option State) (f : Fate) → standing o ≡ AtWork → standing p ≡ AtWork → Tells o f → Tells p f
works_tells o p f at_o at_p h = grind (arith, working)

decided_ended : (d : HeuristicDecision) → Tells None (decided_fate d)
decided_ended d = grind (arith, none_tells)

-- a decision that is forgotten was made
forgotten_tells : (o : Option State) (f : Fate) → is_S5 o ≡ true → Tells o f → Tells None f
forgotten_tells (Some (HeuristicallyCompleted d)) f e h = rw (h.decided d refl) (decided_ended d)
forgotten_tells o f e h = cc

-- so is a branch that ends without a commit
dropped_tells : (f : Fate) → ending_of_fate f ≡ Some false → Tells None f
dropped_tells f e = grind (arith, none_tells)

-- ---- what each request makes of it

pub nobody_rests : (T : Tables) → Sound T → (x : XidName) → standing (state_of T x) ≢ AtWork
    → is_somebody_associated T.associations x ≡ false
nobody_rests T s = s.rests

module _ (t : ℕ) (T : Tables) (s : Sound T) where
  -- the state of x tells the same, once y has another and is at work as it was
  alike : (x : XidName) (f : Fate) → Tells (state_of T x) f → (y : XidName) (o p : Option State)
      → p ≡ (if xid_eq y x then o else state_of T x)
      → (y ≡ x → Tells o f) → Tells p f
  alike x f h y o p is here = search (arith, Decides-xid_eq)

  works_on : (x : XidName) (f : Fate) → Tells (state_of T x) f → (y : XidName) (o : State)
      → standing (state_of T y) ≡ AtWork → standing (Some o) ≡ AtWork
      → Tells (state_of (stated y o T) x) f
  works_on x f h y o was now =
      alike x f h y (Some o) _ (get_put T.states y x o)
      (λ e. works_tells (state_of T x) (Some o) f (ap (λ z. standing (state_of T z)) (sym e) ∙ was) now h)

  -- the state of x, once y has another and its request makes g of it
  changed : (x : XidName) (f : Fate) → Tells (state_of T x) f → (y : XidName) (o p : Option State) (g : Option Fate)
      → p ≡ (if xid_eq y x then o else state_of T x) → Tells o (unwrap_or g f) → Tells p (unwrap_or (if_named x y g) f)
  changed x f h y o p g is here = search (arith, unwrap_or)

  -- the state of x tells what becomes of it
  tells_by : (x : XidName) (f : Fate) → Tells (state_of T x) f → {op : Op} {a : TablesAndCode} → Effect t T op a
      → Tells (state_of a.0 x) (unwrap_or (fate_of x op a.1) f)
  tells_by x f h (Stays op c tells) = rw (tells.fates x) h
  tells_by x f h (Joins y free there unprepared) = search (arith, named_none, works_on, works)
  tells_by x f h (Fails y own) = works_on x f h y (RollbackOnly Failed) (own_works T s t y own) refl
  tells_by x f h (Idles y own alone) = works_on x f h y Idle (own_works T s t y own) refl
  tells_by x f h (Dooms k d l own) = works_on x f h l.xid (RollbackOnly Transient) (associated_works T s t l own) refl
  tells_by x f h (Drops op y c nobody left tells) = search (arith, changed, get_gone, dropped_tells, tells.fates)
  tells_by x f h (Forgets y is) =
      alike x f h y None _ (get_gone T.states y x)
      (λ e. forgotten_tells (state_of T x) f (ap (λ z. is_S5 (state_of T z)) (sym e) ∙ is) h)
  tells_by x f h (Starts y free fresh) =
      changed x f h y (Some Active) _ (Some Live) (get_put T.states y x Active) (told_tells (Some Active))
  tells_by x f h (Prepares y nobody unbroken) =
      changed x f h y (Some S3) _ (Some InDoubt) (get_put T.states y x S3) (told_tells (Some S3))
  tells_by x f h (Commits y one_phase nobody may) =
      changed x f h y None _ (Some Committed) (get_gone T.states y x) (none_tells Committed refl refl)
  tells_by x f h (CommitsByItself y voted) =
      let s = HeuristicallyCompleted decision.Commit in
      changed x f h y (Some s) _ (Some HeurCommitted) (get_put T.states y x s) (decided_tells decision.Commit)
  tells_by x f h (RollsBackByItself y voted) =
      let s = HeuristicallyCompleted decision.Rollback in
      changed x f h y (Some s) _ (Some HeurRolledBack) (get_put T.states y x s) (decided_tells decision.Rollback)
  tells_by x f h (Resumes y own) = rw (named_none x y) h
  -- the others change no state, and tell nothing
  tells_by x f h effect = h

pub last_more : (f : Fate) (o : Option Fate) (gs : List Fate)
    → last_or (unwrap_or o f) gs ≡ last_or f (cons_option o gs)
last_more f o gs = grind arith

pub run : (H : History) (x : XidName) (f : Fate) (T : Tables) → Sound T → Tells (state_of T x) f
    → Tells (state_of (tables_after H T) x) (last_or f (fates_in x (coded H T)))
run [] x f T s h = h
run (r ∷ H) x f T s h =
    let T1 : Tables = (next r.thread r.op T).0 in
    let o : Option Fate = fate_of x r.op (next r.thread r.op T).1 in
    rw (last_more f o (fates_in x (coded H T1))) at
    (run H x (unwrap_or o f) T1 (sound_after r.thread r.op T s)
    (tells_by r.thread T s x f h (effect_of r.thread r.op T)))

pub run_sound : (h : History) (T : Tables) → Sound T → Sound (tables_after h T)
run_sound [] T s = s
run_sound (r ∷ h) T s = run_sound h (next r.thread r.op T).0 (sound_after r.thread r.op T s)

-- ---- one opening

state_tells : (x : XidName) (f : Fate) (T : Tables) → IsFateOf x f T → Tells (state_of T x) f
state_tells x f T w = record { prepared = w.prepared; exists = w.exists; decided = w.decided }

tells_told : (x : XidName) (f : Fate) (T : Tables) → Tells (state_of T x) f → IsFateOf x f T
tells_told x f T t = record { prepared = t.prepared; exists = t.exists; decided = t.decided }

pub begin_law : (x : XidName) (T : Tables) → IsFateOf x (fate_of_state (state_of T x)) T
begin_law x T = tells_told x (fate_of_state (state_of T x)) T (told_tells (state_of T x))

pub kept_law : (h : History) (x : XidName) (f : Fate) (T : Tables) → IsOpening T → IsFateOf x f T
    → IsFateOf x (fate x f h T) (tables_after h T)
kept_law h x f T o w =
    tells_told x (fate x f h T) (tables_after h T)
    (rw (after_accepted (λ (U : Tables). state_of U x) (λ _. refl) h T)
    (run (accepted h) x f T (opening_sound T o) (state_tells x f T w)))

-- ---- a reopening

pub reopened_law : (x : XidName) (f : Fate) (T : Tables) → IsFateOf x f T → IsFateOf x (reopened_fate f) (reopened T)
reopened_law x f T w = grind (arith, tells_told, state_reopened, state_tells)

-- ---- any openings

left_told : (before : List History) (x : XidName) (f : Fate) (T : Tables) → IsOpening T → IsFateOf x f T
    → IsFateOf x (fate_left x f before T) (left_by before T)
left_told [] x f T o w = w
left_told (h ∷ hs) x f T o w =
    grind (
      arith,
      (left_told hs x (reopened_fate (fate x f h T)) (reopened (tables_after h T)) (reopens (tables_after h T))
          (reopened_law x (fate x f h T) (tables_after h T) (kept_law h x f T o w))),
      reopens,
      reopened_law,
      kept_law,
    )

-- each branch is absent at a first opening
pub first_law : (x : XidName) (T : Tables) → IsNew T → IsFateOf x Absent T
first_law x T n = rw (ap (λ m. map.get m x) n.states ∙ get-empty xid_cmp x) at (begin_law x T)

pub over_law : (before : List History) (h : History) (x : XidName) (T : Tables) → IsNew T → FatesAreTold x before h T
over_law before h x T n = search (arith, new_opens, kept_law, left_opens, left_told, first_law)
