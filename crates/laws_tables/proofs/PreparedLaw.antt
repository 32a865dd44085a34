-- The laws of prepared branches: they stay prepared, and await the outcome; only a prepared branch is decided, and by a
-- manager that isn't shut; only a
-- completed one tells its decision; and what a Prepare and a Shut leave.
use Rattle.xa_base.proofs.{rules, if◌then◌else◌, by_if, ◌≡◌, ℕ, true, false, not, ◌&&◌, ◌||◌, ◌==◌, [], ◌∷◌, sym, ap}
use Rattle.xa_base.proofs.{◌∙◌, or-true, false_from_ne_true, eq-eqb, All-head, All-tail, nat_cmp, eq_by_cmp}
use Rattle.xa_base.proofs.{nat_cmp_total, All, nat_cmp-IsAntisymmetric, is_equal, Bool, None, Some, refl, arith}
use Rattle.xa_base.proofs.{cons_option, not-false, at_true, List, ◌++◌, contains-insert, contains-remove}
use Rattle.laws_fates.proofs.ShutLaw.{all_quiet, fates_quiet, next-Shut, shut_op, shut_stays, stays_open}
use Rattle.xa_tables.proofs.SoundLemmas.{get_put, get_gone}
use Rattle.xa_tables.proofs.Soundness.{Sound, Nowhere, AtWork, standing, voted_rests, sound_after, opening_sound}
use Rattle.laws_fates.proofs.FateLaw.{nobody_rests, run_sound}
use Rattle.laws_tables.proofs.UnnamedLaw.{unnamed_fate, unnamed_on, unnamed_stays, unnamed_law}
use Rattle.xa_tables.specs.{committed, exists, completed_heuristically, Tables, has_opened, TablesAndCode, next}
use Rattle.xa_tables.specs.{tables_after, is_close, closes, History, HeuristicallyCompleted, HeuristicDecision}
use Rattle.xa_tables.specs.{state_of, is_prepared, is_completed, heuristic_code_of, decision_code, fate_of, fates_in}
use Rattle.xa_tables.specs.{coded, decided_fate, names, is_heur, is_forget, OnlyDecides, IsToldDecision, is_S3}
use Rattle.xa_tables.specs.{is_somebody_associated, IsOpening, NamesNowhere, LeavesWaiting, has_shut, IsPrepared}
use Rattle.xa_tables.specs.{StaysPrepared, AwaitsTheOutcome, AwaitsAfter}
use Rattle.xa_words.specs.{is_rolled_back, xid_eq, Op, Request, XidName, Decides-xid_eq, Done, Commit, Rollback, Forget}
use Rattle.xa_words.specs.{Heur, Code, RbIntegrity, RmFail, Prepare}
use Rattle.xa_tables.proofs.Effects.{Effect, Opens, Closes, effect_of, Drops, named_none}
use Rattle.xa_words.proofs.Xids.{xid_self}
use Rattle.xa_tables.specs.declared.state.HeuristicDecision.TheVariants as decision
use Rattle.std.specs.FinMap as map

-- ---- what a heuristic decision does

-- nothing, or the branch was prepared and is completed with a decision, which is its fate
pub data Decides (x : XidName) (op : Op) (T : Tables) (a : TablesAndCode) : Type 0 where
  Nothing : a.0 ≡ T → fate_of x op a.1 ≡ None → Decides x op T a
  Completes : (d : HeuristicDecision) → is_prepared T x ≡ true → state_of a.0 x ≡ Some (HeuristicallyCompleted d)
      → a.0.opened ≡ T.opened
      → fate_of x op a.1 ≡ Some (decided_fate d) → Decides x op T a

by_itself : (x : XidName) (commits : Bool) (T : Tables) → is_prepared T x ≡ true
    → Decides x (Heur x commits) T
    (if commits then (completed_heuristically x decision.Commit (committed x T), Done) else
    (completed_heuristically x decision.Rollback T, Done))
by_itself x true T voted =
    Completes decision.Commit voted (get_put T.states x x _ ∙ at_true (xid_eq x x) _ _ (xid_self x)) refl
    (at_true (xid_eq x x) _ None (xid_self x))
by_itself x false T voted =
    Completes decision.Rollback voted (get_put T.states x x _ ∙ at_true (xid_eq x x) _ _ (xid_self x)) refl
    (at_true (xid_eq x x) _ None (xid_self x))

heur_step : (t : ℕ) (x : XidName) (commits : Bool) (T : Tables)
    → Decides x (Heur x commits) T (next t (Heur x commits) T)
unfolding next
heur_step t x commits T =
    let P : TablesAndCode → Type 0 = Decides x (Heur x commits) T in
    by_if P (T.shut) _ _ (λ _. Nothing refl (named_none x x)) (λ _.
    by_if P (not (exists T x)) _ _ (λ _. Nothing refl (named_none x x)) (λ _.
    by_if P (not (is_prepared T x)) _ _ (λ _. Nothing refl (named_none x x))
    (λ voted. by_itself x commits T (not-false _ voted))))

heur_op : (x : XidName) (op : Op) → names x op ≡ true → is_heur op ≡ true → (commits : Bool) × (op ≡ Heur x commits)
heur_op x op n h = grind (arith, Decides-xid_eq)

pub decides : (t : ℕ) (x : XidName) (op : Op) (T : Tables) → names x op ≡ true → is_heur op ≡ true
    → Decides x op T (next t op T)
decides t x op T n h =
    let z = heur_op x op n h in
    rw z.1 (heur_step t x z.0 T)

-- ---- a branch that isn't prepared

module _ (t : ℕ) (x : XidName) (T : Tables) (u : is_prepared T x ≡ false) where
  -- other requests than those that name it leave it so
  by_effect : {op : Op} {a : TablesAndCode} → Effect t T op a → names x op ≡ false → is_prepared a.0 x ≡ false
  by_effect (Drops op y c free left tells) n = grind (arith, get_gone)
  by_effect effect n = grind (arith, get_put, get_gone)

  forget_step : is_prepared (next t (Forget x) T).0 x ≡ false
  unfolding next
  forget_step = grind (arith, get_gone, at_true, xid_self)

  -- it stays so, and nothing becomes of it
  record Rests (op : Op) (a : TablesAndCode) : Type 0 where
    unprepared : is_prepared a.0 x ≡ false
    quiet : fate_of x op a.1 ≡ None

  decided_rests : (op : Op) (a : TablesAndCode) → Decides x op T a → Rests op a
  decided_rests op a h = grind arith

  by_name : (op : Op) → names x op ≡ true → (is_heur op || is_forget op) ≡ true → Rests op (next t op T)
  by_name (Heur y commits) n h = decided_rests (Heur y commits) _ (decides t x (Heur y commits) T n refl)
  by_name (Forget y) n h = grind (arith, Decides-xid_eq, forget_step)
  by_name op n h = cc

  rests : (op : Op) → (names x op ≡ true → (is_heur op || is_forget op) ≡ true) → Rests op (next t op T)
  rests op only =
      elim (names x op) as (λ b. names x op ≡ b → Rests op (next t op T)) [
        | true ↦ λ n. by_name op n (only n)
        | false ↦ λ n. record { unprepared = by_effect (effect_of t op T) n; quiet = unnamed_fate x op _ n }
      ] refl

abbrev Only : XidName → Request → Type 0
Only x r = names x r.op ≡ true → (is_heur r.op || is_forget r.op) ≡ true

pub unprepared_law : (g : History) (x : XidName) (T : Tables) → is_prepared T x ≡ false → OnlyDecides x g
    → fates_in x (coded g T) ≡ []
unprepared_law [] x T u only = refl
unprepared_law (r ∷ g) x T u only =
    let one = rests r.thread x T u r.op (All-head (Only x) r g only) in
    let later = unprepared_law g x (next r.thread r.op T).0 one.unprepared (All-tail (Only x) r g only) in
    λ i. cons_option (one.quiet i) (later i)

-- ---- a manager that is shut

pub quiet_shut : (g : History) (x : XidName) (T : Tables) → T.shut ≡ true → fates_in x (coded g T) ≡ []
quiet_shut g x T s = all_quiet (λ h U. fates_in x (coded h U)) (fates_quiet x) g T s

-- ---- who is told a decision

module _ (t : ℕ) (x : XidName) (d : HeuristicDecision) (T : Tables) where
  abbrev Told : TablesAndCode → Type 0
  Told a = a.1 ≡ decision_code d → IsToldDecision x d T a

  as_decided : is_completed T x ≡ true → Told (T, heuristic_code_of T x)
  as_decided is e = search (arith, rules)

  pub commit_tells : Told (next t (Commit x false) T)
  unfolding next
  commit_tells = grind (arith, as_decided)

  pub rollback_tells : Told (next t (Rollback x) T)
  unfolding next
  rollback_tells = grind (arith, as_decided)

-- ---- a thread that has the manager open keeps it open until its own CloseRm
another : (t u : ℕ) → (t == u) ≡ false → eq_by_cmp nat_cmp u t ≡ false
another t u apart =
    false_from_ne_true _ (λ e. let same = eq-eqb t u (sym (nat_cmp-IsAntisymmetric u t (is_equal _ e))) in cc)

-- thread u has the manager open, and t's request isn't u's CloseRm
leaves_open : (t u : ℕ) (T : Tables) {op : Op} {a : TablesAndCode} → Effect t T op a → has_opened T u ≡ true
    → (is_close op && (t == u)) ≡ false
    → has_opened a.0 u ≡ true
leaves_open t u T Opens o n =
    contains-insert nat_cmp_total T.opened t u ∙ ap (λ b. eq_by_cmp nat_cmp u t || b) o ∙ or-true _
leaves_open t u T Closes o n =
    contains-remove nat_cmp_total T.opened t u ∙ ap (λ b. not (eq_by_cmp nat_cmp u t) && b) o
    ∙ ap (λ b. not b && true) (another t u n)
leaves_open t u T effect o n = o

pub opened_on : (g : History) (t : ℕ) (T : Tables) → has_opened T t ≡ true → All (λ r. closes t r ≡ false) g
    → has_opened (tables_after g T) t ≡ true
opened_on [] t T o n = o
opened_on (r ∷ g) t T o n =
    let P : Request → Type 0 = λ q. closes t q ≡ false in
    opened_on g t (next r.thread r.op T).0 (leaves_open r.thread t T (effect_of r.thread r.op T) o (All-head P r g n))
    (All-tail P r g n)

-- ---- a prepared branch stays prepared

-- nobody is associated with a prepared branch
nobody : (x : XidName) (T : Tables) → Sound T → IsPrepared x T → is_somebody_associated T.associations x ≡ false
nobody x T s h = nobody_rests T s x (voted_rests (state_of T x) (ap is_S3 h))

pub prepared_law : (h g : History) (x : XidName) (T : Tables) → IsOpening T → IsPrepared x (tables_after h T)
    → NamesNowhere x g
    → StaysPrepared x (tables_after h T) (tables_after (h ++ g) T)
prepared_law h g x T o p n =
    let left = unnamed_law h g x T (nobody x (tables_after h T) (run_sound h T (opening_sound T o)) p) n in
    record { prepared = left.state ∙ p; sums = left.sums }

-- ---- what a branch answers whose outcome is awaited

module _ (t : ℕ) (x : XidName) (T : Tables) (o : has_opened T t ≡ true) where
  -- whatever it is, unless the manager is shut
  unless_shut : (a : TablesAndCode) (c : Code) → a.1 ≡ c
      → (if T.shut then (T, RmFail) else a).1 ≡ (if T.shut then RmFail else c)
  unless_shut a c e =
      elim (T.shut) as (λ b. (if b then (T, RmFail) else a).1 ≡ (if b then RmFail else c)) [ true ↦ refl | false ↦ e ]

  awaits : IsPrepared x T → is_somebody_associated T.associations x ≡ false → AwaitsTheOutcome t x None T
  unfolding next
  awaits h free =
      record {
        state = h;
        commits = unless_shut _ Done (rw (o, h, free));
        rolls_back = unless_shut _ Done (rw (o, h, free));
      }

  told : (d : HeuristicDecision) → state_of T x ≡ Some (HeuristicallyCompleted d) → AwaitsTheOutcome t x (Some d) T
  unfolding next
  told d h =
      record {
        state = h;
        commits = unless_shut _ (decision_code d) (rw (o, h));
        rolls_back = unless_shut _ (decision_code d) (rw (o, h));
      }

-- a Prepare that is answered XA_OK leaves the branch prepared, by a thread that has the manager open
record Holds (t : ℕ) (x : XidName) (T : Tables) (a : TablesAndCode) : Type 0 where
  prepared : IsPrepared x a.0
  opened : has_opened a.0 t ≡ true
  sums : a.0.sums ≡ T.sums

prepare_holds : (t : ℕ) (x : XidName) (T : Tables) → (next t (Prepare x) T).1 ≡ Done
    → Holds t x T (next t (Prepare x) T)
unfolding next
prepare_holds t x T = grind (arith, get_put, Decides-xid_eq, not-false)

-- and from then on what it has added stays
pub sums_kept : (h g : History) (t : ℕ) (x : XidName) (T : Tables) → IsOpening T
    → (next t (Prepare x) (tables_after h T)).1 ≡ Done → NamesNowhere x g
    → (k : List ℕ)
    → map.get (tables_after g (next t (Prepare x) (tables_after h T)).0).sums (x, k) ≡ map.get (tables_after h T).sums
    (x, k)
sums_kept h g t x T o e n k =
    let here : Tables = tables_after h T in
    let later : Tables = (next t (Prepare x) here).0 in
    let p = prepare_holds t x here e in
    (unnamed_on g x later
    (nobody x later (sound_after t (Prepare x) here (run_sound h T (opening_sound T o))) p.prepared) n).sums k
    ∙ ap (λ m. map.get m (x, k)) p.sums

pub prepare_breaks : (t : ℕ) (x : XidName) (T : Tables) → is_rolled_back (next t (Prepare x) T).1 ≡ true
    → (next t (Prepare x) T).1 ≡ RbIntegrity
unfolding next
prepare_breaks t x T = grind arith

-- ---- what leaves a branch waiting

abbrev Waiting : ℕ → XidName → Request → Type 0
Waiting t x r = (names x r.op ≡ true → is_heur r.op ≡ true) × (closes t r ≡ false)

-- a thread that has the manager open, at one request that isn't its CloseRm
opened_one : (r : Request) (t : ℕ) (T : Tables) → has_opened T t ≡ true → closes t r ≡ false
    → has_opened (next r.thread r.op T).0 t ≡ true
opened_one r t T o n = leaves_open r.thread t T (effect_of r.thread r.op T) o n

-- a completed branch stays completed with its decision
completed_on : (g : History) (t : ℕ) (x : XidName) (d : HeuristicDecision) (T : Tables) → Sound T
    → state_of T x ≡ Some (HeuristicallyCompleted d)
    → has_opened T t ≡ true → LeavesWaiting t x g
    → AwaitsTheOutcome t x (Some d) (tables_after g T)
completed_on [] t x d T s h o n = told t x T o d h
completed_on (r ∷ g) t x d T s h o n =
    let first = All-head (Waiting t x) r g n in
    let stays : state_of (next r.thread r.op T).0 x ≡ Some (HeuristicallyCompleted d) =
    elim (names x r.op) as
    (λ b. names x r.op ≡ b → state_of (next r.thread r.op T).0 x ≡ Some (HeuristicallyCompleted d)) [
      | true ↦ λ named. by_decision (next r.thread r.op T) (decides r.thread x r.op T named (first.0 named))
      | false ↦ λ unnamed.
          (unnamed_stays r.thread r.op x T
          (nobody_rests T s x (λ w. let z : Nowhere ≡ AtWork = sym (ap standing h) ∙ w in cc)) unnamed).state
          ∙ h
    ] refl in
    completed_on g t x d (next r.thread r.op T).0 (sound_after r.thread r.op T s) stays (opened_one r t T o first.1)
    (All-tail (Waiting t x) r g n)
  where
    by_decision : (a : TablesAndCode) → Decides x r.op T a → state_of a.0 x ≡ Some (HeuristicallyCompleted d)
    by_decision a (Nothing same none) = ap (λ (U : Tables). state_of U x) same ∙ h
    by_decision a (Completes c voted state opened fate) = let z : true ≡ false = sym voted ∙ ap is_S3 h in cc

-- one request more before it: it made nothing of the branch, or decided it
waits_past : (r : Request) (g : History) (t : ℕ) (x : XidName) (T : Tables) → Sound T
    → has_opened (next r.thread r.op T).0 t ≡ true → LeavesWaiting t x g
    → (IsPrepared x (next r.thread r.op T).0 → AwaitsAfter t x g (next r.thread r.op T).0)
    → IsPrepared x T → Decides x r.op T (next r.thread r.op T) → AwaitsAfter t x (r ∷ g) T
waits_past r g t x T s still n on p (Nothing same none) =
    let later = on (ap (λ (U : Tables). state_of U x) same ∙ p) in
    record {
      decision = later.decision;
      fates =
          ap (λ f. cons_option f (fates_in x (coded g (next r.thread r.op T).0))) none
          ∙ later.fates;
      awaits = later.awaits;
    }
waits_past r g t x T s still n on p (Completes d voted state opened fate) =
    let T1 : Tables = (next r.thread r.op T).0 in
    let quiet : fates_in x (coded g T1) ≡ [] = search (arith, unprepared_law) in
    record {
      decision = Some d;
      fates = λ i. cons_option (fate i) (quiet i);
      awaits = completed_on g t x d T1 (sound_after r.thread r.op T s) state still n;
    }

waits_on : (g : History) (t : ℕ) (x : XidName) (T : Tables) → Sound T → IsPrepared x T → has_opened T t ≡ true
    → LeavesWaiting t x g → AwaitsAfter t x g T
waits_on [] t x T s p o n = record { decision = None; fates = refl; awaits = awaits t x T o p (nobody x T s p) }
waits_on (r ∷ g) t x T s p o n =
    let T1 : Tables = (next r.thread r.op T).0 in
    let first : Waiting t x r = All-head (Waiting t x) r g n in
    let rest : LeavesWaiting t x g = All-tail (Waiting t x) r g n in
    let still : has_opened T1 t ≡ true = opened_one r t T o first.1 in
    let on : IsPrepared x T1 → AwaitsAfter t x g T1 =
    λ voted. waits_on g t x T1 (sound_after r.thread r.op T s) voted still rest in
    elim (names x r.op) as (λ b. names x r.op ≡ b → AwaitsAfter t x (r ∷ g) T) [
      | true ↦ λ named. waits_past r g t x T s still rest on p (decides r.thread x r.op T named (first.0 named))
      | false ↦ search (arith, unnamed_stays, nobody, cons_option, unnamed_fate, awaits, r.thread, r.op)
    ] refl

pub outcome_law : (h g : History) (t : ℕ) (x : XidName) (T : Tables) → IsOpening T
    → (next t (Prepare x) (tables_after h T)).1 ≡ Done → LeavesWaiting t x g
    → AwaitsAfter t x g (next t (Prepare x) (tables_after h T)).0
outcome_law h g t x T o e n = search (arith, run_sound, opening_sound, prepare_holds, waits_on, sound_after)

-- ---- a manager is shut after a Shut alone

shut_from : (h : History) (T : Tables) → T.shut ≡ false → (tables_after h T).shut ≡ has_shut h
shut_from [] T s = s
shut_from (r ∷ h) T s =
    grind (arith, (shut_from h (next r.thread r.op T).0), shut_op, next-Shut, shut_stays, stays_open)

pub shut_law : (h : History) (T : Tables) → IsOpening T → (tables_after h T).shut ≡ has_shut h
shut_law h T o = shut_from h T o.shut
