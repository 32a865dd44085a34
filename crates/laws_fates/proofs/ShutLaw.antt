-- What comes after the first Shut is refused, changes nothing and makes nothing of any branch.
use Rattle.xa_tables.specs.{Tables, TablesAndCode, next, if_opened, by_rules, shut_down, tables_after, is_shut}
use Rattle.xa_tables.specs.{accepted, coded, fates_in, History, codes, LateAreRefused, LateChangeNothing, Fate, fate}
use Rattle.xa_tables.specs.{fate_in, fate_of, last_or}
use Rattle.xa_words.specs.{XidName, Done, RmFail, Op, Shut, Request}
use Rattle.xa_tables.proofs.Effects.{TellsNothing, error_tells, Effect, effect_of}
use Rattle.xa_base.proofs.{◌≡◌, ℕ, true, false, if◌then◌else◌, [], ◌∷◌, refl, arith, sym, ap, ◌∙◌, by_bool, map}
use Rattle.xa_base.proofs.{cons_option}
use Rattle.std.specs.FinMap as map
use Rattle.xa_tables.specs.declared.state.HeuristicDecision.TheVariants as decision

-- a manager that is shut refuses, and its tables stay
pub next-shut : (t : ℕ) (op : Op) (T : Tables) → T.shut ≡ true → next t op T ≡ (T, RmFail)
unfolding next
next-shut t op T s = ap (λ b. if b then (T, RmFail) else if_opened t op T (by_rules t op T)) s

pub shut_op : (op : Op) → is_shut op ≡ true → op ≡ Shut
shut_op op e = grind arith

shut_tells : TellsNothing Shut Done
shut_tells = record { fates = λ x. refl; shares = λ k l later. refl; moved = λ accounts T. refl }

pub next-Shut : (t : ℕ) (T : Tables) → T.shut ≡ false → next t Shut T ≡ (shut_down T, Done)
unfolding next
next-Shut t T s = ap (λ b. if b then (T, RmFail) else (shut_down T, Done)) s

-- what F reads of a history, where it reads nothing of a request that tells nothing
module _ {A : Type 0} (F : History → Tables → A)
    (quiet : (r : Request) (h : History) (T : Tables) (a : TablesAndCode) → next r.thread r.op T ≡ a
    → TellsNothing r.op a.1
    → F (r ∷ h) T ≡ F h a.0) where
  -- of a manager that is shut, nothing
  pub all_quiet : (h : History) (T : Tables) → T.shut ≡ true → F h T ≡ F [] T
  all_quiet [] T s = refl
  all_quiet (r ∷ h) T s =
      quiet r h T (T, RmFail) (next-shut r.thread r.op T s) (error_tells r.op RmFail refl) ∙ all_quiet h T s

  -- and of any manager, the accepted requests alone
  pub accepted_read : ((T : Tables) → F [] (shut_down T) ≡ F [] T)
      → ((r : Request) (h : History) (T : Tables)
      → F (accepted h) (next r.thread r.op T).0 ≡ F h (next r.thread r.op T).0 → F (r ∷ accepted h) T ≡ F (r ∷ h) T)
      → (h : History) (T : Tables) → F (accepted h) T ≡ F h T
  accepted_read end more [] T = refl
  accepted_read end more (r ∷ h) T =
      by_bool (λ b. is_shut r.op ≡ b → F (if b then [] else r ∷ accepted h) T ≡ F (r ∷ h) T) (is_shut r.op) (λ e _.
      let is = shut_op r.op e in
      by_bool (λ _. F [] T ≡ F (r ∷ h) T) (T.shut) (λ s. sym (all_quiet (r ∷ h) T s)) (λ s.
      sym (quiet r h T (shut_down T, Done) (ap (λ (o : Op). next r.thread o T) is ∙ next-Shut r.thread T s)
      (rw is shut_tells)
      ∙ all_quiet h (shut_down T) refl
      ∙ end T))) (λ _ _. more r h T (accepted_read end more h (next r.thread r.op T).0)) refl

-- a manager that is shut leaves its tables
pub shut_stays : (h : History) (T : Tables) → T.shut ≡ true → tables_after h T ≡ T
shut_stays = all_quiet tables_after (λ r h T a e tells. ap (λ (b : TablesAndCode). tables_after h b.0) e)

-- what a Shut leaves is decided by the accepted requests
pub after_accepted : {A : Type 0} (view : Tables → A) → ((T : Tables) → view (shut_down T) ≡ view T)
    → (h : History) (T : Tables)
    → view (tables_after h T) ≡ view (tables_after (accepted h) T)
after_accepted view keeps h T =
    sym (accepted_read (λ g U. view (tables_after g U))
    (λ r g U a e tells. ap (λ (b : TablesAndCode). view (tables_after g b.0)) e) keeps (λ r g U e. e) h T)

-- nothing becomes of x by a request that tells nothing
pub fates_quiet : (x : XidName) (r : Request) (h : History) (T : Tables) (a : TablesAndCode) → next r.thread r.op T ≡ a
    → TellsNothing r.op a.1
    → fates_in x (coded (r ∷ h) T) ≡ fates_in x (coded h a.0)
fates_quiet x r h T a e tells = grind arith

-- only a Shut shuts
leaves_open : (t : ℕ) (T : Tables) {op : Op} {a : TablesAndCode} → Effect t T op a → is_shut op ≡ false
    → a.0.shut ≡ T.shut
leaves_open t T effect e = grind arith

pub stays_open : (t : ℕ) (op : Op) (T : Tables) → is_shut op ≡ false → (next t op T).0.shut ≡ T.shut
stays_open t op T = leaves_open t T (effect_of t op T)

all_refused : (h : History) (T : Tables) → T.shut ≡ true → codes h T ≡ map (λ (q : Request). RmFail) h
all_refused [] T s = refl
all_refused (r ∷ h) T s =
    ap (λ (a : TablesAndCode). a.1 ∷ codes h a.0) (next-shut r.thread r.op T s)
    ∙ ap (λ cs. RmFail ∷ cs) (all_refused h T s)

from_shut : (t : ℕ) (op : Op) (h : History) (T : Tables) → op ≡ Shut → T.shut ≡ false
    → (next t op T).1 ∷ codes h (next t op T).0 ≡ Done ∷ map (λ (q : Request). RmFail) h
from_shut t op h T is s = grind (arith, next-Shut, all_refused)

pub late_are_refused : (h : History) (T : Tables) → T.shut ≡ false → LateAreRefused h T
late_are_refused [] T s = refl
late_are_refused (r ∷ h) T s =
    grind (arith, (late_are_refused h (next r.thread r.op T).0), from_shut, shut_op, stays_open)

pub late_change_nothing : (h : History) (T : Tables) → LateChangeNothing h T
late_change_nothing h T = after_accepted shut_down (λ _. refl) h T

pub late_leave_fates : (x : XidName) (f : Fate) (h : History) (T : Tables) → fate x f h T ≡ fate_in x f (coded h T)
late_leave_fates x f h T =
    ap (last_or f)
    (accepted_read (λ g U. fates_in x (coded g U)) (fates_quiet x) (λ _. refl)
    (λ r g U e. ap (cons_option (fate_of x r.op (next r.thread r.op U).1)) e) h T)
