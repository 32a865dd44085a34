-- Over any openings of a manager a key's value is what was added to it by branches that commit.
use Rattle.xa_base.proofs.{rules, ◌≡◌, ℕ, ℤ, Bool, true, false, cond, ◌+ℤ◌, Option, None, Some, List, [], ◌∷◌, refl}
use Rattle.xa_base.proofs.{arith, sym, ap, ◌∙◌, get-empty, if◌then◌else◌, pos, option_map, ◌++◌, or-false, ints, map}
use Rattle.xa_base.proofs.{is_some, unwrap_or, +ℤ_idr as plus_none}
use Rattle.xa_words.specs.{XidName}
use Rattle.xa_tables.proofs.Soundness.{opening_sound}
use Rattle.laws_fates.proofs.ShutLaw.{after_accepted}
use Rattle.laws_fates.proofs.FateLaw.{first_law, kept_law, reopened_law}
use Rattle.laws_fates.proofs.ValueLaw.{Held, IsPending, due, value_moved, declared_on, value_run, Clean, run_clean}
use Rattle.laws_fates.proofs.ValueLaw.{opening_clean}
use Rattle.xa_tables.proofs.Reopening.{left_on, new_opens, reopens, sums_reopened}
use Rattle.xa_tables.specs.{touch_cmp, is_prepared, value_of, tables_after, IsNew, IsOpening, reopened, left_by, Tables}
use Rattle.xa_tables.specs.{History, Fate, Absent, fate, accepted, IsFateOf, reopened_fate, coded, commits_later}
use Rattle.xa_tables.specs.{is_declared, commits_over, added_over, value_over, ValueIsSum}
use Rattle.std.specs.FinMap as map

-- ---- a reopening

-- the tables tell the fate of each branch
abbrev Tell : (XidName → Fate) → Tables → Type 0
Tell F T = (x : XidName) → IsFateOf x (F x) T

-- the fates after an opening, and as the next begins
abbrev ended : (XidName → Fate) → History → Tables → XidName → Fate
ended F h T x = fate x (F x) h T

abbrev begun : (XidName → Fate) → XidName → Fate
begun F x = reopened_fate (F x)

-- who has touched the key after a reopening
left_held : Tables → Held → Held
left_held T None = None
left_held T (Some p) = if is_prepared T p.0 then Some p else None

pending_left : (k : List ℕ) (p : Held) (T : Tables) → IsPending k p T.sums
    → IsPending k (left_held T p) (reopened T).sums
unfolding left_held
pending_left k None T h =
    λ x. sums_reopened T x k
    ∙ elim (is_prepared T x) as (λ b. cond b (map.get T.sums (x, k)) None ≡ None) [ true ↦ h x | false ↦ refl ]
pending_left k (Some p) T h = grind (arith, sums_reopened)

none_due : (p : Held) → due p (λ x. false) ≡ pos 0
none_due p = grind arith

-- who commits from the beginning of an opening on, where F has the fates then
abbrev from_start : (XidName → Fate) → History → List History → Tables → XidName → Bool
from_start F h hs T x = commits_later (commits_over x (ended F h T x) hs (tables_after h T)) x (coded (accepted h) T)

-- what is due after an opening is due as the next begins
due_over : (k : List ℕ) (G : XidName → Fate) (g : History) (gs : List History) (T : Tables) (p : Held) → Clean T
    → Tell G T → IsPending k p T.sums
    → due p (λ x. commits_over x (G x) (g ∷ gs) T) ≡ due (left_held T p) (from_start (begun G) g gs (reopened T))
unfolding left_held
due_over k G g gs T p n s h = search (arith, or-false)

-- ---- openings one after another

-- they leave declared what was
declared_over : (hs : List History) (k : List ℕ) (T : Tables) → is_declared (left_by hs T) k ≡ is_declared T k
declared_over [] k T = refl
declared_over (h ∷ hs) k T = declared_over hs k (reopened (tables_after h T)) ∙ declared_on h k T

-- the value after openings, with what is due to the branch that has touched the key as the first of them begins
value_left : (h : History) (hs : List History) (k : List ℕ) (p : Held) (F : XidName → Fate) (T : Tables) → IsOpening T
    → Tell F T → IsPending k p T.sums
    → is_declared T k ≡ true
    → value_of (left_by (h ∷ hs) T).values k ≡ value_of T.values k +ℤ
    (due p (from_start F h hs T) +ℤ added_over k F (h ∷ hs) T)
value_left h [] k p F T o told pending known =
    let r = value_run (accepted h) k p (λ x. commits_over x (ended F h T x) [] (tables_after h T)) T pending in
    omega (
      arith,
      ints,
      after_accepted (λ (U : Tables). value_of U.values k) (λ _. refl) h T,
      value_moved (accepted h) k T
          known,
      r.owes,
      none_due r.held,
    )
value_left h (g ∷ gs) k p F T o told pending known =
    let U : Tables = tables_after h T in
    let G : XidName → Fate = ended F h T in
    let r = value_run (accepted h) k p (λ x. commits_over x (G x) (g ∷ gs) U) T pending in
    let here : IsPending k r.held U.sums =
    rw (← after_accepted (λ (W : Tables). W.sums) (λ _. refl) h T) at r.pending in
    let clean : Clean U = run_clean h T (opening_sound T o) (opening_clean T o) in
    let told_now : Tell G U = λ x. kept_law h x (F x) T o (told x) in
    let rest =
    value_left g gs k (left_held U r.held) (begun G) (reopened U) (reopens U) (λ x. reopened_law x (G x) U (told_now x))
    (pending_left k r.held U here) (declared_on h k T ∙ known) in
    omega (
      arith,
      ints,
      rest,
      after_accepted (λ (W : Tables). value_of W.values k) (λ _. refl) h T,
      value_moved
          (accepted h) k T known,
      r.owes,
      due_over k G g gs U r.held clean told_now here,
    )

as_moved : (old new : Option ℤ) (m : ℤ) → is_some new ≡ is_some old
    → (is_some old ≡ true → unwrap_or new (pos 0) ≡ unwrap_or old (pos 0) +ℤ m)
    → new ≡ option_map (λ v. v +ℤ m) old
as_moved old new m keys values = grind (arith, plus_none)

from_first : (hs : List History) (k : List ℕ) (T : Tables) → IsNew T
    → map.get (left_by hs T).values k ≡ value_over k hs T
from_first [] k T o = search (arith, rules)
from_first (h ∷ hs) k T n =
    as_moved (map.get T.values k) (map.get (left_by (h ∷ hs) T).values k) (added_over k (λ x. Absent) (h ∷ hs) T)
    (declared_over (h ∷ hs) k T) (λ known.
    let z =
    value_left h hs k None (λ x. Absent) T (new_opens T n) (λ x. first_law x T n)
    (λ x. ap (λ m. map.get m (x, k)) n.sums ∙ get-empty touch_cmp (x, k)) known in
    omega (arith, ints, z))

pub sum_law : (before : List History) (h : History) (k : List ℕ) (T : Tables) → IsNew T → ValueIsSum k before h T
sum_law before h k T n =
    sym (ap (λ (U : Tables). map.get U.values k) (left_on before h T)) ∙ from_first (before ++ h ∷ []) k T n
