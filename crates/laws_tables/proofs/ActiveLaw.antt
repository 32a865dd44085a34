-- A branch is active exactly while somebody is associated with it.
use Rattle.xa_base.proofs.{◌≡◌, ℕ, Bool, false, not, ◌&&◌, Option, [], ◌∷◌, arith, ◌||◌}
use Rattle.xa_words.specs.{XidName, Op}
use Rattle.xa_tables.proofs.Soundness.{opening_free}
use Rattle.xa_tables.proofs.SoundLemmas.{changes}
use Rattle.xa_tables.specs.{gone, TablesAndCode, next, tables_after, Tables, History, State, state_of, is_S3, is_S5}
use Rattle.xa_tables.specs.{IsOpening, is_S1, is_S4, is_somebody_associated, ActiveWhileAssociated}
use Rattle.xa_tables.proofs.Effects.{Effect, Forgets, effect_of, Starts, Joins, Resumes, Suspends, Leaves, Idles, Fails}
use Rattle.xa_tables.proofs.Effects.{Prepares, Commits, Drops, CommitsByItself, RollsBackByItself}
use Rattle.std.specs.FinMap as map

-- unless it can only be rolled back, a branch is active exactly while somebody is associated with it
record WorksWhile (T : Tables) : Type 0 where
  active : (x : XidName) → is_S4 (state_of T x) ≡ false → is_S1 (state_of T x) ≡ is_somebody_associated T.associations x

works_without : (T : Tables) (y : XidName) → WorksWhile T → is_somebody_associated T.associations y ≡ false
    → WorksWhile (gone y T)
works_without T y w nobody = grind (arith, changes)

works_by : (t : ℕ) (T : Tables) {op : Op} {a : TablesAndCode} → WorksWhile T → Effect t T op a → WorksWhile a.0
works_by t T w (Starts y free fresh) = grind (arith, changes)
works_by t T w (Joins y free there unprepared) = grind (arith, changes)
works_by t T w (Resumes y own) = grind (arith, changes)
works_by t T w (Suspends y own) = grind (arith, changes)
works_by t T w (Leaves y how c own why) = grind (arith, changes)
works_by t T w (Idles y own alone) = grind (arith, changes)
works_by t T w (Fails y own) = grind (arith, changes)
works_by t T w (Prepares y nobody unbroken) = grind (arith, changes)
works_by t T w (Commits y one_phase nobody may) = grind (arith, changes)
works_by t T w (Drops op y c nobody left tells) = works_without T y w nobody
works_by t T w (CommitsByItself y voted) = grind (arith, changes)
works_by t T w (RollsBackByItself y voted) = grind (arith, changes)
works_by t T w (Forgets y is) = grind (arith, changes)
works_by t T w effect = grind (arith, changes)

run_working : (h : History) (T : Tables) → WorksWhile T → WorksWhile (tables_after h T)
run_working [] T w = w
run_working (r ∷ h) T w = run_working h (next r.thread r.op T).0 (works_by r.thread T w (effect_of r.thread r.op T))

opening_working : (T : Tables) → IsOpening T → WorksWhile T
opening_working T o = grind (arith, opening_free)

conclude : (o : Option State) (b : Bool) → (is_S4 o ≡ false → is_S1 o ≡ b)
    → is_S1 o ≡ (b && not (is_S3 o || (is_S4 o || is_S5 o)))
conclude o b active = grind arith

pub active_law : (h : History) (x : XidName) (T : Tables) → IsOpening T → ActiveWhileAssociated x h T
active_law h x T o = conclude _ _ ((run_working h T (opening_working T o)).active x)
