-- What of the tables a reopening finds is changed by few requests, each at the branch that it names: by their effects.
use Rattle.xa_base.proofs.{◌≡◌, ℕ, Bool, true, false, cond, if◌then◌else◌, Option, None, Some, List, refl, arith, sym}
use Rattle.xa_base.proofs.{ap, ◌∙◌, is_some, by_bool}
use Rattle.xa_words.specs.{XidName, xid_eq, Decides-xid_eq, Op}
use Rattle.laws_fates.proofs.ValueLaw.{get_without, get_added}
use Rattle.xa_tables.specs.{Tables, State, Active, Idle, RollbackOnly, Failed, Transient, HeuristicallyCompleted}
use Rattle.xa_tables.specs.{Association, association_of, is_association_with, TablesAndCode, next, state_of, is_S3}
use Rattle.xa_tables.specs.{is_left_in, is_left, is_prepared, is_associated, AreAssociationsLive, FindsAlike}
use Rattle.xa_tables.specs.{is_durable_at, moves_values}
use Rattle.xa_tables.proofs.Effects.{Effect, effect_of, Starts, Joins, Fails, Idles, Dooms, Adds, Prepares, Commits}
use Rattle.xa_tables.proofs.Effects.{Drops, CommitsByItself, RollsBackByItself, Forgets}
use Rattle.xa_tables.proofs.SoundLemmas.{get_put, get_gone, swap_xid, unvoted}
use Rattle.xa_tables.proofs.Reopening.{state_reopened, sums_reopened}
use Rattle.xa_tables.specs.declared.state.State.TheVariants.{Prepared as S3}
use Rattle.xa_tables.specs.declared.state.HeuristicDecision.TheVariants as decision
use Rattle.std.specs.FinMap as map

-- it finds the same of x where x has the same state and sums
same : (x : XidName) (T U : Tables) → state_of U x ≡ state_of T x
    → ((k : List ℕ) → map.get U.sums (x, k) ≡ map.get T.sums (x, k)) → FindsAlike x T U
same x T U s m = record {
  state = state_reopened U x ∙ ap (λ o. cond (is_left_in o) o None) s ∙ sym (state_reopened T x);
  sums =
      λ k. sums_reopened U x k ∙ ap (λ o. cond (is_S3 o) (map.get U.sums (x, k)) None) s
      ∙ ap (λ v. cond (is_prepared T x) v None) (m k)
      ∙ sym (sums_reopened T x k);
}

absent_not_left : (o : Option State) → is_some o ≡ false → is_left_in o ≡ false
absent_not_left o e = grind arith

-- and nothing where x is left in neither
neither : (x : XidName) (T U : Tables) → is_left T x ≡ false → is_left U x ≡ false → FindsAlike x T U
neither x T U before after = grind (arith, state_reopened, sums_reopened, unvoted)

module _ (t : ℕ) (T : Tables) (live : AreAssociationsLive T) where
  -- the branch of an association isn't left
  own_by : (o : Option Association) (y : XidName) → association_of T t ≡ o → is_association_with o y ≡ true
      → is_left T y ≡ false
  own_by None y e is = let z : false ≡ true = is in cc
  own_by (Some l) y e own = rw ((Decides-xid_eq l.xid y).0 own) at ((live t l e).1)

  own : (y : XidName) → is_associated T t y ≡ true → is_left T y ≡ false
  own y is = own_by (association_of T t) y refl is

  -- where x isn't left, nor is it afterwards, or x is another branch than the one that changed
  beside : (x y : XidName) (o : Option State) (U : Tables)
      → (xid_eq y x ≡ true → (is_left T y ≡ false) × (is_left_in o ≡ false))
      → state_of U x ≡ (if xid_eq y x then o else state_of T x)
      → (xid_eq y x ≡ false → (k : List ℕ) → map.get U.sums (x, k) ≡ map.get T.sums (x, k))
      → FindsAlike x T U
  beside x y o U here is there =
      by_bool (λ _. FindsAlike x T U) (xid_eq y x)
      (λ at.
      neither x T U (rw ((Decides-xid_eq y x).0 at) at ((here at).0))
      (ap is_left_in (is ∙ ap (λ b. if b then o else state_of T x) at) ∙ (here at).1))
      (λ off. same x T U (is ∙ ap (λ b. if b then o else state_of T x) off) (there off))

  unless : {P : Type 0} (b : Bool) → b ≡ false → b ≡ true → P
  unless true n e = cc
  unless false n e = cc

  by_effect : {op : Op} {a : TablesAndCode} → Effect t T op a → (x : XidName) → is_durable_at x op a.1 ≡ false
      → FindsAlike x T a.0
  by_effect (Starts y free fresh) x n =
      beside x y (Some Active) _ (λ _. (absent_not_left (state_of T y) fresh, refl)) (get_put T.states y x Active)
      (λ _ k. refl)
  by_effect (Joins y free there before) x n =
      beside x y (Some Active) _ (λ _. (before, refl)) (get_put T.states y x Active) (λ _ k. refl)
  by_effect (Fails y is) x n =
      beside x y (Some (RollbackOnly Failed)) _ (λ _. (own y is, refl)) (get_put T.states y x (RollbackOnly Failed))
      (λ _ k. refl)
  by_effect (Idles y is alone) x n =
      beside x y (Some Idle) _ (λ _. (own y is, refl)) (get_put T.states y x Idle) (λ _ k. refl)
  by_effect (Dooms k d l mine) x n =
      beside x l.xid (Some (RollbackOnly Transient)) _ (λ _. ((live t l mine).1, refl))
      (get_put T.states l.xid x (RollbackOnly Transient)) (λ _ k. refl)
  by_effect (Adds k d l mine known alone) x n =
      beside x l.xid (state_of T l.xid) _ (λ _. ((live t l mine).1, (live t l mine).1)) (grind (arith, Decides-xid_eq))
      (λ off k. grind (arith, get_added, Decides-xid_eq))
  by_effect (Prepares y nobody unbroken) x n =
      beside x y (Some S3) _ (λ at. unless (xid_eq y x) n at) (get_put T.states y x S3) (λ _ k. refl)
  by_effect (Commits y one_phase nobody may) x n =
      beside x y None _ (λ at. unless (xid_eq y x) n at) (get_gone T.states y x)
      (λ off k. grind (arith, get_without, swap_xid))
  by_effect (Drops op y c nobody left tells) x n =
      beside x y None _ (λ at. (grind (arith, tells.named, tells.settling), refl)) (get_gone T.states y x)
      (λ off k. grind (arith, get_without, swap_xid))
  by_effect (CommitsByItself y voted) x n =
      beside x y (Some (HeuristicallyCompleted decision.Commit)) _ (λ at. unless (xid_eq y x) n at)
      (get_put T.states y x _) (λ off k. grind (arith, get_without, swap_xid))
  by_effect (RollsBackByItself y voted) x n =
      beside x y (Some (HeuristicallyCompleted decision.Rollback)) _ (λ at. unless (xid_eq y x) n at)
      (get_put T.states y x _) (λ off k. grind (arith, get_without, swap_xid))
  by_effect (Forgets y is) x n =
      beside x y None _ (λ at. unless (xid_eq y x) n at) (get_gone T.states y x) (λ _ k. refl)
  by_effect effect x n = same x T _ refl (λ k. refl)

-- the law of branches
pub branches_law : (t : ℕ) (op : Op) (x : XidName) (T : Tables) → AreAssociationsLive T
    → is_durable_at x op (next t op T).1 ≡ false
    → FindsAlike x T (next t op T).0
branches_law t op x T live n = by_effect t T live (effect_of t op T) x n

-- and that of values
values_by : (t : ℕ) (T : Tables) {op : Op} {a : TablesAndCode} → Effect t T op a → moves_values op a.1 ≡ false
    → a.0.values ≡ T.values
values_by t T (Commits y one_phase nobody may) n = let z : true ≡ false = n in cc
values_by t T (CommitsByItself y voted) n = let z : true ≡ false = n in cc
values_by t T effect n = refl

pub values_law : (t : ℕ) (op : Op) (T : Tables) → moves_values op (next t op T).1 ≡ false
    → (next t op T).0.values ≡ T.values
values_law t op T n = values_by t T (effect_of t op T) n
