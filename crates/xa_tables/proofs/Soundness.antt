-- Nobody is associated with a branch that isn't at work, whatever is requested.
use Rattle.xa_tables.specs.{Tables, TablesAndCode, next, State, Active, Idle, RollbackOnly, HeuristicallyCompleted}
use Rattle.xa_tables.specs.{Failed, Transient, is_S3, is_S5, is_prepared, Association, AssociationState, Associated}
use Rattle.xa_tables.specs.{Suspended, association, association_of, with_association, associated, stated, state_of}
use Rattle.xa_tables.specs.{is_association_with, is_associated, is_somebody_associated, IsOpening, AreAssociationsLive}
use Rattle.xa_words.specs.{XidName, xid_eq, Op, Decides-xid_eq}
use Rattle.xa_tables.proofs.Effects.{Effect, effect_of, Stays, Shuts, Opens, Closes, Starts, Joins, Resumes, Suspends}
use Rattle.xa_tables.proofs.Effects.{Leaves, Fails, Idles, Dooms, Adds, Prepares, Commits, Drops, CommitsByItself}
use Rattle.xa_tables.proofs.Effects.{RollsBackByItself, Forgets}
use Rattle.xa_base.proofs.{◌≡◌, ℕ, true, false, refl, arith, sym, ap, ◌∙◌, ◌≢◌, ◌||◌, Option, None, Some, is_some}
use Rattle.xa_base.proofs.{get-empty, nat_cmp, or_from, or_parts, false_from_ne_true, by_bool, if◌then◌else◌}
use Rattle.xa_words.proofs.Xids.{xid_self}
use Rattle.xa_tables.specs.declared.state.State.TheVariants.{Prepared as S3}
pub use Rattle.xa_tables.proofs.SoundLemmas.{swap_xid, get_put, get_gone}
use Rattle.xa_tables.proofs.SoundLemmas.{Associations, States, apart_from, nobody_with, somebody_put, somebody_own}
use Rattle.std.specs.FinMap as map
use Rattle.xa_tables.specs.declared.state.HeuristicDecision.TheVariants as decision

-- how a branch stands
pub data Standing : Type 0 where
  Nowhere : Standing
  AtWork : Standing
  Voted : Standing

abbrev pub standing : Option State → Standing
standing None = Nowhere
standing (Some Active) = AtWork
standing (Some Idle) = AtWork
standing (Some S3) = Voted
standing (Some (RollbackOnly reason)) = AtWork
standing (Some (HeuristicallyCompleted decision)) = Nowhere

-- a branch is at work that exists and is in neither S3 nor S5
pub works : (o : Option State) → is_some o ≡ true → (is_S3 o || is_S5 o) ≡ false → standing o ≡ AtWork
works o some e = grind arith

pub working : (o : Option State) → standing o ≡ AtWork → (is_some o ≡ true) × (is_S3 o ≡ false) × (is_S5 o ≡ false)
working o e = grind arith

-- a branch in S3, and one in S5, isn't
pub voted_rests : (o : Option State) → is_S3 o ≡ true → standing o ≢ AtWork
voted_rests o e = grind arith

completed_rests : (o : Option State) → is_S5 o ≡ true → standing o ≢ AtWork
completed_rests o e = grind arith

-- ---- what each request keeps

-- nobody is associated with a branch that isn't at work
pub record Sound (T : Tables) : Type 0 where
  pub rests : (x : XidName) → standing (state_of T x) ≢ AtWork → is_somebody_associated T.associations x ≡ false

-- so the branch of each association is at work
pub associated_works : (T : Tables) → Sound T → (t : ℕ) (l : Association) → association_of T t ≡ Some l
    → standing (state_of T l.xid) ≡ AtWork
associated_works T s t l found =
    by_standing (standing (state_of T l.xid)) (λ rests.
    let apart = apart_from l.xid T.associations (s.rests l.xid rests) t l found in let own = xid_self l.xid in cc)
  where
    by_standing : (p : Standing) → (p ≢ AtWork → ⊥) → p ≡ AtWork
    by_standing AtWork not = refl
    by_standing p not = absurd (not (λ e. cc))

-- and that of the association that t has with y
pub own_works : (T : Tables) → Sound T → (t : ℕ) (y : XidName) → is_associated T t y ≡ true
    → standing (state_of T y) ≡ AtWork
own_works T s t y own = by_association (association_of T t) refl own
  where
    by_association : (o : Option Association) → association_of T t ≡ o → is_association_with o y ≡ true
        → standing (state_of T y) ≡ AtWork
    by_association None is with = let z : false ≡ true = with in cc
    by_association (Some l) is with =
        ap (λ x. standing (state_of T x)) (sym ((Decides-xid_eq l.xid y).0 with)) ∙ associated_works T s t l is

-- another branch than y has the state that it had, once y was put into one, and once y is gone
put_other : (states : States) (y x : XidName) (s : State) → xid_eq y x ≡ false
    → map.get (map.insert states y s) x ≡ map.get states x
put_other states y x s apart = get_put states y x s ∙ ap (λ b. if b then Some s else map.get states x) apart

gone_other : (states : States) (y x : XidName) → xid_eq y x ≡ false → map.get (map.remove states y) x ≡ map.get states x
gone_other states y x apart = get_gone states y x ∙ ap (λ b. if b then None else map.get states x) apart

put_own : (states : States) (y : XidName) (s : State) → map.get (map.insert states y s) y ≡ Some s
put_own states y s = get_put states y y s ∙ ap (λ b. if b then Some s else map.get states y) (xid_self y)

-- nobody becomes associated with x by an association that goes, or by one with another branch
fewer : (x : XidName) (m : Associations) (t : ℕ) → is_somebody_associated m x ≡ false
    → is_somebody_associated (map.remove m t) x ≡ false
fewer x m t nobody = (or_parts _ _ (sym (somebody_own x m t).1 ∙ nobody)).1

joined_other : (x : XidName) (m : Associations) (t : ℕ) (l : Association) → xid_eq l.xid x ≡ false
    → is_somebody_associated m x ≡ false
    → is_somebody_associated (map.insert m t l) x ≡ false
joined_other x m t l apart nobody = somebody_put x m t l ∙ or_from _ _ apart (fewer x m t nobody)

-- at most the branch y changes from T to U: nobody is associated with it unless it is at work, and nobody becomes
-- associated with another
record Changes (y : XidName) (T U : Tables) : Type 0 where
  own : standing (state_of U y) ≢ AtWork → is_somebody_associated U.associations y ≡ false
  states : (x : XidName) → xid_eq y x ≡ false → state_of U x ≡ state_of T x
  others : (x : XidName) → xid_eq y x ≡ false → is_somebody_associated T.associations x ≡ false
      → is_somebody_associated U.associations x ≡ false

sound_changed : (y : XidName) (T U : Tables) → Sound T → Changes y T U → Sound U
sound_changed y T U s c = record {
  rests = λ x rests.
      by_bool (λ b. xid_eq y x ≡ b → is_somebody_associated U.associations x ≡ false) (xid_eq y x)
      (λ _ same. (rw ((Decides-xid_eq y x).0 same) at c.own) rests)
      (λ _ apart. c.others x apart (s.rests x (λ e. rests (ap standing (c.states x apart) ∙ e)))) refl;
}

module _ (t : ℕ) (T : Tables) (s : Sound T) where
  -- y is put into a state in which it is at work
  at_work : (y : XidName) (state : State) (U : Tables) → standing (Some state) ≡ AtWork
      → U.states ≡ map.insert T.states y state
      → ((x : XidName) → xid_eq y x ≡ false → is_somebody_associated T.associations x ≡ false
      → is_somebody_associated U.associations x ≡ false) → Sound U
  at_work y state U works put others = sound_changed y T U s (record {
    own = λ rests. absurd
        (rests (ap (λ m. standing (map.get m y)) put ∙ ap standing (put_own T.states y state) ∙ works));
    states = λ x apart. ap (λ m. map.get m x) put ∙ put_other T.states y x state apart;
    others = others;
  })

  -- t is associated with y, which is at work
  begins : (y : XidName) → Sound (associated t y (stated y Active T))
  begins y = at_work y Active _ refl refl (λ x. joined_other x T.associations t (association y Associated))

  -- t has another association with its own branch
  goes_on : (y : XidName) (state : AssociationState) → is_associated T t y ≡ true
      → Sound (with_association t (association y state) T)
  goes_on y state own = sound_changed y T _ s (record {
    own = λ rests. absurd (rests (own_works T s t y own));
    states = λ x apart. refl;
    others = λ x. joined_other x T.associations t (association y state);
  })

  -- the states and the associations change of y at most, with which nobody is associated
  alone : (y : XidName) (U : Tables) → is_somebody_associated T.associations y ≡ false → U.associations ≡ T.associations
      → ((x : XidName) → xid_eq y x ≡ false → state_of U x ≡ state_of T x) → Sound U
  alone y U nobody same states = sound_changed y T U s (record {
    own = λ rests. ap (λ m. is_somebody_associated m y) same ∙ nobody;
    states = states;
    others = λ x apart e. ap (λ m. is_somebody_associated m x) same ∙ e;
  })

  -- nobody is associated with a prepared branch, nor with a completed one
  voted_alone : (y : XidName) → is_prepared T y ≡ true → is_somebody_associated T.associations y ≡ false
  voted_alone y voted = s.rests y (voted_rests (state_of T y) voted)

  sound_by : {op : Op} {a : TablesAndCode} → Effect t T op a → Sound a.0
  sound_by (Stays op c tells) = s
  sound_by Shuts = record { rests = s.rests }
  sound_by Opens = record { rests = s.rests }
  sound_by Closes = record { rests = s.rests }
  sound_by (Starts y free new) = begins y
  sound_by (Joins y free there unleft) = begins y
  sound_by (Resumes y own) = goes_on y Associated own
  sound_by (Suspends y own) = goes_on y Suspended own
  sound_by (Leaves y how c own stays) = record { rests = λ x rests. fewer x T.associations t (s.rests x rests) }
  sound_by (Fails y own) = at_work y (RollbackOnly Failed) _ refl refl (λ x apart. fewer x T.associations t)
  sound_by (Idles y own nobody) = at_work y Idle _ refl refl (λ x apart. fewer x T.associations t)
  sound_by (Dooms k d l is) = at_work l.xid (RollbackOnly Transient) _ refl refl (λ x apart e. e)
  sound_by (Adds k d l is declared own) = record { rests = s.rests }
  sound_by (Prepares y nobody unbroken) = alone y _ nobody refl (λ x. put_other T.states y x S3)
  sound_by (Commits y one_phase nobody may) = alone y _ nobody refl (λ x. gone_other T.states y x)
  sound_by (Drops op y c nobody left tells) = alone y _ nobody refl (λ x. gone_other T.states y x)
  sound_by (CommitsByItself y voted) =
      alone y _ (voted_alone y voted) refl (λ x. put_other T.states y x (HeuristicallyCompleted decision.Commit))
  sound_by (RollsBackByItself y voted) =
      alone y _ (voted_alone y voted) refl (λ x. put_other T.states y x (HeuristicallyCompleted decision.Rollback))
  sound_by (Forgets y is) =
      alone y _ (s.rests y (completed_rests (state_of T y) is)) refl (λ x. gone_other T.states y x)

pub sound_after : (t : ℕ) (op : Op) (T : Tables) → Sound T → Sound (next t op T).0
sound_after t op T s = sound_by t T s (effect_of t op T)

-- nobody is associated with a branch as an opening begins
pub opening_free : (x : XidName) (T : Tables) → IsOpening T → is_somebody_associated T.associations x ≡ false
opening_free x T o =
    ap (λ m. is_somebody_associated m x) o.associations
    ∙ nobody_with x map.empty (λ u l found. let z : None ≡ Some l = sym (get-empty nat_cmp u) ∙ found in cc)

pub opening_sound : (T : Tables) → IsOpening T → Sound T
opening_sound T o = record { rests = λ x r. opening_free x T o }

-- ---- the branches of the associations

sound_live : (T : Tables) → Sound T → AreAssociationsLive T
sound_live T s t l found =
    let w = working (state_of T l.xid) (associated_works T s t l found) in (w.0, or_from _ _ w.1 w.2)

-- a request leaves each association with a branch that exists and is neither prepared nor completed
pub live_after : (t : ℕ) (op : Op) (T : Tables) → AreAssociationsLive T → AreAssociationsLive (next t op T).0
live_after t op T live =
    let sound : Sound T = record {
      rests = λ x rests. nobody_with x T.associations (λ u l found.
          let there = live u l found in
          false_from_ne_true _ (λ e.
          rests
          (ap (λ y. standing (state_of T y)) (sym ((Decides-xid_eq l.xid x).0 e))
          ∙ works (state_of T l.xid) there.0 there.1)));
    } in
    sound_live (next t op T).0 (sound_after t op T sound)

-- and an opening begins with no association
pub live_opening : (T : Tables) → IsOpening T → AreAssociationsLive T
live_opening T o = sound_live T (opening_sound T o)
