-- A reopening of what a reopening has made.
use Rattle.xa_base.proofs.{◌≡◌, List, ℕ, None, Option, Bool, true, false, cond, same_map, refl, sym, ap, ◌∙◌, arith}
use Rattle.std.specs.FinSet as set
use Rattle.std.specs.FinMap as map
use Rattle.xa_words.specs.{XidName, xid_cmp_total, xid_cmp-IsAntisymmetric}
use Rattle.xa_tables.specs.{Tables, is_left, is_prepared, reopened, state_of}
use Rattle.xa_tables.proofs.AccountLemmas.{touch_cmp_total, touch_cmp-IsAntisymmetric}
use Rattle.xa_tables.proofs.Reopening.{as_left, state_reopened, sums_reopened}

-- what is kept if this holds is kept again
kept_twice : {X : Type 0} (b : Bool) (o : Option X) → cond b (cond b o None) None ≡ cond b o None
kept_twice true o = refl
kept_twice false o = refl

as_prepared : (T : Tables) (x : XidName) → is_prepared (reopened T) x ≡ is_prepared T x
as_prepared T x = grind (arith, state_reopened)

same_states : (T : Tables) (x : XidName) → state_of (reopened (reopened T)) x ≡ state_of (reopened T) x
same_states T x =
    state_reopened (reopened T) x
    ∙ ap (λ b. cond b (state_of (reopened T) x) None) (as_left T x)
    ∙ ap (λ s. cond (is_left T x) s None) (state_reopened T x)
    ∙ kept_twice (is_left T x) (state_of T x)
    ∙ sym (state_reopened T x)

same_sums : (T : Tables) (x : XidName) (k : List ℕ)
    → map.get (reopened (reopened T)).sums (x, k) ≡ map.get (reopened T).sums (x, k)
same_sums T x k =
    sums_reopened (reopened T) x k
    ∙ ap (λ b. cond b (map.get (reopened T).sums (x, k)) None) (as_prepared T x)
    ∙ ap (λ s. cond (is_prepared T x) s None) (sums_reopened T x k)
    ∙ kept_twice (is_prepared T x) (map.get T.sums (x, k))
    ∙ sym (sums_reopened T x k)

-- it changes nothing more
pub again_the_same : (T : Tables) → reopened (reopened T) ≡ reopened T
again_the_same T i = record {
  opened = set.empty;
  associations = map.empty;
  states = same_map xid_cmp_total xid_cmp-IsAntisymmetric (reopened (reopened T)).states (reopened T).states
      (same_states T) i;
  sums = same_map touch_cmp_total touch_cmp-IsAntisymmetric (reopened (reopened T)).sums (reopened T).sums
      (λ p. same_sums T p.0 p.1) i;
  values = T.values;
  shut = false;
}
