-- What a reopening leaves, and what the next opening begins with.
use Rattle.xa_base.proofs.{◌≡◌, ℕ, ℤ, Bool, true, cond, not, ◌&&◌, ◌+ℤ◌, Option, None, Some, List, [], ◌∷◌, refl, arith}
use Rattle.xa_base.proofs.{sym, ap, ◌∙◌, get-empty, none_pass, none_passes, ◌++◌, get-retain_keys}
use Rattle.xa_words.specs.{XidName, xid_cmp, xid_eq, xid_cmp-IsAntisymmetric}
use Rattle.xa_tables.specs.{State, Touch, touch_cmp, state_of, is_S3, is_left_in, is_left, is_prepared, is_within}
use Rattle.xa_tables.specs.{value_of, ArePreparedSound, opening, tables_after, IsNew, IsOpening, AreLeft, reopened}
use Rattle.xa_tables.specs.{left_by, Tables, History}
use Rattle.xa_tables.proofs.AccountLemmas.{touch_cmp_total, touch_cmp-IsAntisymmetric}
use Rattle.std.specs.FinMap as map

pub state_reopened : (T : Tables) (x : XidName) → state_of (reopened T) x ≡ cond (is_left T x) (state_of T x) None
state_reopened T x =
    get-retain_keys T.states (λ y. is_left T y) x (λ y e. ap (λ z. is_left T z) (sym (xid_cmp-IsAntisymmetric x y e)))

pub sums_reopened : (T : Tables) (x : XidName) (k : List ℕ)
    → map.get (reopened T).sums (x, k) ≡ cond (is_prepared T x) (map.get T.sums (x, k)) None
sums_reopened T x k =
    get-retain_keys T.sums (λ p. is_prepared T p.0) (x, k)
    (λ q e. ap (λ (r : Touch). is_prepared T r.0) (sym (touch_cmp-IsAntisymmetric (x, k) q e)))

prepared_stays : (o : Option State) → is_S3 (cond (is_left_in o) o None) ≡ is_S3 o
prepared_stays o = grind arith

pub as_left : (T : Tables) (x : XidName) → is_left (reopened T) x ≡ is_left T x
as_left T x = search (arith, state_reopened)

pub reopens : (T : Tables) → IsOpening (reopened T)
reopens T = grind (arith, as_left, state_reopened, sums_reopened, prepared_stays)

-- a first opening is one
pub new_opens : (T : Tables) → IsNew T → IsOpening T
new_opens T n = record {
  opened = n.opened;
  associations = n.associations;
  shut = n.shut;
  left = λ x s is. let none : state_of T x ≡ None = ap (λ m. map.get m x) n.states
      ∙ get-empty xid_cmp x in let z : None ≡ Some s = sym none ∙ is in cc;
  sums = λ x k unprepared. ap (λ m. map.get m (x, k)) n.sums ∙ get-empty touch_cmp (x, k);
}

pub accounts_new : (accounts : List (List ℕ × ℕ)) → IsNew (opening accounts)
accounts_new accounts = record { opened = refl; associations = refl; states = refl; sums = refl; shut = refl }

pub left_opens : (before : List History) (T : Tables) → IsOpening T → IsOpening (left_by before T)
left_opens [] T o = o
left_opens (h ∷ hs) T o = left_opens hs (reopened (tables_after h T)) (reopens (tables_after h T))

pub same_left : (xs : List XidName) (T : Tables) → AreLeft xs T → AreLeft xs (reopened T)
same_left xs T l = record { rising = l.rising; once = l.once; each = λ x. l.each x ∙ sym (as_left T x) }

-- the prepared branches still keep the values within the limits
pub sound_reopened : (T : Tables) → ArePreparedSound T.states T.sums T.values
    → ArePreparedSound (reopened T).states (reopened T).sums T.values
sound_reopened T sound x voted =
    let before : is_prepared T x ≡ true =
    sym (prepared_stays (state_of T x)) ∙ ap is_S3 (sym (state_reopened T x)) ∙ voted in
    let breaks : Touch → ℤ → Bool = λ p s. xid_eq p.0 x && not (is_within (value_of T.values p.1 +ℤ s)) in
    none_pass touch_cmp_total touch_cmp-IsAntisymmetric breaks (reopened T).sums (λ p s found.
    none_passes touch_cmp_total touch_cmp-IsAntisymmetric breaks T.sums p s (sound x before)
    (from_kept (is_prepared T p.0) (map.get T.sums p) s (sym (sums_reopened T p.0 p.1) ∙ found)))
  where
    from_kept : (b : Bool) (o : Option ℤ) (s : ℤ) → cond b o None ≡ Some s → o ≡ Some s
    from_kept b o s e = grind arith

-- what an opening leaves after the ones before it
pub left_on : (before : List History) (h : History) (T : Tables)
    → left_by (before ++ h ∷ []) T ≡ reopened (tables_after h (left_by before T))
left_on [] h T = refl
left_on (g ∷ gs) h T = left_on gs h (reopened (tables_after g T))
