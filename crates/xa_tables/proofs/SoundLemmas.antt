-- What a step keeps of the facts on branches in S3, and of who is associated.
use Rattle.xa_base.proofs.{if◌then◌else◌, inserted_there, inserted_other, removed_there, removed_other, ◌≡◌, ◌≢◌, ℕ, ℤ}
use Rattle.xa_base.proofs.{Bool, true, false, cond, Option, None, Some, is_some, refl, arith, sym, ap, ◌∙◌, nat_cmp}
use Rattle.xa_base.proofs.{nat_cmp_total, FinMap, get-insert, get-remove, nat_cmp-IsAntisymmetric, none_pass}
use Rattle.xa_base.proofs.{none_passes, ◌||◌, or_from, or_parts, List, get-lookup, same_map, same_from_decides, lookup}
use Rattle.xa_base.proofs.{by_bool}
use Rattle.xa_words.specs.{XidName, xid_cmp, xid_eq, xid_cmp_total, xid_cmp-IsAntisymmetric, Decides-xid_eq}
use Rattle.xa_words.specs.{xid_eq-by_cmp}
use Rattle.xa_words.specs.Orders.{key_cmp}
use Rattle.xa_tables.specs.{State, Association, touch_cmp, is_broken, is_somebody_associated, is_association_with}
use Rattle.xa_tables.specs.{is_S3, is_left_in, ArePreparedSound}
use Rattle.std.specs.Cmp.{IsEquivalence}
use Rattle.std.specs.FinMap as map

abbrev pub Associations : Type 0
Associations = FinMap nat_cmp Association

abbrev pub States : Type 0
States = FinMap xid_cmp State

abbrev Sums : Type 0
Sums = FinMap touch_cmp ℤ

abbrev Values : Type 0
Values = FinMap key_cmp ℤ

pub swap_xid : (x y : XidName) → xid_eq x y ≡ xid_eq y x
swap_xid x y =
    same_from_decides _ _ (Decides-xid_eq x y)
    ((λ t. sym ((Decides-xid_eq y x).0 t)), (λ e. (Decides-xid_eq y x).1 (sym e)))

-- the state of x after y was put into s, and after y is gone
pub get_put : (m : States) (y x : XidName) (s : State)
    → map.get (map.insert m y s) x ≡ (if xid_eq y x then Some s else map.get m x)
get_put m y x s =
    get-insert xid_cmp_total m y s x ∙ ap (λ b. cond b (Some s) (map.get m x)) (sym (xid_eq-by_cmp x y) ∙ swap_xid x y)

pub get_gone : (m : States) (y x : XidName) → map.get (map.remove m y) x ≡ (if xid_eq y x then None else map.get m x)
get_gone m y x =
    get-remove xid_cmp_total m y x ∙ ap (λ b. cond b None (map.get m x)) (sym (xid_eq-by_cmp x y) ∙ swap_xid x y)

-- what a change of one branch makes of the states
pub ruleset state_rules = (get_put, get_gone, Decides-xid_eq)

put_back : (states : States) (x y : XidName) (s : State) → map.get states x ≡ Some s
    → map.get (map.insert states x s) y ≡ map.get states y
put_back states x y s is = grind (arith, state_rules)

-- a branch that is put into the state that it has
pub put_same : (states : States) (x : XidName) (s : State) → map.get states x ≡ Some s → map.insert states x s ≡ states
put_same states x s is = same_map xid_cmp_total xid_cmp-IsAntisymmetric _ _ (λ y. put_back states x y s is)

-- ---- who is associated with a branch

-- each association is with another branch than x
pub apart_from : (x : XidName) (associations : Associations) → is_somebody_associated associations x ≡ false
    → (t : ℕ) (l : Association)
    → map.get associations t ≡ Some l → xid_eq l.xid x ≡ false
apart_from x associations nobody t l found =
    none_passes nat_cmp_total nat_cmp-IsAntisymmetric (λ u k. xid_eq k.xid x) associations t l nobody found

-- and where each is, nobody is associated with x
pub nobody_with : (x : XidName) (associations : Associations)
    → ((t : ℕ) (l : Association) → map.get associations t ≡ Some l → xid_eq l.xid x ≡ false)
    → is_somebody_associated associations x ≡ false
nobody_with x associations apart =
    none_pass nat_cmp_total nat_cmp-IsAntisymmetric (λ u k. xid_eq k.xid x) associations apart

-- only t's association changes, and isn't with x
pub nobody_as : (x : XidName) (t : ℕ) (m n : Associations) → ((u : ℕ) → u ≢ t → map.get n u ≡ map.get m u)
    → ((l : Association) → map.get n t ≡ Some l → xid_eq l.xid x ≡ false) → is_somebody_associated m x ≡ false
    → is_somebody_associated n x ≡ false
nobody_as x t m n others own nobody = grind (arith, nobody_with, apart_from)

-- somebody is associated with x: t, by its association in m, or another thread, by one of n, in which t has none
pub same_false : (b c : Bool) → (b ≡ false → c ≡ false) → (c ≡ false → b ≡ false) → b ≡ c
same_false b c f g = grind arith

somebody_but : (x : XidName) (t : ℕ) (m n : Associations) → ((u : ℕ) → u ≢ t → map.get n u ≡ map.get m u)
    → map.get n t ≡ None
    → is_somebody_associated m x ≡ (is_association_with (map.get m t) x || is_somebody_associated n x)
somebody_but x t m n others none =
    same_false _ _
    (λ e. or_from _ _ (own_apart x m t e)
    (nobody_as x t m n others (λ l found. let z : None ≡ Some l = sym none ∙ found in cc) e))
    (λ e.
    let parts = or_parts (is_association_with (map.get m t) x) _ e in
    nobody_as x t n m (λ u apart. sym (others u apart))
    (λ l found. sym (ap (λ o. is_association_with o x) found) ∙ parts.0) parts.1)
  where
    own_apart : (x : XidName) (m : Associations) (t : ℕ) → is_somebody_associated m x ≡ false
        → is_association_with (map.get m t) x ≡ false
    own_apart x m t e = grind (arith, apart_from)

pub somebody_put : (x : XidName) (m : Associations) (t : ℕ) (l : Association)
    → is_somebody_associated (map.insert m t l) x ≡ (xid_eq l.xid x || is_somebody_associated (map.remove m t) x)
somebody_put x m t l =
    somebody_but x t (map.insert m t l) (map.remove m t)
    (λ u apart. removed_other m t u apart ∙ sym (inserted_other m t l u apart)) (removed_there m t)
    ∙ ap (λ o. is_association_with o x || is_somebody_associated (map.remove m t) x) (inserted_there m t l)

-- in a form in which tactics meet the associations without t's first
pub somebody_own : (x : XidName) (m : Associations) (t : ℕ)
    → (is_somebody_associated (map.remove m t) x ≡ is_somebody_associated (map.remove m t) x)
    × (is_somebody_associated m x ≡ (is_association_with (map.get m t) x || is_somebody_associated (map.remove m t) x))
somebody_own x m t = (refl, somebody_but x t m (map.remove m t) (removed_other m t) (removed_there m t))

-- what the changes of a branch and of an association leave
pub ruleset changes = (state_rules, somebody_put, somebody_own)

-- a branch that is neither prepared nor completed isn't prepared
pub unvoted : (o : Option State) → is_left_in o ≡ false → is_S3 o ≡ false
unvoted o e = grind arith

-- x is put into a state: of the branches that are prepared then, none but x changes, and all keep the values within the
-- limits
sound_changed : (states states' : States) (sums sums' : Sums) (values values' : Values) (x : XidName) (s : State)
    → states' ≡ map.insert states x s
    → (is_S3 (Some s) ≡ true → is_broken values' sums' x ≡ false)
    → ((y : XidName) → y ≢ x → is_broken values' sums' y ≡ is_broken values sums y)
    → ArePreparedSound states sums values → ArePreparedSound states' sums' values'
sound_changed states states' sums sums' values values' x s here own others sound y voted =
    let found = ap (λ m. map.get m y) here ∙ get_put states x y s in
    by_bool (λ b. xid_eq x y ≡ b → is_broken values' sums' y ≡ false) (xid_eq x y)
    (λ _ same.
    ap (λ z. is_broken values' sums' z) (sym ((Decides-xid_eq x y).0 same))
    ∙ own (sym (ap is_S3 (found ∙ ap (λ b. if b then Some s else map.get states y) same)) ∙ voted))
    (λ _ apart.
    others y (λ e. let same = (Decides-xid_eq x y).1 (sym e) in let z : false ≡ true = sym apart ∙ same in cc)
    ∙ sound y (sym (ap is_S3 (found ∙ ap (λ b. if b then Some s else map.get states y) apart)) ∙ voted)) refl

-- x is put into a state that isn't S3, and the sums and the values change of x alone
pub sound_settled : (states states' : States) (sums sums' : Sums) (values values' : Values) (x : XidName) (s : State)
    → states' ≡ map.insert states x s
    → is_S3 (Some s) ≡ false → ((y : XidName) → y ≢ x → is_broken values' sums' y ≡ is_broken values sums y)
    → ArePreparedSound states sums values → ArePreparedSound states' sums' values'
sound_settled states states' sums sums' values values' x s here unvoted others sound =
    sound_changed states states' sums sums' values values' x s here
    (λ voted. let z : true ≡ false = sym voted ∙ unvoted in cc) others sound

pub sound_put : (states states' : States) (sums : Sums) (values : Values) (x : XidName) (s : State)
    → states' ≡ map.insert states x s → is_S3 (Some s) ≡ false
    → ArePreparedSound states sums values → ArePreparedSound states' sums values
sound_put states states' sums values x s here unvoted sound =
    sound_settled states states' sums sums values values x s here unvoted (λ y apart. refl) sound

-- x is gone, and the sums and the values change of x alone
pub sound_gone : (states states' : States) (sums sums' : Sums) (values values' : Values) (x : XidName)
    → states' ≡ map.remove states x
    → ((y : XidName) → y ≢ x → is_broken values' sums' y ≡ is_broken values sums y)
    → ArePreparedSound states sums values
    → ArePreparedSound states' sums' values'
sound_gone states states' sums sums' values values' x here others sound y voted =
    let found = ap (λ m. map.get m y) here ∙ get_gone states x y in
    by_bool (λ b. xid_eq x y ≡ b → is_broken values' sums' y ≡ false) (xid_eq x y)
    (λ _ same. let z : true ≡ false = sym voted
    ∙ ap is_S3 (found ∙ ap (λ b. if b then None else map.get states y) same) in cc)
    (λ _ apart.
    others y (λ e. let same = (Decides-xid_eq x y).1 (sym e) in let z : false ≡ true = sym apart ∙ same in cc)
    ∙ sound y (sym (ap is_S3 (found ∙ ap (λ b. if b then None else map.get states y) apart)) ∙ voted)) refl

-- x becomes prepared, which keeps the values within the limits
pub sound_prepared : (states states' : States) (sums : Sums) (values : Values) (x : XidName) (s : State)
    → states' ≡ map.insert states x s
    → is_broken values sums x ≡ false → ArePreparedSound states sums values → ArePreparedSound states' sums values
sound_prepared states states' sums values x s here unbroken sound =
    sound_changed states states' sums sums values values x s here (λ voted. unbroken) (λ y apart. refl) sound

-- x isn't in S3, and stays in its state
pub sound_others : (states : States) (sums sums' : Sums) (values values' : Values) (x : XidName)
    → is_S3 (map.get states x) ≡ false
    → ((y : XidName) → y ≢ x → is_broken values' sums' y ≡ is_broken values sums y)
    → ArePreparedSound states sums values
    → ArePreparedSound states sums' values'
sound_others states sums sums' values values' x unvoted others = grind (arith, unvoted)

-- ---- xids as keys of hash maps

pub xid_eq_laws : IsEquivalence xid_eq
xid_eq_laws =
    record {
      refl = λ x. (Decides-xid_eq x x).1 refl;
      symm = swap_xid;
      congr = λ x y z e. ap (λ w. xid_eq w z) ((Decides-xid_eq x y).0 e);
    }

-- the state of a branch, as its hash map finds it
pub state_found : (es : List (XidName × State)) (x : XidName)
    → map.get (map.from_entries {R = xid_cmp} es) x ≡ lookup (xid_eq x) es
state_found = get-lookup xid_eq xid_cmp_total xid_cmp-IsAntisymmetric xid_eq-by_cmp
