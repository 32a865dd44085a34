-- What a request changes of what the file has to have.
use Rattle.xa_base.proofs.{◌≡◌, ◌⊎◌, inl, inr, ℕ, Bool, true, false, if◌then◌else◌, None, List, [], ◌∷◌, refl, arith}
use Rattle.xa_base.proofs.{sym, ap, ◌∙◌, list_any, ◌&&◌, ◌||◌, is_some, by_bool, is_missing}
use Rattle.std.specs.FinMap as map
use Rattle.xa_words.specs.{XidName, xid_eq, Decides-xid_eq, Op, Code, Request, is_done}
use Rattle.xa_tables.specs.{Tables, TablesAndCode, next, state_of, is_left, is_left_in, reopened, AreAssociationsLive}
use Rattle.xa_tables.specs.{FindsAlike, is_durable_at, is_settling, moves_values, names}
use Rattle.xa_tables.proofs.Effects.{Effect, effect_of, Stays, Commits, Drops, Forgets}
use Rattle.xa_tables.proofs.SoundLemmas.{get_gone, unvoted}
use Rattle.xa_tables.proofs.Reopening.{state_reopened, sums_reopened}
use Rattle.laws_tables.proofs.DurableLaw.{branches_law, values_law}
use Rattle.laws_fates.proofs.ValueLaw.{declared_on}
use Rattle.xa_store_sqlite.proofs.Writing.{both_off}
use Rattle.xa_store_sqlite.specs.{HasAllBut, HasOf, Image, is_removing, state_in}

-- of a branch that wasn't left, a reopening finds nothing once it is gone, or stays as it was
gone_alike : (x y : XidName) (T U : Tables) → is_left T x ≡ false
    → state_of U x ≡ (if xid_eq y x then None else state_of T x) → FindsAlike x T U
gone_alike x y T U before is =
    let after : is_left U x ≡ false = go (xid_eq y x) is in
    grind (arith, state_reopened, sums_reopened, unvoted)
  where
    go : (b : Bool) → state_of U x ≡ (if b then None else state_of T x) → is_left U x ≡ false
    go true e = ap is_left_in e
    go false e = ap is_left_in e ∙ before

-- a request that removes a branch leaves nothing of one that wasn't left
module _ (t : ℕ) (T : Tables) (x : XidName) (before : is_left T x ≡ false) where
  removed_by : {op : Op} {a : TablesAndCode} → Effect t T op a → is_removing op ≡ true → FindsAlike x T a.0
  removed_by (Stays op c tells) r = record { state = refl; sums = λ k. refl }
  removed_by (Commits y one_phase nobody may) r = gone_alike x y T _ before (get_gone T.states y x)
  removed_by (Drops op y c nobody left tells) r = gone_alike x y T _ before (get_gone T.states y x)
  removed_by (Forgets y is) r = gone_alike x y T _ before (get_gone T.states y x)
  removed_by effect r = let z : false ≡ true = r in cc

-- what the file has of a branch goes on to be right
has_on : (x : XidName) (image : Image) (T U : Tables) → HasOf x image T → FindsAlike x T U → HasOf x image U
has_on x image T U h f = record { state = h.state ∙ sym f.state; sums = λ k. h.sums k ∙ sym (f.sums k) }

not_left : (x : XidName) (T : Tables) → state_of (reopened T) x ≡ None → is_left T x ≡ false
not_left x T none = grind (arith, state_reopened)

pub told_on : (told later : List XidName) (moved then_moved : Bool) (image : Image) (r : Request) (T : Tables)
    → AreAssociationsLive T
    → HasAllBut told moved image T
    → ((x : XidName) → list_any (xid_eq x) later ≡ false
    → (list_any (xid_eq x) told ≡ false)
    × ((is_durable_at x r.op (next r.thread r.op T).1 ≡ false) ⊎
    ((is_removing r.op ≡ true) × (state_in image x ≡ None))))
    → (then_moved ≡ false → (moved ≡ false) × (moves_values r.op (next r.thread r.op T).1 ≡ false))
    → HasAllBut later then_moved image (next r.thread r.op T).0
told_on told later moved then_moved image r T live h each still = record {
  branches = λ x off. let e = each x off in branch x (h.branches x e.0) e.1;
  keys = λ k. h.keys k ∙ sym (declared_on (r ∷ []) k T);
  values = λ none k. h.values (still none).0 k
      ∙ sym (ap (λ values. map.get values k) (values_law r.thread r.op T (still none).1));
}
  where
    branch : (x : XidName) → HasOf x image T
        → (is_durable_at x r.op (next r.thread r.op T).1 ≡ false) ⊎
        ((is_removing r.op ≡ true) × (state_in image x ≡ None))
        → HasOf x image (next r.thread r.op T).0
    branch x has (inl n) = has_on x image T _ has (branches_law r.thread r.op x T live n)
    branch x has (inr e) =
        has_on x image T _ has
        (removed_by r.thread T x (not_left x T (sym has.state ∙ e.1)) (effect_of r.thread r.op T) e.0)

-- ---- what is remembered of a request

pub absent_or_other : (y x : XidName) (image : Image) → is_some (state_in image y) ≡ false
    → (xid_eq y x ≡ false) ⊎ (state_in image x ≡ None)
absent_or_other y x image none =
    by_bool (λ _. (xid_eq y x ≡ false) ⊎ (state_in image x ≡ None)) (xid_eq y x)
    (λ at. inr (ap (λ z. state_in image z) (sym ((Decides-xid_eq y x).0 at)) ∙ is_missing _ none)) (λ off. inl off)

pub undone_durable : (x : XidName) (op : Op) (d : Code) → is_done d ≡ false → is_durable_at x op d ≡ false
undone_durable x op d e = ap (λ b. b && (is_settling op && names x op)) e

other_durable : (d : Code) (b : Bool) → b ≡ false → (is_done d && b) ≡ false
other_durable d b e = grind arith

pub durable_or : (x : XidName) (op : Op) (d : Code) {Q : Type 0} → ((is_settling op && names x op) ≡ false) ⊎ Q
    → (is_durable_at x op d ≡ false) ⊎ Q
durable_or x op d (inl n) = inl (other_durable d (is_settling op && names x op) n)
durable_or x op d (inr q) = inr q

-- the same with the code that the request was answered
pub told_so : (told later : List XidName) (moved then_moved : Bool) (image : Image) (r : Request) (code : Code)
    (T : Tables)
    → AreAssociationsLive T
    → code ≡ (next r.thread r.op T).1 → HasAllBut told moved image T
    → ((x : XidName) → list_any (xid_eq x) later ≡ false
    → (list_any (xid_eq x) told ≡ false)
    × ((is_durable_at x r.op code ≡ false) ⊎ ((is_removing r.op ≡ true) × (state_in image x ≡ None))))
    → then_moved ≡ (moved || moves_values r.op code)
    → HasAllBut later then_moved image (next r.thread r.op T).0
told_so told later moved then_moved image r code T live coded h each so =
    told_on told later moved then_moved image r T live h
    (λ x off. let e = each x off in (e.0, with_code x e.1))
    (λ none. let both = both_off moved (moves_values r.op code) (sym so ∙ none) in
    (both.0, sym (ap (moves_values r.op) coded) ∙ both.1))
  where
    with_code : (x : XidName)
        → (is_durable_at x r.op code ≡ false) ⊎ ((is_removing r.op ≡ true) × (state_in image x ≡ None))
        → (is_durable_at x r.op (next r.thread r.op T).1 ≡ false) ⊎
        ((is_removing r.op ≡ true) × (state_in image x ≡ None))
    with_code x (inl n) = inl (sym (ap (is_durable_at x r.op) coded) ∙ n)
    with_code x (inr e) = inr e
