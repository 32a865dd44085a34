-- What a settle writes is what a reopening of the tables finds.
use Rattle.xa_base.proofs.{◌≡◌, ℕ, ℤ, Bool, true, false, cond, ◌||◌, List, [], ◌∷◌, ◌++◌, Option, None, Some, is_some}
use Rattle.xa_base.proofs.{lookup, list_any, refl, ap, sym, ◌∙◌, arith, by_bool, or-false, is_missing, IsDistinct, ◌⊎◌}
use Rattle.xa_base.proofs.{inl, inr, subst, or_from, or-true, append_assoc, at_mid, append-nil, IsDistinct-head}
use Rattle.xa_base.proofs.{IsDistinct-tail, Bor, map, map-append}
use Rattle.std.specs.Map.Iter.{deref}
use Rattle.std.specs.FinMap as finmap
use Rattle.sqlite_trees.specs.Tree.{Trees}
use Rattle.sqlite_trees.specs.View.{View, IsClean}
use Rattle.xa_words.specs.{XidName, xid_eq, Decides-xid_eq, key_eq}
use Rattle.xa_tables.specs.{State, Tables, state_of, is_S3, is_left_in, reopened, stored_value}
use Rattle.xa_tables.specs.declared.state.State.TheVariants as state
use Rattle.xa_tables.proofs.Reopening.{state_reopened, sums_reopened}
use Rattle.xa_tables.proofs.Restoring.{restores}
use Rattle.xa_tables.proofs.SoundLemmas.{swap_xid}
use Rattle.xa_store_sqlite.specs.declared.mirror.Left.TheVariants.{Prepared, Completed}
use Rattle.xa_store_sqlite.specs.{DiffersAt, HasAllBut, HasImage, HasOf, HasValuesOf, Image, LackAll, Lacks}
use Rattle.xa_store_sqlite.specs.{LeavesTables, Left, PutsAll, PutsBranch, PutsSums, RemovesAll, left_in, StoredBranch}
use Rattle.xa_store_sqlite.specs.{left_in_slots, state_of_left, stored_of, sum_in, keys_of_accounts}
use Rattle.xa_store_sqlite.proofs.Changes.{either}
use Rattle.xa_store_sqlite.proofs.Readback.{same_tables}
use Rattle.xa_store_sqlite.proofs.Settled.{whole}
use Rattle.xa_store_sqlite.proofs.Sums.{sum_found, sum_is}

-- ---- one branch

abbrev stored_state_in : List (Option StoredBranch) → XidName → Option State
stored_state_in bs x = lookup (xid_eq x) (left_in_slots bs)

abbrev state_or : Option Left → Option State
state_or None = None
state_or (Some left) = Some (state_of_left left)

no_left : (o : Option State) → left_in o ≡ None → (is_left_in o ≡ false) × (is_S3 o ≡ false)
no_left None e = (refl, refl)
no_left (Some state.Active) e = (refl, refl)
no_left (Some state.Idle) e = (refl, refl)
no_left (Some state.Prepared) e = let z : Some Prepared ≡ None = e in cc
no_left (Some (state.RollbackOnly r)) e = (refl, refl)
no_left (Some (state.HeuristicallyCompleted d)) e = let z : Some (Completed d) ≡ None = e in cc

-- what an opening doesn't leave isn't there
pub none_left : (x : XidName) (image : Image) (T : Tables) → left_in (state_of T x) ≡ None → Lacks x image
    → HasOf x image T
none_left x image T none lacks =
    let off = no_left (state_of T x) none in
    record {
      state = lacks.state ∙ sym (state_reopened T x ∙ ap (λ b. cond b (state_of T x) None) off.0);
      sums = λ k. lacks.sums k ∙ sym (sums_reopened T x k ∙ ap (λ b. cond b (finmap.get T.sums (x, k)) None) off.1);
    }

some_left : (o : Option State) (left : Left) → left_in o ≡ Some left
    → (o ≡ Some (state_of_left left)) × (is_left_in o ≡ true)
some_left None left e = let z : None ≡ Some left = e in cc
some_left (Some state.Active) left e = let z : None ≡ Some left = e in cc
some_left (Some state.Idle) left e = let z : None ≡ Some left = e in cc
some_left (Some state.Prepared) left e = (ap (λ o. state_or o) e, refl)
some_left (Some (state.RollbackOnly r)) left e = let z : None ≡ Some left = e in cc
some_left (Some (state.HeuristicallyCompleted d)) left e = (ap (λ o. state_or o) e, refl)

left_state : (x : XidName) (T : Tables) (left : Left) → left_in (state_of T x) ≡ Some left
    → state_of (reopened T) x ≡ Some (state_of_left left)
left_state x T left e =
    let on = some_left (state_of T x) left e in
    state_reopened T x ∙ ap (λ b. cond b (state_of T x) None) on.1 ∙ on.0

-- a completed branch has no sums
pub completed_has : (x : XidName) (slot : ℕ) (left : Left) (old new : Image) (T : Tables)
    → left_in (state_of T x) ≡ Some left
    → is_S3 (Some (state_of_left left)) ≡ false
    → Lacks x old → PutsBranch slot x left old new → HasOf x new T
completed_has x slot left old new T is off lacks put =
    let on = some_left (state_of T x) left is in
    record {
      state = put.state ∙ sym (left_state x T left is);
      sums = λ k. put.sums x k ∙ lacks.sums k
          ∙ sym (sums_reopened T x k ∙ ap (λ b. cond b (finmap.get T.sums (x, k)) None) (ap is_S3 on.0 ∙ off));
    }

pub prepared_has : (x : XidName) (slot : ℕ) (left : Left) (old mid new : Image) (T : Tables)
    (amounts : List (List ℕ × ℤ))
    → left_in (state_of T x) ≡ Some left
    → is_S3 (Some (state_of_left left)) ≡ true → PutsBranch slot x left old mid → PutsSums x amounts mid new
    → ((k : List ℕ) → lookup (key_eq k) amounts ≡ finmap.get T.sums (x, k)) → HasOf x new T
prepared_has x slot left old mid new T amounts is on put sums each =
    let left_on = some_left (state_of T x) left is in
    record {
      state = ap (λ bs. stored_state_in bs x) sums.branches ∙ put.state ∙ sym (left_state x T left is);
      sums = λ k. sums.own k ∙ each k
          ∙ sym (sums_reopened T x k ∙ ap (λ b. cond b (finmap.get T.sums (x, k)) None) (ap is_S3 left_on.0 ∙ on));
    }

pub branch_differs : (x : XidName) (slot : ℕ) (left : Left) (old new : Image) → PutsBranch slot x left old new
    → DiffersAt x old new
branch_differs x slot left old new put =
    record { states = put.states; sums = λ y k off. put.sums y k; accounts = put.accounts }

pub sums_differ : (x : XidName) (slot : ℕ) (left : Left) (old mid new : Image) (amounts : List (List ℕ × ℤ))
    → PutsBranch slot x left old mid
    → PutsSums x amounts mid new
    → DiffersAt x old new
sums_differ x slot left old mid new amounts put sums = record {
  states = λ y off. ap (λ bs. stored_state_in bs y) sums.branches ∙ put.states y off;
  sums = λ y k off. sums.others y k off ∙ put.sums y k;
  accounts = sums.accounts ∙ put.accounts;
}

-- ---- all branches that were told

off_last : (ys : List XidName) (x y : XidName)
    → list_any (xid_eq x) (ys ++ y ∷ []) ≡ (list_any (xid_eq x) ys || xid_eq x y)
off_last [] x y = or-false (xid_eq x y)
off_last (z ∷ ys) x y = grind (arith, (off_last ys x y))

pub none_removed : (image : Image) → RemovesAll [] image image
none_removed image =
    record {
      gone = λ x on. let z : false ≡ true = on in cc;
      states = λ x off. refl;
      sums = λ x k off. refl;
      accounts = refl;
    }

either_of : (a b : Bool) → (a || b) ≡ true → (b ≡ true) ⊎ ((b ≡ false) × (a ≡ true))
either_of true true e = inl refl
either_of false true e = inl refl
either_of true false e = inr (refl, refl)
either_of false false e = let z : false ≡ true = e in cc

pub both_off : (a b : Bool) → (a || b) ≡ false → (a ≡ false) × (b ≡ false)
both_off true true e = let z : true ≡ false = e in cc
both_off false true e = let z : true ≡ false = e in cc
both_off true false e = let z : true ≡ false = e in cc
both_off false false e = (refl, refl)

off_both : (ys : List XidName) (x y : XidName) → list_any (xid_eq x) (ys ++ y ∷ []) ≡ false
    → (list_any (xid_eq x) ys ≡ false) × (xid_eq x y ≡ false)
off_both ys x y off = both_off _ _ (sym (off_last ys x y) ∙ off)

pub one_removed_more : (ys : List XidName) (y : XidName) (first old new : Image) → RemovesAll ys first old → Lacks y new
    → DiffersAt y old new
    → RemovesAll (ys ++ y ∷ []) first new
one_removed_more ys y first old new so lacks differs = record {
  gone = λ x on.
      either (either_of (list_any (xid_eq x) ys) (xid_eq x y) (sym (off_last ys x y) ∙ on))
      (λ is. ap_lacks x is) (λ other. still x other.0 (so.gone x other.1));
  states = λ x off. let b = off_both ys x y off in differs.states x b.1 ∙ so.states x b.0;
  sums = λ x k off. let b = off_both ys x y off in differs.sums x k b.1 ∙ so.sums x k b.0;
  accounts = differs.accounts ∙ so.accounts;
}
  where
    ap_lacks : (x : XidName) → xid_eq x y ≡ true → Lacks x new
    ap_lacks x is = subst (λ z. Lacks z new) (sym ((Decides-xid_eq x y).0 is)) lacks

    still : (x : XidName) → xid_eq x y ≡ false → Lacks x old → Lacks x new
    still x off had = record { state = differs.states x off ∙ had.state; sums = λ k. differs.sums x k off ∙ had.sums k }

pub none_put : (T : Tables) (image : Image) → PutsAll [] T image image
none_put T image =
    record {
      own = λ x on. let z : false ≡ true = on in cc;
      states = λ x off. refl;
      sums = λ x k off. refl;
      accounts = refl;
    }

pub lacks_yet : (ys : List XidName) (T : Tables) (y : XidName) (first old : Image) → PutsAll ys T first old
    → list_any (xid_eq y) ys ≡ false → Lacks y first
    → Lacks y old
lacks_yet ys T y first old so off had =
    record { state = so.states y off ∙ had.state; sums = λ k. so.sums y k off ∙ had.sums k }

pub one_put_more : (ys : List XidName) (T : Tables) (y : XidName) (first old new : Image) → PutsAll ys T first old
    → HasOf y new T → DiffersAt y old new
    → PutsAll (ys ++ y ∷ []) T first new
one_put_more ys T y first old new so has differs = record {
  own = λ x on.
      either (either_of (list_any (xid_eq x) ys) (xid_eq x y) (sym (off_last ys x y) ∙ on))
      (λ is. subst (λ z. HasOf z new T) (sym ((Decides-xid_eq x y).0 is)) has)
      (λ other. still x other.0 (so.own x other.1));
  states = λ x off. let b = off_both ys x y off in differs.states x b.1 ∙ so.states x b.0;
  sums = λ x k off. let b = off_both ys x y off in differs.sums x k b.1 ∙ so.sums x k b.0;
  accounts = differs.accounts ∙ so.accounts;
}
  where
    still : (x : XidName) → xid_eq x y ≡ false → HasOf x old T → HasOf x new T
    still x off had = record { state = differs.states x off ∙ had.state; sums = λ k. differs.sums x k off ∙ had.sums k }

-- ---- the next of them

none_before : (ys : List XidName) (y : XidName) (zs : List XidName) → IsDistinct xid_eq (ys ++ y ∷ zs)
    → list_any (xid_eq y) ys ≡ false
none_before [] y zs apart = refl
none_before (w ∷ ys) y zs apart =
    let head = at_mid (λ z. xid_eq w z ≡ false) ys y zs (IsDistinct-head xid_eq w (ys ++ y ∷ zs) apart) in
    or_from (xid_eq y w) (list_any (xid_eq y) ys) (swap_xid y w ∙ head)
    (none_before ys y zs (IsDistinct-tail xid_eq w (ys ++ y ∷ zs) apart))

among : (ys : List XidName) (y : XidName) (zs : List XidName) → list_any (xid_eq y) (ys ++ y ∷ zs) ≡ true
among [] y zs = ap (λ b. b || list_any (xid_eq y) zs) ((Decides-xid_eq y y).1 refl)
among (w ∷ ys) y zs = ap (λ b. xid_eq y w || b) (among ys y zs) ∙ or-true (xid_eq y w)

pub next_lacks : (told ys : List XidName) (y : XidName) (zs rest : List XidName) (T : Tables) (first old : Image)
    → ys ++ rest ≡ told → rest ≡ y ∷ zs
    → IsDistinct xid_eq told → LackAll told first → PutsAll ys T first old → Lacks y old
next_lacks told ys y zs rest T first old split next apart none so =
    let all : ys ++ y ∷ zs ≡ told = ap (λ l. ys ++ l) (sym next) ∙ split in
    lacks_yet ys T y first old so (none_before ys y zs (subst (IsDistinct xid_eq) (sym all) apart))
    (none y (ap (list_any (xid_eq y)) (sym all) ∙ among ys y zs))

pub next_split : (told ys : List XidName) (y : XidName) (zs rest : List XidName) → ys ++ rest ≡ told → rest ≡ y ∷ zs
    → (ys ++ y ∷ []) ++ zs ≡ told
next_split told ys y zs rest split next = append_assoc ys (y ∷ []) zs ∙ ap (λ l. ys ++ l) (sym next) ∙ split

-- and as the iterator goes
pub so_far_more : (told : List XidName) (yielded : List (Bor XidName)) (x : Bor XidName) (zs rest : List XidName)
    → map deref yielded ++ rest ≡ told → rest ≡ x.now ∷ zs → map deref (yielded ++ x ∷ []) ++ zs ≡ told
so_far_more told yielded x zs rest split next =
    ap (λ l. l ++ zs) (map-append deref yielded (x ∷ [])) ∙ next_split told (map deref yielded) x.now zs rest split next

pub all_split : (told ys rest : List XidName) → ys ++ rest ≡ told → rest ≡ [] → ys ≡ told
all_split told ys rest split none = sym (append-nil ys) ∙ ap (λ l. ys ++ l) (sym none) ∙ split

-- ---- all

-- once each that was told is removed, and then put, only values may be missing
pub all_put : (told : List XidName) (moved : Bool) (T : Tables) (first mid last : Image) → HasAllBut told moved first T
    → RemovesAll told first mid
    → PutsAll told T mid last
    → HasAllBut [] moved last T
all_put told moved T first mid last h removed put = record {
  branches = λ x _. by_bool (λ b. list_any (xid_eq x) told ≡ b → HasOf x last T) (list_any (xid_eq x) told)
      (λ _ on. put.own x on)
      (λ _ off. record {
        state = put.states x off ∙ removed.states x off ∙ (h.branches x off).state;
        sums = λ k. put.sums x k off ∙ removed.sums x k off ∙ (h.branches x off).sums k;
      }) refl;
  keys = λ k. ap (λ us. is_some (stored_value us k)) (put.accounts ∙ removed.accounts) ∙ h.keys k;
  values = λ stay k. ap (λ us. stored_value us k) (put.accounts ∙ removed.accounts) ∙ h.values stay k;
}

-- the sums don't speak of values
sums_by_keys : (old new : Image) (x : XidName) (k : List ℕ) → new.branches ≡ old.branches → new.changes ≡ old.changes
    → keys_of_accounts new.accounts ≡ keys_of_accounts old.accounts
    → sum_in new x k ≡ sum_in old x k
sums_by_keys old new x k branches changes keys =
    sum_is new x k ∙ (λ i. sum_found (branches i) (keys i) (changes i) (x, k)) ∙ sym (sum_is old x k)

pub all_valued : (moved : Bool) (T : Tables) (old new : Image) → HasAllBut [] moved old T → HasValuesOf T old new
    → HasAllBut [] false new T
all_valued moved T old new h v = record {
  branches = λ x off. record {
    state = ap (λ bs. stored_state_in bs x) v.branches ∙ (h.branches x off).state;
    sums = λ k. sums_by_keys old new x k v.branches v.changes v.keys ∙ (h.branches x off).sums k;
  };
  keys = λ k. ap is_some (each k);
  values = λ _ k. each k;
}
  where
    each : (k : List ℕ) → stored_value new.accounts k ≡ finmap.get T.values k
    each k =
        by_bool (λ b. is_some (stored_value old.accounts k) ≡ b → stored_value new.accounts k ≡ finmap.get T.values k)
        (is_some (stored_value old.accounts k))
        (λ _ on. v.values k on)
        (λ _ off. v.others k off ∙ sym (is_missing _ (sym (h.keys k) ∙ off))) refl

-- ---- a crash

-- a crash that leaves the image leaves what a reopening finds
pub crash_has : (image : Image) (T K : Tables) (view : View) (recovers : Trees → Type 0) → HasAllBut [] false image T
    → (l : LeavesTables view recovers K)
    → HasImage image l.trees → K ≡ reopened T
crash_has image T K view recovers h l has =
    l.is ∙ same_tables l.image image l.trees l.has has ∙ restores (stored_of image) T (whole image T h)

-- what a crash leaves after calls that add no outcome it would have left before
pub leaves_before : (old new : View) (before after : Trees → Type 0) (K : Tables) → (IsClean new → IsClean old)
    → ((db : Trees) → after db → before db)
    → LeavesTables new after K → LeavesTables old before K
leaves_before old new before after K clean outcomes l =
    record {
      image = l.image;
      trees = l.trees;
      clean = clean l.clean;
      left = outcomes l.trees l.left;
      has = l.has;
      is = l.is;
    }
