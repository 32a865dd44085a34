-- What a manager that is restored from a file begins with is what the file says, where nothing is wrong with it.
use Rattle.xa_base.proofs.{◌≡◌, ℕ, zero, suc, ℤ, Bool, true, false, not, cond, if◌then◌else◌, List, [], ◌∷◌, ◌++◌}
use Rattle.xa_base.proofs.{Option, None, Some, is_some, lookup, list_any, AllByRecursion, refl, ap, sym, ◌∙◌, by_bool}
use Rattle.xa_base.proofs.{and_parts, or_parts, not-true, ◌<◌, subst, rules}
use Rattle.std.specs.List.{IsDistinct}
use Rattle.xa_words.specs.{XidName, xid_eq, Decides-xid_eq, key_eq, are_accounts, are_apart}
use Rattle.xa_tables.specs.{State, IsOpening, RestoreFault, BadAccounts, BranchTwice, NotLeft, branch_fault, fault_of}
use Rattle.xa_tables.specs.{first_fault, is_left, is_left_in, is_prepared, reopened, state_of, Tables}
use Rattle.std.specs.Prelude.{IsTrue}
use Rattle.sqlite_trees.specs.Tree.{Trees}
use Rattle.sqlite_trees.specs.View.{View, IsClean}
use Rattle.std.specs.FinMap as finmap
use Rattle.xa_tables.proofs.Reopening.{state_reopened, sums_reopened}
use Rattle.xa_tables.proofs.SoundLemmas.{state_found}
use Rattle.xa_store_sqlite.specs.{NoBranchTwice, StoredBranch, HasAllBut, Image, is_of_branch, item_at}
use Rattle.xa_store_sqlite.specs.{keys_of_accounts, left_in_slots, state_in, state_of_left, stored_of, sum_in}
use Rattle.xa_store_sqlite.specs.{tables_of_image, HasImage, IsInOrder, IsSettledImage, KnowsAllBut, LeavesTables}
use Rattle.xa_store_sqlite.specs.{slots_of}
use Rattle.xa_tables.proofs.Restoring.{both_none, declared_found, restores}
use Rattle.xa_slots.specs.{HasSlots, IsCommitted, Knows, OnlyReads, SlotsOfTables as SlotTables}
use Rattle.xa_store_sqlite.specs.Files.{IsBare, IsFresh}
use Rattle.xa_store_sqlite.proofs.Putting.{swap_key}
use Rattle.xa_store_sqlite.proofs.Settled.{whole}

-- ---- its tables

all_left : (o : Option State) (l : Bool) → ((s : State) → o ≡ Some s → l ≡ true) → o ≡ cond l o None
all_left None true f = refl
all_left None false f = refl
all_left (Some s) l f = sym (ap (λ b. cond b (Some s) None) (f s refl))

all_kept : (o : Option ℤ) (b : Bool) → (b ≡ false → o ≡ None) → o ≡ cond b o None
all_kept o true f = refl
all_kept o false f = f refl

pub has_restored : (image : Image) → IsOpening (tables_of_image image)
    → HasAllBut [] false image (tables_of_image image)
has_restored image opens = record {
  branches = λ x _. record { state = states x; sums = sums x };
  keys = λ k. ap is_some (sym (declared_found image.accounts k));
  values = λ _ k. sym (declared_found image.accounts k);
}
  where
    states : (x : XidName) → state_in image x ≡ state_of (reopened (tables_of_image image)) x
    states x =
        sym (state_found (left_in_slots image.branches) x)
        ∙ all_left (state_of (tables_of_image image) x) (is_left (tables_of_image image) x) (opens.left x)
        ∙ sym (state_reopened (tables_of_image image) x)

    sums : (x : XidName) (k : List ℕ) → sum_in image x k ≡ finmap.get (reopened (tables_of_image image)).sums (x, k)
    sums x k =
        all_kept (sum_in image x k) (is_prepared (tables_of_image image) x) (opens.sums x k)
        ∙ sym (sums_reopened (tables_of_image image) x k)

-- ---- each branch stands once

abbrev Entry : Type 0
Entry = XidName × State

not_before : (before : List Entry) (e : Entry) → branch_fault before e ≡ None
    → is_some (lookup (xid_eq e.0) before) ≡ false
not_before before e none =
    by_bool
    (λ t. (if t then Some BranchTwice else if not (is_left_in (Some e.1)) then Some NotLeft else None) ≡ None
    → t ≡ false)
    (is_some (lookup (xid_eq e.0) before)) (λ _ z. let never : Some BranchTwice ≡ None = z in cc) (λ _ _. refl) none

before_more : (es : List Entry) (e : Entry) (x : XidName) → is_some (lookup (xid_eq x) es) ≡ true
    → is_some (lookup (xid_eq x) (es ++ e ∷ [])) ≡ true
before_more [] e x on = let z : false ≡ true = on in cc
before_more (d ∷ es) e x on =
    by_bool
    (λ t. is_some (cond t (Some d.1) (lookup (xid_eq x) es)) ≡ true
    → is_some (cond t (Some d.1) (lookup (xid_eq x) (es ++ e ∷ []))) ≡ true) (xid_eq x d.0)
    (λ _ _. refl) (λ _ later. before_more es e x later) on

before_last : (es : List Entry) (e : Entry) (x : XidName) → xid_eq x e.0 ≡ true
    → is_some (lookup (xid_eq x) (es ++ e ∷ [])) ≡ true
before_last [] e x same = ap (λ t. is_some (cond t (Some e.1) None)) same
before_last (d ∷ es) e x same =
    by_bool (λ t. is_some (cond t (Some d.1) (lookup (xid_eq x) (es ++ e ∷ []))) ≡ true) (xid_eq x d.0) (λ _. refl)
    (λ _. before_last es e x same)

abbrev entry_of : StoredBranch → Entry
entry_of b = (b.0, state_of_left b.1)

-- what stands before stands in no slot after it
none_after : (before : List Entry) (bs : List (Option StoredBranch)) (x : XidName) (t : ℕ)
    → first_fault branch_fault before (left_in_slots bs) ≡ None
    → is_some (lookup (xid_eq x) before) ≡ true → is_of_branch x (item_at bs t) ≡ true → ⊥
none_after before [] x t none there on = let z : false ≡ true = on in cc
none_after before (None ∷ bs) x zero none there on = let z : false ≡ true = on in cc
none_after before (None ∷ bs) x (suc t) none there on = none_after before bs x t none there on
none_after before (Some b ∷ bs) x zero none there on =
    let own = not_before before (entry_of b) (both_none (branch_fault before (entry_of b)) _ none).0 in
    let z : true ≡ false =
    sym there ∙ ap (λ (y : XidName). is_some (lookup (xid_eq y) before)) ((Decides-xid_eq x b.0).0 on) ∙ own in
    cc
none_after before (Some b ∷ bs) x (suc t) none there on =
    none_after (before ++ entry_of b ∷ []) bs x t (both_none (branch_fault before (entry_of b)) _ none).1
    (before_more before (entry_of b) x there) on

apart_after : (before : List Entry) (bs : List (Option StoredBranch))
    → first_fault branch_fault before (left_in_slots bs) ≡ None
    → NoBranchTwice bs
apart_after before [] none s t x on also = let z : false ≡ true = on in cc
apart_after before (None ∷ bs) none zero t x on also = let z : false ≡ true = on in cc
apart_after before (None ∷ bs) none (suc s) zero x on also = let z : false ≡ true = also in cc
apart_after before (None ∷ bs) none (suc s) (suc t) x on also =
    ap (λ (n : ℕ). suc n) (apart_after before bs none s t x on also)
apart_after before (Some b ∷ bs) none zero zero x on also = refl
apart_after before (Some b ∷ bs) none zero (suc t) x on also =
    absurd
    (none_after (before ++ entry_of b ∷ []) bs x t (both_none (branch_fault before (entry_of b)) _ none).1
    (before_last before (entry_of b) x on) also)
apart_after before (Some b ∷ bs) none (suc s) zero x on also =
    absurd
    (none_after (before ++ entry_of b ∷ []) bs x s (both_none (branch_fault before (entry_of b)) _ none).1
    (before_last before (entry_of b) x also) on)
apart_after before (Some b ∷ bs) none (suc s) (suc t) x on also =
    ap (λ (n : ℕ). suc n)
    (apart_after (before ++ entry_of b ∷ []) bs (both_none (branch_fault before (entry_of b)) _ none).1 s t x on
    also)

accounts_fine : (b : Bool) (o : Option RestoreFault) → (if not b then Some BadAccounts else o) ≡ None
    → (b ≡ true) × (o ≡ None)
accounts_fine true o e = (refl, e)
accounts_fine false o e = let z : Some BadAccounts ≡ None = e in cc

pub apart_in : (image : Image) → fault_of (stored_of image) ≡ None → NoBranchTwice image.branches
apart_in image none =
    apart_after [] image.branches
    (both_none (first_fault branch_fault [] (left_in_slots image.branches)) _
    (accounts_fine (are_accounts image.accounts) _ none).1).0

-- ---- each key stands once

others : (k : List ℕ) (ds : List (List ℕ × ℕ)) → list_any (λ e. key_eq e.0 k) ds ≡ false
    → AllByRecursion (λ l. key_eq k l ≡ false) (keys_of_accounts ds)
others k [] none = tt
others k (d ∷ ds) none = let parts = or_parts (key_eq d.0 k) _ none in (swap_key k d.0 ∙ parts.0, others k ds parts.1)

distinct_keys : (ds : List (List ℕ × ℕ)) → are_apart ds ≡ true → IsDistinct key_eq (keys_of_accounts ds)
unfolding IsDistinct
distinct_keys [] on = tt
distinct_keys (d ∷ ds) on =
    let parts = and_parts _ _ on in
    (others d.0 ds (not-true _ parts.0), distinct_keys ds parts.1)

pub keys_once : (image : Image) → fault_of (stored_of image) ≡ None
    → IsDistinct key_eq (keys_of_accounts image.accounts)
keys_once image none =
    distinct_keys image.accounts
    (and_parts _ _ (and_parts _ _ (accounts_fine (are_accounts image.accounts) _ none).0).1).1

-- ---- what was opened

-- a file that was read is fresh still, and is seen as it was read
pub fresh_on : (old new : View) → (IsClean new → IsClean old) → OnlyReads old new → IsFresh old → IsFresh new
fresh_on old new before only fresh = record {
  is_open = λ clean. subst IsTrue (sym (ap (λ (v : View). v.is_open) (only clean))) (fresh.is_open (before clean));
  unwritten = λ clean. ap (λ (v : View). v.trees) (only clean) ∙ fresh.unwritten (before clean)
      ∙ sym (ap (λ (v : View). v.committed) (only clean));
}

pub seen_on : (old new : View) (image : Image) → OnlyReads old new → (IsClean new → old.is_broken ≡ false)
    → (IsClean new → HasImage image old.trees)
    → Knows 4 new (slots_of image)
seen_on old new image only sound has clean = (
  ap (λ (v : View). v.is_broken) (only clean) ∙ sound clean,
  λ t below. ap (λ (v : View). v.trees t) (only clean)
      ∙ has clean t below,
)

pub bare_on : (old new : View) → OnlyReads old new → (IsClean new → old.is_broken ≡ false)
    → (IsClean new → (t : ℕ) → t < 4 → old.trees t ≡ []) → IsBare new
bare_on old new only sound bare clean = (
  ap (λ (v : View). v.is_broken) (only clean) ∙ sound clean,
  λ t below. ap (λ (v : View). v.trees t) (only clean)
      ∙ bare clean t below,
)

module _ (view : View) (recovers : Trees → Type 0) where
  pub settled_found : (image : Image) → IsFresh view → Knows 4 view (slots_of image)
      → ((many : ℕ) (all : SlotTables) → IsTrue view.is_open → view.trees ≡ view.committed
      → HasSlots many all view.trees → IsCommitted many view recovers all)
      → IsSettledImage view recovers image
  settled_found image fresh knows committed = record {
    seen = knows;
    kept = λ clean db may. committed 4 (slots_of image) (fresh.is_open clean) (fresh.unwritten clean) (knows clean).1
        clean db may;
  }

  pub known : (slots : List (XidName × ℕ)) (places : List (List ℕ × ℕ)) (old new : Image) (T : Tables) → new ≡ old
      → HasAllBut [] false old T
      → IsSettledImage view recovers old → IsInOrder slots places old
      → KnowsAllBut [] false view recovers new slots places T
  known slots places old new T same has settled order =
      subst (λ (i : Image). KnowsAllBut [] false view recovers i slots places T) (sym same)
      (record { has = has; settled = settled; order = order })

  -- a crash leaves it
  pub leaves : (image : Image) (T : Tables) → IsSettledImage view recovers image → HasAllBut [] false image T
      → (IsTrue view.is_open → recovers view.committed)
      → (view.is_open ≡ false → IsTrue view.is_broken) → IsClean view → LeavesTables view recovers (reopened T)
  leaves image T settled has stays broken clean =
      let left = stays (is_open view.is_open view.is_broken broken (settled.seen clean).0) in
      record {
        image = image;
        trees = view.committed;
        clean = clean;
        left = left;
        has = settled.kept clean view.committed left;
        is = sym (restores (stored_of image) T (whole image T has));
      }
    where
      is_open : (o b : Bool) → (o ≡ false → IsTrue b) → b ≡ false → IsTrue o
      is_open true b f sound = search rules
      is_open false true f sound = let z : true ≡ false = sound in cc
      is_open false false f sound = f refl

pub known_at : {S : Type 0} (view : S → View) (recovers : S → Trees → Type 0) {old new : S} {slots : List (XidName × ℕ)}
    {places : List (List ℕ × ℕ)} {image : Image}
    {T : Tables} → new ≡ old → KnowsAllBut [] false (view old) (recovers old) image slots places T
    → KnowsAllBut [] false (view new) (recovers new) image slots places T
known_at view recovers {slots = slots} {places = places} {image = image} {T = T} same k =
    subst (λ s. KnowsAllBut [] false (view s) (recovers s) image slots places T) (sym same) k
