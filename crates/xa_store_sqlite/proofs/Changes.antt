-- The changes of one slot are cleared, place by place.
use Rattle.xa_base.proofs.{◌≡◌, ℕ, zero, suc, ◌+◌, ◌<◌, Bool, true, false, if◌then◌else◌, List, [], ◌∷◌, length, map}
use Rattle.xa_base.proofs.{slice_set, Option, None, refl, ap, sym, ◌∙◌, arith, ◌⊎◌, inl, inr, subst}
use Rattle.std.specs.Prelude.{IsTrue}
use Rattle.sqlite_disk.specs.Disk.{MoreFaults}
use Rattle.xa_words.specs.{XidName}
use Rattle.sqlite_trees.specs.Tree.{Trees}
use Rattle.sqlite_trees.specs.View.{View, IsClean, IsQuiet}
use Rattle.xa_store_sqlite.specs.{Change, Image, IsInOrder, IsSeen, is_of_slot, item_at, unless_of, with_change}
use Rattle.xa_store_sqlite.specs.{without_changes}

pub of_slot_within : (slot : ℕ) (cs : List (Option Change)) (p : ℕ) → is_of_slot slot (item_at cs p) ≡ true
    → p < length cs
of_slot_within slot [] p e = let z : false ≡ true = e in cc
of_slot_within slot (c ∷ cs) zero e = omega arith
of_slot_within slot (c ∷ cs) (suc p) e = let less : p < length cs = of_slot_within slot cs p e in omega (arith, less)

-- an item is put where it stands
pub same_item : {A : Type 0} (xs : List (Option A)) (k : ℕ) → slice_set xs k (item_at xs k) ≡ xs
same_item [] k = refl
same_item (x ∷ xs) zero = refl
same_item (x ∷ xs) (suc k) = ap (λ ys. x ∷ ys) (same_item xs k)

pub none_of_slot : (image : Image) (slot p : ℕ) → is_of_slot slot (item_at image.changes p) ≡ false
    → image ≡ with_change image p (unless_of slot (item_at image.changes p))
none_of_slot image slot p off =
    ap (λ cs. record image { changes = cs }) (sym (same_item image.changes p))
    ∙ ap (λ (b : Bool). with_change image p (if b then None else item_at image.changes p)) (sym off)

-- the changes up to a place are cleared
abbrev pub cleared : ℕ → ℕ → List (Option Change) → List (Option Change)
cleared slot zero cs = cs
cleared slot (suc n) [] = []
cleared slot (suc n) (c ∷ cs) = unless_of slot c ∷ cleared slot n cs

next_to : (slot n : ℕ) (cs : List (Option Change))
    → slice_set (cleared slot n cs) n (unless_of slot (item_at (cleared slot n cs) n)) ≡ cleared slot (suc n) cs
next_to slot zero [] = refl
next_to slot zero (c ∷ cs) = refl
next_to slot (suc n) [] = refl
next_to slot (suc n) (c ∷ cs) = ap (λ ds. unless_of slot c ∷ ds) (next_to slot n cs)

all_to : (slot : ℕ) (cs : List (Option Change)) → cleared slot (length cs) cs ≡ map (λ c. unless_of slot c) cs
all_to slot [] = refl
all_to slot (c ∷ cs) = ap (λ ds. unless_of slot c ∷ ds) (all_to slot cs)

abbrev pub cleared_to : Image → ℕ → ℕ → Image
cleared_to image slot n = record image { changes = cleared slot n image.changes }

pub next_cleared : (first old new : Image) (slot n : ℕ) → old ≡ cleared_to first slot n
    → new ≡ with_change old n (unless_of slot (item_at old.changes n)) → new ≡ cleared_to first slot (n + 1)
next_cleared first old new slot n so is =
    let one : suc n ≡ n + 1 = omega arith in
    is ∙ ap (λ (i : Image). with_change i n (unless_of slot (item_at i.changes n))) so
    ∙ ap (λ cs. record first { changes = cs }) (next_to slot n first.changes)
    ∙ ap (λ (m : ℕ). cleared_to first slot m) one

pub all_cleared : (first new : Image) (slot n : ℕ) → new ≡ cleared_to first slot n → n ≡ length first.changes
    → new ≡ without_changes first slot
all_cleared first new slot n so all =
    so ∙ ap (λ (m : ℕ). cleared_to first slot m) all
    ∙ ap (λ cs. record first { changes = cs }) (all_to slot first.changes)

-- ---- calls that follow one another

-- where the store saw the rows of the image before, it sees those of the image after
abbrev pub StaysSeen : {S : Type 0} (view : S → View) (recovers : S → Trees → Type 0) (old new : S) (was is : Bool)
    (before after : Image) → Type 0
StaysSeen view recovers old new was is before after =
    IsSeen (view old) (recovers old) was before → IsSeen (view new) (recovers new) is after

pub either : {A B P : Type 0} → A ⊎ B → (A → P) → (B → P) → P
either (inl a) f g = f a
either (inr b) f g = g b

module _ {S : Type 0} (view : S → View) (faults : S → ℕ) (recovers : S → Trees → Type 0) (shielded : S → Type 0)
    (old mid new : S) where
  -- what the disk returned so far was right, where it was later
  pub clean_before : IsQuiet view faults recovers shielded old new → IsClean (view new) → IsClean (view old)
  clean_before a clean = let le = a.clean in omega arith

  pub quiet_on : IsQuiet view faults recovers shielded old mid → IsQuiet view faults recovers shielded mid new
      → IsQuiet view faults recovers shielded old new
  quiet_on a b = record {
    shield = λ s. b.shield (a.shield s);
    clean = let le = a.clean in let more = b.clean in omega arith;
    counts = let le = a.counts in let more = b.counts in omega arith;
    closes = closes;
    outcomes = λ db may. a.outcomes db (b.outcomes db may);
  }
    where
      closes : IsClean (view new) → IsTrue (view old).is_open
          → IsTrue (view new).is_open ⊎ MoreFaults (faults old) (faults new)
      closes clean opened =
          let le = a.counts in
          let more = b.counts in
          let mid_clean : IsClean (view mid) = let doubt_le = b.clean in omega arith in
          either (a.closes mid_clean opened)
          (λ open_mid. either (b.closes clean open_mid) (λ open_new. inl open_new)
          (λ fault. inr (omega (arith, le, fault))))
          (λ fault. inr (omega (arith, more, fault)))

pub quiet_same : {S : Type 0} (view : S → View) (faults : S → ℕ) (recovers : S → Trees → Type 0) (shielded : S → Type 0)
    (s : S)
    → IsQuiet view faults recovers shielded s s
quiet_same view faults recovers shielded s =
    record {
      shield = λ h. h;
      clean = omega arith;
      counts = omega arith;
      closes = λ clean still. inl still;
      outcomes = λ db may. may;
    }

module _ {slots later : List (XidName × ℕ)} {places moved : List (List ℕ × ℕ)} {old new : Image} where
  -- what is in order stays so where it is the same
  pub order_same : later ≡ slots → moved ≡ places → new ≡ old → IsInOrder slots places old → IsInOrder later moved new
  order_same same_slots same_places same o =
      subst (λ (i : Image). IsInOrder later moved i) (sym same)
      (subst (λ ps. IsInOrder later ps old) (sym same_places)
      (subst (λ es. IsInOrder es places old) (sym same_slots) o))
