-- Lists that are gone through, with what is made of each element, and lists that are taken from beside them.
use Rattle.std.proofs.Common.{◌≡◌, ℕ, ◌+◌, ◌<◌, ◌≤◌, Vec, List, [], ◌∷◌, ◌++◌, length, map, Some, sym, ap, ◌∙◌, subst}
use Rattle.std.proofs.Common.{arith, append-nil, vec_capacity, length-append}
use Rattle.std.proofs.lemmas.List.{length-map, map-append}
use Rattle.std.specs.Global.{Global}
use Rattle.std.specs.Prelude.{slice_get}
use Rattle.std.specs.Vec.Iter.{into_iter_items, into_iter_len}
use Rattle.std.specs.declared.vec.IntoIter.{IntoIter}
use Rattle.xa_base.specs.{Pairwise}
use Rattle.xa_base.proofs.Lists.{next_there, none_of, push_side, taken_next}

-- the first of these were gone through, each with what was made of it, and the others are still to come
pub record Handled {A B Z : Type 0} (P : A → B → Type 0) (all first : List A) (it : IntoIter A Z) (made : Vec B Global)
    (room : ℕ) : Type 0 where
  pub so_far : first ++ into_iter_items it ≡ all
  pub counted : into_iter_len it ≡ length (into_iter_items it)
  pub sides : Pairwise P first made.items
  pub capacity : vec_capacity made ≡ room

module _ {A B Z : Type 0} {P : A → B → Type 0} {all first : List A} {it : IntoIter A Z} {made : Vec B Global} {room : ℕ}
    (h : Handled P all first it made room) where
  pub next_handled : (x : A) (y : B) (it' : IntoIter A Z) (made' : Vec B Global)
      → (into_iter_items it ≡ x ∷ into_iter_items it') × (into_iter_len it' + 1 ≡ into_iter_len it)
      → made'.items ≡ made.items ++ y ∷ []
      → vec_capacity made' ≡ vec_capacity made → P x y → Handled P all (first ++ x ∷ []) it' made' room
  next_handled x y it' made' (next, fewer) pushed stays here = record {
    so_far = taken_next first _ (into_iter_items it') _ x next h.so_far;
    counted = omega (arith, h.counted, ap length next, fewer);
    sides = rw pushed (push_side P first made.items x y h.sides here);
    capacity = stays ∙ h.capacity;
  }

  -- the next is at the place after them, and fewer are made than there are
  pub handled_at : (x : A) (it' : IntoIter A Z) → into_iter_items it ≡ x ∷ into_iter_items it'
      → slice_get all (length first) ≡ Some x
  handled_at x it' next = next_there all first (into_iter_items it') x (ap (λ l. first ++ l) (sym next) ∙ h.so_far)

  pub fewer_made : (x : A) (it' : IntoIter A Z) → into_iter_items it ≡ x ∷ into_iter_items it'
      → length made.items < length all
  fewer_made x it' next =
      let long = ap (λ l. length l) h.so_far in
      let more = ap (λ l. length l) next in
      omega (arith, h.sides.as_many, long, more, length-append first (into_iter_items it))

  -- there is room for what is made of the next, where there is for all
  pub fits_next : (x : A) (it' : IntoIter A Z) → into_iter_items it ≡ x ∷ into_iter_items it' → length all ≤ room
      → length made.items < vec_capacity made
  fits_next x it' next fits = omega (arith, fewer_made x it' next, h.capacity, fits)

  pub all_handled : into_iter_len it ≡ 0 → Pairwise P all made.items
  all_handled none =
      let left : into_iter_items it ≡ [] = none_of (into_iter_items it) (sym h.counted ∙ none) in
      subst (λ l. Pairwise P l made.items) (sym (append-nil first) ∙ ap (λ l. first ++ l) (sym left) ∙ h.so_far) h.sides

-- of a list that is taken from beside, the first are parts of what was made, and the others are still to come
pub record TakenBeside {B Y Z : Type 0} (part : B → Y) (all : List Y) (made : List B) (it : IntoIter Y Z) : Type 0 where
  pub so_far : map part made ++ into_iter_items it ≡ all
  pub counted : into_iter_len it ≡ length (into_iter_items it)

module _ {B Y Z : Type 0} {part : B → Y} {all : List Y} {made : List B} {it : IntoIter Y Z}
    (h : TakenBeside part all made it) where
  pub next_beside : (y : B) (made' : List B) (it' : IntoIter Y Z)
      → (into_iter_items it ≡ part y ∷ into_iter_items it') × (into_iter_len it' + 1 ≡ into_iter_len it)
      → made' ≡ made ++ y ∷ []
      → TakenBeside part all made' it'
  next_beside y made' it' (next, fewer) pushed = record {
    so_far = ap (λ l. l ++ into_iter_items it') (ap (map part) pushed ∙ map-append part made (y ∷ []))
        ∙ taken_next (map part made) _ (into_iter_items it') all (part y) next h.so_far;
    counted = omega (arith, h.counted, ap length next, fewer);
  }

  -- the next is at the place after what was made
  pub beside_at : (x : Y) (it' : IntoIter Y Z) → into_iter_items it ≡ x ∷ into_iter_items it'
      → slice_get all (length made) ≡ Some x
  beside_at x it' next =
      ap (λ k. slice_get all k) (sym (length-map made part))
      ∙ next_there all (map part made) (into_iter_items it') x (ap (λ l. map part made ++ l) (sym next) ∙ h.so_far)

  -- it isn't at its end while fewer are made than it has, and once as many are it has given a part to each
  pub some_beside : length made < length all → into_iter_len it ≡ 0 → ⊥
  some_beside fewer ended =
      omega (
        arith,
        fewer,
        ended,
        h.counted,
        ap length h.so_far,
        length-append (map part made) (into_iter_items it),
        length-map made part,
      )

  pub all_beside : length made ≡ length all → map part made ≡ all
  all_beside many =
      let none =
      none_of (into_iter_items it)
      (omega (
        arith,
        many,
        ap length h.so_far,
        length-append (map part made) (into_iter_items it),
        length-map made
            part,
      )) in
      sym (append-nil (map part made)) ∙ ap (λ l. map part made ++ l) (sym none) ∙ h.so_far
