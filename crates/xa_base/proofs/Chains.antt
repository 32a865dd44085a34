-- Chains, in which each step begins where the one before it ended: what they hand on, and one after the other.
use Rattle.std.proofs.Common.{◌≡◌, ℕ, ◌+◌, ◌<◌, ◌≤◌, List, [], ◌∷◌, ◌++◌, length, take, arith, append_assoc, append-nil}
use Rattle.std.specs.List.{All, slice_index_or}
use Rattle.std.proofs.lemmas.List.{take_all}
use Rattle.xa_base.specs.{Chain}
use Rattle.xa_base.specs.Lists.Chain.{none, more}
use Rattle.xa_base.proofs.Lists.{all_left, all_mid, one_more}

module _ {X A : Type 0} (R : X → A → A → Type 0) where
  -- what holds at first, and after each step where it held before, holds at last
  pub chain_kept : (C : X → Type 0) (P : List X → A → Type 0) (first : A) → P [] first
      → ((xs : List X) (x : X) (now next : A) → P xs now → C x → R x now next → P (xs ++ x ∷ []) next)
      → (xs : List X) (last : A) → Chain R first xs last
      → All C xs → P xs last
  chain_kept C P first start step xs last (none ys z nil same) each = rw (nil, same) start
  chain_kept C P first start step xs last (more ys y now z before is) each =
      step ys y now z (chain_kept C P first start step ys now before (all_left C ys (y ∷ []) each))
      (all_mid C ys [] y each) is

  -- the first of a list and one more, where one step more was made
  pub chain_more : (xs : List X) (i : ℕ) (x : X) (first now last : A) → i < length xs → x ≡ slice_index_or xs i x
      → Chain R first (take i xs) now
      → R x now last → Chain R first (take (i + 1) xs) last
  chain_more xs i x first now last below is before step =
      rw (one_more xs i x below is) (more (take i xs) x now last before step)

  -- the first are all
  pub chain_all : (xs : List X) (i : ℕ) (first last : A) → length xs ≤ i → Chain R first (take i xs) last
      → Chain R first xs last
  chain_all xs i first last past before = rw (take_all i xs past) at before

  -- the steps of one list, and then those of another
  pub chain_append : (first : A) (xs : List X) (mid : A) (ys : List X) (last : A) → Chain R first xs mid
      → Chain R mid ys last → Chain R first (xs ++ ys) last
  chain_append first xs mid ys last before (none zs z e f) = search (arith, append-nil)
  chain_append first xs mid ys last before (more zs z now a rest step) =
      rw append_assoc at (more (xs ++ zs) z now last (chain_append first xs mid zs now before rest) step)

module _ {X A : Type 0} {leads : X → A → A → Type 0} where
  -- what the first has, and each step hands on, the last has
  pub along : (P : A → Type 0) (first : A) (xs : List X) (last : A) → Chain leads first xs last
      → ((x : X) (now next : A) → leads x now next → P now → P next)
      → P first → P last
  along P first xs last (none ys l e f) on has = rw f has
  along P first xs last (more ys y now l before is) on has = on y now l is (along P first ys now before on has)

  -- where C holds of each
  pub along_all : (C : X → Type 0) (P : A → Type 0) (first : A) (xs : List X) (last : A) → Chain leads first xs last
      → All C xs
      → ((x : X) (now next : A) → C x → leads x now next → P now → P next) → P first → P last
  along_all C P first xs last runs all on has =
      chain_kept leads C (λ _ a. P a) first has (λ _ x now next h c is. on x now next c is h) xs last runs all
