-- Lists side by side, lists of steps, and lists that have grown.
use Rattle.std.specs.Prelude.{◌≡◌, ℕ, ◌≤◌, Some, List, [], ◌∷◌, ◌++◌, length, slice_get}

-- a number from 1 to `most`
abbrev pub IsUpTo : ℕ → ℕ → Type 0
IsUpTo most n = (1 ≤ n) × (n ≤ most)

-- the second list begins with the first
abbrev pub Begins : {X : Type 0} → List X → List X → Type 0
Begins {X} xs ys = (rest : List X) × (ys ≡ xs ++ rest)

-- the lists are of one length, and this holds of the two elements at each place
pub record Pairwise {A B : Type 0} (P : A → B → Type 0) (xs : List A) (ys : List B) : Type 0 where
  pub as_many : length ys ≡ length xs
  pub each : (k : ℕ) (x : A) (y : B) → slice_get xs k ≡ Some x → slice_get ys k ≡ Some y → P x y

-- one after the other, these led from the first state to the last
pub data Chain {X A : Type 0} (leads : X → A → A → Type 0) (first : A) : List X → A → Type 0 where
  none : (xs : List X) (last : A) → xs ≡ [] → last ≡ first → Chain leads first xs last
  more : (xs : List X) (x : X) (now last : A) → Chain leads first xs now → leads x now last
      → Chain leads first (xs ++ x ∷ []) last
