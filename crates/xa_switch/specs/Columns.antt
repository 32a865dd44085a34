-- Rows that are dealt into columns.
use Rattle.std.specs.Prelude.{◌≡◌, ℕ, List, [], ◌∷◌, ◌++◌, length, slice_get, Some}

-- each element of a row at the end of its column
abbrev pub put_row : {X : Type 0} → List (List X) → List X → List (List X)
put_row [] xs = []
put_row (c ∷ cs) [] = c ∷ cs
put_row (c ∷ cs) (x ∷ xs) = (c ++ x ∷ []) ∷ put_row cs xs

-- what holds of each element with its place
abbrev pub Each : {X : Type 0} → (ℕ → X → Type 0) → List X → Type 0
Each {X} P xs = (k : ℕ) (x : X) → slice_get xs k ≡ Some x → P k x

-- ends of lanes: the receivers `rs`, and the senders in columns, so that column k has sender k of each lane
pub record AreLanes {S R : Type 0} (IsReceiver : ℕ → R → Type 0) (IsSender : ℕ → ℕ → S → R → Type 0) (senders lanes : ℕ)
    (columns : List (List S)) (rs : List R) : Type 0 where
  pub many : length rs ≡ lanes
  pub receivers : Each IsReceiver rs
  pub wide : length columns ≡ senders
  pub deep : Each (λ k c. length c ≡ lanes) columns
  pub dealt : (k j : ℕ) (c : List S) (s : S) (r : R) → slice_get columns k ≡ Some c → slice_get c j ≡ Some s
      → slice_get rs j ≡ Some r → IsSender k j s r
