-- What the calls of a device do to its file, and what a crash may do between two syncs.
use Rattle.std.specs.Prelude.{◌<◌, ◌≡◌, ◌⊎◌, ℕ, ◌+◌, ◌≤◌, max, List, [], ◌∷◌, ◌++◌, length, take, drop, Result, IsErr}

-- the file with these bytes at this offset, in place of as many
abbrev pub log_overwritten : List ℕ → ℕ → List ℕ → List ℕ
log_overwritten old at bytes = take at old ++ bytes ++ drop (at + length bytes) old

-- a byte that is written alone is there or not
pub record IsByteWhole (at : ℕ) (bytes old new : List ℕ) : Type 0 where
  pub alone : (b : ℕ) → bytes ≡ b ∷ [] → (new ≡ old) ⊎ (new ≡ log_overwritten old at bytes)

-- over bytes that are there: the file with some bytes, as many, at this offset
pub record IsOverwritten (old : List ℕ) (at : ℕ) (bytes file : List ℕ) : Type 0 where
  pub some : List ℕ
  pub count : length some ≡ length bytes
  pub file_is : file ≡ log_overwritten old at some
  pub whole : IsByteWhole at bytes old file

-- any n bytes in the range and past the old end, the same elsewhere
pub record IsTorn (at n : ℕ) (old new : List ℕ) : Type 0 where
  pub before : take at new ≡ take at old
  pub after : drop (at + n) new ≡ drop (at + n) old
  pub no_shorter : length old ≤ length new
  pub no_longer : length new ≤ max (length old) (at + n)

-- after a write of these bytes that a crash cuts short
pub record Torn (at : ℕ) (bytes old new : List ℕ) : Type 0 where
  pub torn : IsTorn at (length bytes) old new
  pub whole : IsByteWhole at bytes old new

-- each new outcome of a crash is an old outcome after a step
abbrev pub OutcomesFollow : (List ℕ → List ℕ → Type 0) → (List ℕ → Type 0) → (List ℕ → Type 0) → Type 0
OutcomesFollow step old new = (c : List ℕ) → new c → (d : List ℕ) × old d × step d c

-- a crash leaves this and nothing else
abbrev pub Only : List ℕ → (List ℕ → Type 0) → Type 0
Only file outcomes = (c : List ℕ) → outcomes c → c ≡ file

-- Time goes on: a crash since t might have left what it might have left before, or what it may leave now.
pub record Elapses (before now : ℕ) (past since : ℕ → List ℕ → Type 0) (may_leave : List ℕ → Type 0) : Type 0 where
  pub later : before ≤ now
  pub nothing_else : (t : ℕ) (c : List ℕ) → t ≤ before → since t c → past t c ⊎ may_leave c
  pub keeps : (t : ℕ) (c : List ℕ) → t ≤ before → past t c → since t c

-- A crash at any moment since old leaves a file that has P.
pub record LeavesOnly {D : Type 0} (moment : D → ℕ) (left_since : D → ℕ → List ℕ → Type 0) (old new : D)
    (P : List ℕ → Type 0) : Type 0 where
  pub later : moment old ≤ moment new
  pub each : (c : List ℕ) → left_since new (moment old) c → P c
  -- for a run that began earlier
  pub before : (t : ℕ) (c : List ℕ) → t ≤ moment old → left_since new t c → left_since old t c ⊎ P c

-- an error is told only where the device has failed since
pub record HasCause {T E : Type 0} (before now : ℕ) (result : Result T E) : Type 0 where
  pub later : before ≤ now
  pub failed : IsErr result → before < now
