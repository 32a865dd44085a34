-- What a soak that agrees has come to.
use Rattle.std.specs.Prelude.{◌≡◌, ℕ, pos, ◌≤◌, List, [], ◌∷◌, length, map, option_map, Option}
use Rattle.std.specs.List.{All}
use Rattle.test_replay.specs.Replay.{Agrees}
use Rattle.xa_switch.specs.Settled.{Settling, journal, sent, value}

-- how many requests each of eight threads sent to manager m
abbrev pub sent_by_all : Settling → ℕ → List ℕ
sent_by_all s m = map (λ t. length (sent s t m)) (1 ∷ 2 ∷ 3 ∷ 4 ∷ 5 ∷ 6 ∷ 7 ∷ 8 ∷ [])

-- these are the keys of the accounts, with the values that they have at manager m in the end
pub record AreValuesAt (accounts : List (List ℕ × ℕ)) (s : Settling) (m : ℕ) (values : List (List ℕ × Option ℕ))
    : Type 0 where
  pub keys : map (λ v. v.0) values ≡ map (λ a. a.0) accounts
  pub each : All (λ v. option_map pos v.1 ≡ value s m v.0) values

-- manager m's journal, what was sent to it and its values are those of a replay from these accounts on
pub record AgreesAt (accounts : List (List ℕ × ℕ)) (s : Settling) (m : ℕ) : Type 0 where
  pub values : List (List ℕ × Option ℕ)
  pub are : AreValuesAt accounts s m values
  pub agrees : Agrees accounts (journal s m) (sent_by_all s m) values

-- so for each of eight managers
abbrev pub AllAgree : List (List ℕ × ℕ) → Settling → Type 0
AllAgree accounts s = (m : ℕ) → 1 ≤ m → m ≤ 8 → AgreesAt accounts s m
