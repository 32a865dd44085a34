-- What accounts are worth after openings one after another, of which any were killed.
use Rattle.std.specs.Prelude.{◌≡◌, ℕ, Some, true, List, ◌∷◌, ◌++◌, map}
use Rattle.std.specs.List.{All, IsDistinct}
use Rattle.xa_words.specs.Xid.{xid_eq}
use Rattle.xa_words.specs.Accounts.{are_accounts}
use Rattle.xa_tables.specs.ManagerTables.{Tables}
use Rattle.xa_tables.specs.Managers.{opening}
use Rattle.xa_switch.specs.Fates.{first_of}
use Rattle.laws_commit.specs.Calls.{CommitCall}
use Rattle.laws_commit.specs.Worth.{histories}
use Rattle.laws_balances.specs.Days.{DayLeg}
use Rattle.laws_balances.specs.MovedOver.{CommitsAmong, CommitsNowhere}
use Rattle.laws_balances.specs.SettledDays.{ComesOutByTheLog}
use Rattle.laws_kill.specs.Openings.{EndedOpening, as_opening, settled_as, with_commit}

-- A branch of a commit at manager m came out by the log, in whichever of these openings the commit was begun, and a
-- later one in which it was resolved; and nothing commits it in those before, nor in the rest.
pub record ComesOutInTurn (accounts : List (List ℕ × ℕ)) (m : ℕ) (os : List EndedOpening) (g : DayLeg) : Type 0 where
  pub before : List EndedOpening
  pub begun : EndedOpening
  pub later : List EndedOpening
  pub rest : List EndedOpening
  pub parts : os ≡ before ++ begun ∷ (later ++ rest)
  pub still : All (CommitsNowhere g.xid) (histories m (map as_opening before))
  pub gone : All (CommitsNowhere g.xid) (histories m (map as_opening rest))
  pub first : Tables
  pub begins : first_of (settled_as begun.how) m ≡ Some first
  pub call : CommitCall
  pub out : ComesOutByTheLog accounts m first (with_commit begun call) (map as_opening later) g

-- All that is committed at manager m in these openings is of these branches.
pub record AreLegsOfAll (accounts : List (List ℕ × ℕ)) (m : ℕ) (os : List EndedOpening) (legs : List DayLeg)
    : Type 0 where
  pub distinct : IsDistinct xid_eq (map (λ g. g.xid) legs)
  pub among : All (CommitsAmong (map (λ g. g.xid) legs)) (histories m (map as_opening os))
  pub each : All (ComesOutInTurn accounts m os) legs

-- The first of these openings began with the accounts as they were declared, and all that is committed at manager m is
-- of these branches.
pub record AreDeclaredAt (accounts : List (List ℕ × ℕ)) (m : ℕ) (o : EndedOpening) (later : List EndedOpening)
    (legs : List DayLeg) : Type 0 where
  pub sound : are_accounts accounts ≡ true
  pub first : first_of (settled_as o.how) m ≡ Some (opening accounts)
  pub legs_ : AreLegsOfAll accounts m (o ∷ later) legs
