-- Openings one after another: the tables that an opening begins with, and histories over several openings.
use Rattle.std.specs.Prelude.{◌≡◌, ℕ, ℤ, pos, ◌+ℤ◌, Bool, true, false, if◌then◌else◌, Option, None, Some, option_map}
use Rattle.std.specs.Prelude.{List, [], ◌∷◌, ◌++◌}
use Rattle.std.specs.List.{IsDistinct, list_any}
use Rattle.std.specs.List.Sorted.{IsSorted}
use Rattle.std.specs.FinSet as set
use Rattle.std.specs.FinMap as map
use Rattle.xa_words.specs.Xid.{XidName, xid_cmp, xid_eq}
use Rattle.xa_tables.specs.declared.state.State.{State}
use Rattle.xa_tables.specs.declared.state.State.TheVariants.{Active, Idle, Prepared, RollbackOnly}
use Rattle.xa_tables.specs.declared.state.State.TheVariants.{HeuristicallyCompleted}
use Rattle.xa_tables.specs.ManagerTables.{Tables, state_of, is_left, is_prepared}
use Rattle.xa_tables.specs.Histories.{History, Fate, Absent, Live, InDoubt, RolledBack}
use Rattle.xa_tables.specs.Histories.{fate, is_live, coded, accepted, tables_after, commits_later, added_in}
use Rattle.xa_tables.specs.Histories.{decided_fate, IsFateOf}

-- ---- the tables that an opening begins with

-- at the first opening: no thread, no branch, not shut; any values
pub record IsNew (T : Tables) : Type 0 where
  pub opened : T.opened ≡ set.empty
  pub associations : T.associations ≡ map.empty
  pub states : T.states ≡ map.empty
  pub sums : T.sums ≡ map.empty
  pub shut : T.shut ≡ false

-- at any opening: nobody has it open or is associated, and it isn't shut; each branch that exists was left by the
-- openings before, and only prepared branches have sums; any values
pub record IsOpening (T : Tables) : Type 0 where
  pub opened : T.opened ≡ set.empty
  pub associations : T.associations ≡ map.empty
  pub shut : T.shut ≡ false
  pub left : (x : XidName) (s : State) → state_of T x ≡ Some s → is_left T x ≡ true
  pub sums : (x : XidName) (k : List ℕ) → is_prepared T x ≡ false → map.get T.sums (x, k) ≡ None

-- What a reopening makes of the tables: nobody has it open or is associated, and it isn't shut; the prepared branches
-- stay with their sums, and the heuristically completed ones, which have none; all others are gone; the values stay.
abbrev pub reopened : Tables → Tables
reopened T =
    record {
      opened = set.empty;
      associations = map.empty;
      states = map.retain_keys T.states (λ x. is_left T x);
      sums = map.retain_keys T.sums (λ p. is_prepared T p.0);
      values = T.values;
      shut = false;
    }

-- these are the branches that are left, each once and rising
pub record AreLeft (xs : List XidName) (T : Tables) : Type 0 where
  pub rising : IsSorted xid_cmp xs
  pub once : IsDistinct xid_eq xs
  pub each : (x : XidName) → list_any (xid_eq x) xs ≡ is_left T x

-- the tables that openings with these histories leave to the next, the first of which begins with T
abbrev pub left_by : List History → Tables → Tables
left_by [] T = T
left_by (h ∷ hs) T = left_by hs (reopened (tables_after h T))

-- ---- fates

-- a reopening ends each branch at work, and rolls it back
abbrev pub reopened_fate : Fate → Fate
reopened_fate f = if is_live f then RolledBack else f

-- what an opening's first tables tell of a branch in this state
abbrev pub fate_of_state : Option State → Fate
fate_of_state None = Absent
fate_of_state (Some Active) = Live
fate_of_state (Some Idle) = Live
fate_of_state (Some Prepared) = InDoubt
fate_of_state (Some (RollbackOnly reason)) = Live
fate_of_state (Some (HeuristicallyCompleted decision)) = decided_fate decision

-- the fate of x as the next opening begins, where it was f as the first of these began
abbrev pub fate_left : XidName → Fate → List History → Tables → Fate
fate_left x f [] T = f
fate_left x f (h ∷ hs) T = fate_left x (reopened_fate (fate x f h T)) hs (reopened (tables_after h T))

-- the fate of x after the history of an opening and those of the openings before it
abbrev pub fate_over : XidName → List History → History → Tables → Fate
fate_over x before h T = fate x (fate_left x Absent before T) h (left_by before T)

-- ---- values

-- Whether x commits in the openings with these histories, where its fate was f at the end of an opening that left the
-- tables T: a reopening ends each branch at work, and commits none.
abbrev pub commits_over : XidName → Fate → List History → Tables → Bool
commits_over x f [] T = false
commits_over x f (h ∷ hs) T =
    if is_live f then false
    else commits_later
    (commits_over x (fate x f h (reopened T)) hs (tables_after h (reopened T))) x (coded (accepted h) (reopened T))

-- what the openings with these histories add to the key, where F has the fates as the first of them begins: each
-- accepted Add counts whose branch commits later, in its opening or in another
abbrev pub added_over : List ℕ → (XidName → Fate) → List History → Tables → ℤ
added_over k F [] T = pos 0
added_over k F (h ∷ hs) T =
    added_in k (λ x. commits_over x (fate x (F x) h T) hs (tables_after h T)) (accepted h) T
    +ℤ added_over k (λ x. reopened_fate (fate x (F x) h T)) hs (reopened (tables_after h T))

-- the value of a key after openings with these histories: that at the first opening, and what they add to it
abbrev pub value_over : List ℕ → List History → Tables → Option ℤ
value_over k hs T = option_map (λ v. v +ℤ added_over k (λ x. Absent) hs T) (map.get T.values k)

-- ---- statements of the laws

-- over any openings the tables tell the fate of x
abbrev pub FatesAreTold : XidName → List History → History → Tables → Type 0
FatesAreTold x before h T = IsFateOf x (fate_over x before h T) (tables_after h (left_by before T))

-- over any openings the tables' value of a key is the value after them
abbrev pub ValueIsSum : List ℕ → List History → History → Tables → Type 0
ValueIsSum k before h T = map.get (tables_after h (left_by before T)).values k ≡ value_over k (before ++ h ∷ []) T
