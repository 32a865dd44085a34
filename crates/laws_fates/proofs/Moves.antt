-- What one request does to sums and values: nothing, a branch ends and has no sums, or a branch adds to a key.
use Rattle.xa_base.proofs.{◌≡◌, ℕ, ℤ, pos, Bool, true, false, if◌then◌else◌, Option, None, Some, List, refl, ap, ◌∙◌}
use Rattle.xa_words.specs.{XidName, xid_eq, Done, RbTransient, Op, Add, Code}
use Rattle.xa_tables.specs.{Association, association_of, is_declared, has_other_touched, TablesAndCode, next, added}
use Rattle.xa_tables.specs.{committed, Fate, fate_of, if_named, share_of, moved_by, held_by, Tables, sums_without, Live}
use Rattle.xa_tables.specs.{InDoubt, Committed, HeurCommitted, HeurRolledBack, ending}
use Rattle.std.specs.FinSet as set
use Rattle.xa_tables.specs.declared.state.HeuristicDecision.TheVariants as decision
use Rattle.xa_tables.proofs.Effects.{Effect, Stays, Starts, Joins, Resumes, Dooms, Adds, Prepares, Commits, Drops}
use Rattle.xa_tables.proofs.Effects.{CommitsByItself, RollsBackByItself, effect_of, undone_adds}

pub quiet_named : (x y : XidName) (o : Option Fate) → ending o ≡ None → ending (if_named x y o) ≡ None
quiet_named x y o e = elim (xid_eq y x) as (λ b. ending (if b then o else None) ≡ None) [ true ↦ e | false ↦ refl ]

pub named_ending : (x y : XidName) (o : Option Fate) → ending (if_named x y o) ≡ (if xid_eq y x then ending o else None)
named_ending x y o =
    elim (xid_eq y x) as (λ c. ending (if c then o else None) ≡ (if c then ending o else None))
    [ true ↦ refl | false ↦ refl ]

-- the request with this code adds nothing to any key
abbrev AddsNothing : Op → Code → Type 0
AddsNothing op c = (k : List ℕ) (l : Option Association) (later : XidName → Bool) → share_of k op c l later ≡ pos 0

-- what a request of a thread with this association that is so answered does to the sums and values of T
pub data Moves (T : Tables) : Option Association → Op → TablesAndCode → Type 0 where
  -- nothing, and it ends no branch
  Still : (l : Option Association) (op : Op) (a : TablesAndCode) → a.0.sums ≡ T.sums → a.0.values ≡ T.values
      → AddsNothing op a.1
      → ((accounts : List (List ℕ × ℕ)) → moved_by accounts op a.1 T ≡ pos 0)
      → ((x : XidName) → ending (fate_of x op a.1) ≡ None) → Moves T l op a
  -- y ends, with a commit or without one, and has no sums
  Ended : (l : Option Association) (op : Op) (a : TablesAndCode) (y : XidName) (commits : Bool)
      → a.0.sums ≡ sums_without T.sums y
      → a.0.values ≡ (if commits then committed y T else T).values → AddsNothing op a.1
      → ((accounts : List (List ℕ × ℕ))
      → moved_by accounts op a.1 T ≡ (if commits then held_by accounts y T else pos 0))
      → ((x : XidName) → ending (fate_of x op a.1) ≡ (if xid_eq y x then Some commits else None)) → Moves T l op a
  -- the thread's branch adds d to a key that no other has touched
  Added : (own : List ℕ) (d : ℤ) (l : Association) → is_declared T own ≡ true
      → has_other_touched T.sums l.xid own ≡ false
      → Moves T (Some l) (Add own d) (added l.xid own d T, Done)

module _ (t : ℕ) (T : Tables) where
  abbrev Moving : Op → TablesAndCode → Type 0
  Moving op a = Moves T (association_of T t) op a

  by_effect : {op : Op} {a : TablesAndCode} → Effect t T op a → Moving op a
  by_effect (Stays op c tells) =
      Still _ _ _ refl refl tells.shares (λ accounts. tells.moved accounts T) (λ x. ap ending (tells.fates x))
  by_effect (Starts y free fresh) =
      Still _ _ _ refl refl (λ k l later. refl) (λ accounts. refl) (λ x. quiet_named x y (Some Live) refl)
  by_effect (Joins y free there unprepared) =
      Still _ _ _ refl refl (λ k l later. refl) (λ accounts. refl) (λ x. quiet_named x y None refl)
  by_effect (Resumes y own) =
      Still _ _ _ refl refl (λ k l later. refl) (λ accounts. refl) (λ x. quiet_named x y None refl)
  by_effect (Dooms own d l mine) =
      Still _ _ _ refl refl (undone_adds own d RbTransient refl).shares (λ accounts. refl) (λ x. refl)
  by_effect (Adds own d l mine known alone) = rw mine (Added own d l known alone)
  by_effect (Prepares y nobody unbroken) =
      Still _ _ _ refl refl (λ k l later. refl) (λ accounts. refl) (λ x. quiet_named x y (Some InDoubt) refl)
  by_effect (Commits y one_phase nobody may) =
      Ended _ _ _ y true refl refl (λ k l later. refl) (λ accounts. refl) (λ x. named_ending x y (Some Committed))
  by_effect (Drops op y c nobody left tells) =
      Ended _ _ _ y false refl refl tells.shares (λ accounts. tells.moved accounts T)
      (λ x. ap ending (tells.fates x) ∙ named_ending x y (Some tells.fate)
      ∙ ap (λ e. if xid_eq y x then e else None) tells.uncommitted)
  by_effect (CommitsByItself y voted) =
      Ended _ _ _ y true refl refl (λ k l later. refl) (λ accounts. refl) (λ x. named_ending x y (Some HeurCommitted))
  by_effect (RollsBackByItself y voted) =
      Ended _ _ _ y false refl refl (λ k l later. refl) (λ accounts. refl) (λ x. named_ending x y (Some HeurRolledBack))
  -- the others change no sum and no value
  by_effect effect = Still _ _ _ refl refl (λ k l later. refl) (λ accounts. refl) (λ x. refl)

-- each request does one of them
pub moves_of : (t : ℕ) (op : Op) (T : Tables) → Moves T (association_of T t) op (next t op T)
moves_of t op T = by_effect t T (effect_of t op T)
