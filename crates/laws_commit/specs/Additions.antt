-- What the values have of the additions of a global transaction.
use Rattle.std.specs.List.{list_any}
use Rattle.std.specs.Prelude.{◌≡◌, ℕ, ℤ, pos, Bool, false, not, ◌||◌, if◌then◌else◌, option_map, Some, List, ◌∷◌, ◌++◌}
use Rattle.xa_words.specs.Xid.{XidName}
use Rattle.xa_words.specs.declared.code.Code.TheVariants as code
use Rattle.xa_words.specs.declared.request.Op.TheVariants.{Add, Prepare}
use Rattle.xa_words.specs.declared.request.Request.{Request}
use Rattle.xa_tables.specs.ManagerTables.{Tables, association_of}
use Rattle.xa_tables.specs.Next.{next}
use Rattle.xa_tables.specs.Histories.{History, EndsNowhere, share, tables_after}
use Rattle.xa_switch.specs.Settled.{Settling}
use Rattle.xa_switch.specs.Fates.{IsOpenedWith, history}
use Rattle.xa_driver.specs.declared.branch.Branch.{Branch}
use Rattle.xa_driver.specs.declared.done.Done.{Done}
use Rattle.laws_commit.specs.Outcomes.{EachOutcome, has_committed, ends_committed, ends_in_doubt, ends_left}

-- thread t's Prepare of the branch, with number n
abbrev pub prepare_of : ℕ → ℕ → XidName → Request
prepare_of t n x = record { thread = t; number = n; op = Prepare x }

-- An addition of d to key k by branch x, in the history of a manager that was opened with the tables T: an Add that was
-- answered XA_OK while its thread was associated with x. After it stands thread t's Prepare of x, with number n, and
-- nothing in between ended x.
pub record IsAddition (x : XidName) (k : List ℕ) (d : ℤ) (t n : ℕ) (T : Tables) (h : History) : Type 0 where
  pub before : History
  pub adding : Request
  pub between : History
  pub after : History
  pub place : h ≡ before ++ adding ∷ (between ++ prepare_of t n x ∷ after)
  pub adds : adding.op ≡ Add k d
  pub answered : (next adding.thread adding.op (tables_after before T)).1 ≡ code.Done
  pub branch : option_map (λ a. a.xid) (association_of (tables_after before T) adding.thread) ≡ Some x
  pub unended : EndsNowhere x between (next adding.thread adding.op (tables_after before T)).0

-- no branch commits after the opening
abbrev pub none_later : XidName → Bool
none_later x = false

-- The share that the value of a key has, as the opening ends, of each addition of the branch, whose Prepare by thread t
-- has number n: all of it where it counts, and else nothing.
abbrev pub Shares : Settling → ℕ → Branch → ℕ → Bool → Type 0
Shares s t b n counts =
    (T : Tables) → IsOpenedWith s b.m T → (k : List ℕ) (d : ℤ) → (a : IsAddition b.xid k d t n T (history s b.m))
    → share k none_later a.adding (a.between ++ prepare_of t n b.xid ∷ a.after) (tables_after a.before T)
    ≡ (if counts then d else pos 0)

-- Of each branch of a commit, before which thread t had sent each manager so many requests, the additions count exactly
-- where the branch was committed.
pub record CountsTheCommitted (s : Settling) (t : ℕ) (bs : List Branch) (from : ℕ → ℕ) (d : Done) : Type 0 where
  pub each : EachOutcome (λ b v e. Shares s t b (from b.m) (ends_committed e)) bs d.votes.items d.endings.items

-- no branch of the call is in doubt, or left
abbrev pub is_decided_everywhere : Done → Bool
is_decided_everywhere d = not (list_any ends_in_doubt d.endings.items || list_any ends_left d.endings.items)

-- All additions of the transaction count, where a branch was committed, or none does.
pub record HasAllOrNothing (s : Settling) (t : ℕ) (bs : List Branch) (from : ℕ → ℕ) (d : Done) : Type 0 where
  pub each : EachOutcome (λ b v e. Shares s t b (from b.m) (has_committed d)) bs d.votes.items d.endings.items
