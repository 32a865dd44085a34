-- What a manager's accounts are worth together, and what moves it.
use Rattle.std.specs.Prelude.{◌≡◌, ℕ, ℤ, pos, ◌+ℤ◌, Bool, true, ◌==◌, ◌&&◌, if◌then◌else◌, Option, None, Some, List, []}
use Rattle.std.specs.Prelude.{◌∷◌}
use Rattle.std.specs.List.{All}
use Rattle.xa_base.specs.Sums.{total}
use Rattle.xa_words.specs.Xid.{XidName, xid_eq}
use Rattle.xa_words.specs.declared.code.Code.{Code}
use Rattle.xa_words.specs.declared.request.Op.{Op}
use Rattle.xa_words.specs.declared.request.Op.TheVariants.{Add, Commit}
use Rattle.xa_words.specs.declared.request.Op.TheVariants.{Heur}
use Rattle.xa_words.specs.declared.request.Request.{Request}
use Rattle.xa_tables.specs.declared.state.Association.{Association}
use Rattle.xa_tables.specs.ManagerTables.{Tables, association_of, is_declared, value_of, sum_of}
use Rattle.xa_tables.specs.Next.{next}
use Rattle.xa_tables.specs.Managers.{opening}
use Rattle.xa_tables.specs.Histories.{History, tables_after, added_by, ending, fate_of}
use Rattle.xa_words.specs.Codes.{is_done}

-- what accounts were declared with, all together
abbrev pub worth_declared : List (List ℕ × ℕ) → ℤ
worth_declared accounts = total (λ d. pos d.1) accounts

-- what they are worth together by their committed values
abbrev pub worth : List (List ℕ × ℕ) → Tables → ℤ
worth accounts T = total (λ d. value_of T.values d.0) accounts

-- what a branch holds: its sums of all of them together
abbrev pub held_by : List (List ℕ × ℕ) → XidName → Tables → ℤ
held_by accounts x T = total (λ d. sum_of T.sums x d.0) accounts

-- ---- what moves the worth

-- what a request with this code adds to the worth: a Commit with XA_OK, or a heuristic one, what its branch holds
abbrev pub moved_by : List (List ℕ × ℕ) → Op → Code → Tables → ℤ
moved_by accounts (Commit y one_phase) c T = if is_done c then held_by accounts y T else pos 0
moved_by accounts (Heur y commits) c T = if is_done c && commits then held_by accounts y T else pos 0
moved_by accounts op c T = pos 0

-- what the requests of a history add that pass a test, from the tables T on
abbrev pub moved : List (List ℕ × ℕ) → (Request → Bool) → History → Tables → ℤ
moved accounts passes [] T = pos 0
moved accounts passes (r ∷ h) T =
    (if passes r then moved_by accounts r.op (next r.thread r.op T).1 T else pos 0)
    +ℤ moved accounts passes h (next r.thread r.op T).0

-- every request passes
abbrev pub is_any : Request → Bool
is_any r = true

-- the requests of thread t do
abbrev pub is_of : ℕ → Request → Bool
is_of t r = r.thread == t

-- ---- what a branch has added

-- what a request with this code, of a thread with this association, adds to the sums of x
abbrev pub gain : XidName → Op → Code → Option Association → ℤ
gain x (Add k d) c a = if is_done c then added_by a d (λ y. xid_eq y x) else pos 0
gain x op c a = pos 0

-- what is left of it: nothing, where the request ends the branch
abbrev pub unless_ended : Option Bool → ℤ → ℤ
unless_ended None held = held
unless_ended (Some committing) held = pos 0

-- what x has added by the end of a history since it was last ended, from the tables T on, where it had added so much
abbrev pub added_by_now : XidName → ℤ → History → Tables → ℤ
added_by_now x held [] T = held
added_by_now x held (r ∷ h) T =
    added_by_now x
    (unless_ended (ending (fate_of x r.op (next r.thread r.op T).1))
    (held +ℤ gain x r.op (next r.thread r.op T).1 (association_of T r.thread)))
    h (next r.thread r.op T).0

-- ---- statements of the laws

-- the worth after a history is what was declared and what its Commits have added
abbrev pub WorthIsMoved : List (List ℕ × ℕ) → History → Type 0
WorthIsMoved accounts h =
    worth accounts (tables_after h (opening accounts))
    ≡ worth_declared accounts +ℤ moved accounts is_any h (opening accounts)

-- the tables declare each of the accounts
abbrev pub DeclareEach : List (List ℕ × ℕ) → Tables → Type 0
DeclareEach accounts T = All (λ d. is_declared T d.0 ≡ true) accounts

-- the worth after a history is what it was before, in the tables T, and what its Commits have added
abbrev pub WorthIsMovedFrom : List (List ℕ × ℕ) → History → Tables → Type 0
WorthIsMovedFrom accounts h T =
    worth accounts (tables_after h T) ≡ worth accounts T +ℤ moved accounts is_any h T

-- a branch holds what it has added since it was last ended
abbrev pub HoldsItsAdditions : List (List ℕ × ℕ) → XidName → History → Type 0
HoldsItsAdditions accounts x h =
    held_by accounts x (tables_after h (opening accounts)) ≡ added_by_now x (pos 0) h (opening accounts)
