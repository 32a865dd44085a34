-- What moves the worth of a manager's accounts over openings one after another.
use Rattle.std.specs.Prelude.{◌≡◌, ℕ, ℤ, pos, ◌+ℤ◌, Bool, true, false, List, [], ◌∷◌}
use Rattle.std.specs.List.{All, list_any}
use Rattle.xa_words.specs.Xid.{XidName}
use Rattle.xa_words.specs.declared.request.Request.{Request}
use Rattle.xa_tables.specs.ManagerTables.{Tables}
use Rattle.xa_tables.specs.Histories.{History, tables_after}
use Rattle.xa_tables.specs.Openings.{reopened}
use Rattle.xa_tables.specs.Prepared.{names}
use Rattle.xa_tables.specs.Worth.{moved}
use Rattle.xa_driver.specs.Commits.{is_commit}

-- what the requests add that pass a test, in openings with these histories, the first of which begins with the tables T
abbrev pub moved_over : List (List ℕ × ℕ) → (Request → Bool) → List History → Tables → ℤ
moved_over accounts passes [] T = pos 0
moved_over accounts passes (h ∷ hs) T =
    moved accounts passes h T +ℤ moved_over accounts passes hs (reopened (tables_after h T))

-- the requests that name x pass
abbrev pub is_for : XidName → Request → Bool
is_for x r = names x r.op

-- no request of the history commits x
abbrev pub CommitsNowhere : XidName → History → Type 0
CommitsNowhere x h = All (λ r. names x r.op ≡ true → is_commit r.op ≡ false) h

-- each that commits is of one of these branches
abbrev pub CommitsAmong : List XidName → History → Type 0
CommitsAmong xs h = All (λ r. is_commit r.op ≡ true → list_any (λ x. names x r.op) xs ≡ true) h
