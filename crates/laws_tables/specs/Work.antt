-- A branch's work by one thread.
use Rattle.std.specs.Prelude.{◌≡◌, ℕ, ◌+◌, ℤ, pos, List, [], ◌∷◌, ◌++◌}
use Rattle.xa_words.specs.Xid.{XidName}
use Rattle.xa_words.specs.declared.code.Code.TheVariants.{Done}
use Rattle.xa_words.specs.declared.request.Op.{Op}
use Rattle.xa_words.specs.declared.request.Op.TheVariants.{Start, Add, End}
use Rattle.xa_words.specs.declared.request.StartHow.TheVariants.{Fresh}
use Rattle.xa_words.specs.declared.request.EndHow.TheVariants.{Success}
use Rattle.xa_words.specs.declared.request.Request.{Request}
use Rattle.xa_tables.specs.ManagerTables.{Tables}
use Rattle.xa_tables.specs.Next.{next}
use Rattle.xa_tables.specs.Histories.{History, of_thread, tables_after}
use Rattle.xa_tables.specs.Prepared.{NamesNowhere}
use Rattle.xa_tables.specs.Worth.{added_by_now}

-- thread t's request of number n
abbrev pub request : ℕ → ℕ → Op → Request
request t n op = record { thread = t; number = n; op = op }

-- nobody names the branch, and thread t asks for nothing
pub record LeavesAtWork (t : ℕ) (x : XidName) (h : History) : Type 0 where
  pub unnamed : NamesNowhere x h
  pub quiet : of_thread t h ≡ []

-- Thread t did the branch's work: it began x, added d to a key and ended its association, with numbers from n on. Begin
-- and addition were answered XA_OK. No other request names x, and t asked for nothing in between and after it.
pub record DoesWork (t n : ℕ) (x : XidName) (k : List ℕ) (d : ℤ) (T : Tables) (h : History) : Type 0 where
  pub before : History
  pub begun : History
  pub added : History
  pub after : History
  pub place : h
      ≡ before
      ++ request t n (Start x Fresh)
      ∷ (begun ++ request t (n + 1) (Add k d) ∷ (added ++ request t (n + 2) (End x Success) ∷ after))
  pub starts : (next t (Start x Fresh) (tables_after before T)).1 ≡ Done
  pub adds : (next t (Add k d) (tables_after begun (next t (Start x Fresh) (tables_after before T)).0)).1 ≡ Done
  pub unnamed : NamesNowhere x before
  pub at_work : LeavesAtWork t x begun
  pub ending : LeavesAtWork t x added
  pub ended : LeavesAtWork t x after

-- so d is what it has added
abbrev pub AddsAsItWorks : ℕ → ℕ → XidName → List ℕ → ℤ → Tables → History → Type 0
AddsAsItWorks t n x k d T h = DoesWork t n x k d T h → added_by_now x (pos 0) h T ≡ d
