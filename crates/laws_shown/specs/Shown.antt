-- What became of the branches of a commit of several branches, by the line that shows it.
use Rattle.std.specs.Prelude.{◌≡◌, ◌≢◌, ℕ, ℤ, pos, ◌+ℤ◌, Bool, true, false, ◌||◌, ◌&&◌, ◌==◌, Some, All, List, []}
use Rattle.std.specs.Prelude.{◌∷◌, ◌++◌, length, map}
use Rattle.std.specs.List.{list_any}
use Rattle.std.specs.FinMap as finmap
use Rattle.xa_base.specs.Lists.{Chain}
use Rattle.xa_words.specs.Xid.{xid_eq}
use Rattle.xa_tables.specs.Histories.{Absent}
use Rattle.xa_tables.specs.Openings.{added_over}
use Rattle.xa_switch.specs.Settled.{Settling, journal}
use Rattle.xa_switch.specs.Fates.{IsOpenedWith}
use Rattle.xa_scan.specs.Left.{ScanView, left_at}
use Rattle.xa_driver.specs.declared.branch.Branch.{Branch}
use Rattle.xa_driver.specs.declared.done.CommitOutcome.TheVariants as outcome
use Rattle.xa_driver.specs.declared.done.Done.{Done}
use Rattle.laws_commit.specs.Outcomes.{ends_committed, ends_in_doubt, ends_heuristic, ends_read_only, has_committed}
use Rattle.laws_commit.specs.Outcomes.{has_rolled_back}
use Rattle.laws_commit.specs.Outcomes.{EachOutcome, KeepsTheVotes, TellsTheFates}
use Rattle.laws_commit.specs.Additions.{CountsTheCommitted, Shares}
use Rattle.xa_words.specs.Tran.{TranName}
use Rattle.script_grammar.specs.declared.step.ManagerCall.TheVariants as manager_call
use Rattle.script_grammar.specs.declared.step.CommitAll.{CommitAll}
use Rattle.script_grammar.specs.declared.step.Action.TheVariants as action
use Rattle.script_grammar.specs.Steps.{ScriptCall, ScriptAction, ScriptTask, ScriptStep}
use Rattle.script_grammar.specs.declared.script.Declared.{Declared}
use Rattle.script_grammar.specs.Contents.{Content, tasks_of}
use Rattle.script_transcript.specs.declared.answer.TranscriptLine.{TranscriptLine}
use Rattle.script_session.specs.Committing.{branches_of}
use Rattle.laws_transcript.specs.Parts.{Part, entered_so_far}
use Rattle.laws_transcript.specs.Journals.{Line, TakesPart, AreCarriedOut, ShowsCommit, entries_of}
use Rattle.laws_transcript.specs.ToldOpenings.{ToldOpening, Former, settled_over}
use Rattle.script_transcript.specs.Values.{opened, histories_at, opened_after}

-- ---- by the line alone

-- Where a commit shows `commit` no branch is shown as rolled back, and where it shows `abort` none as committed.
pub record IsOneOutcome (done : Done) : Type 0 where
  pub kept : done.commit ≡ true → has_rolled_back done ≡ false
  pub uncommitted : done.commit ≡ false → has_committed done ≡ false

-- So it is where the line is a commit of several branches.
abbrev pub ShowsOneOutcome : Line → Type 0
ShowsOneOutcome l = (c : CommitAll TranName) (done : Done) → ShowsCommit l c (outcome.Decided done)
    → IsOneOutcome done

-- ---- who else names its branches

-- A line's place among those of its thread: the lines before it have made `old` of the thread's part, it makes `new` of
-- that, and those after it all that is left in the end.
pub record LinePlace {steps : List ScriptStep} {answers : List TranscriptLine} {settled : Settling} {t : ℕ}
    {first : Part}
    (told : AreCarriedOut steps answers settled t first) (before : List Line) (l : Line) (after : List Line)
    (old new : Part) : Type 0 where
  pub lines : told.lines ≡ before ++ l ∷ after
  pub earlier : Chain (TakesPart settled) first before old
  pub takes : TakesPart settled l old new
  pub later : Chain (TakesPart settled) new after
      (record {
        entries = λ m. entries_of t (journal settled m);
        handles = told.left;
        log = told.log;
        is_lost = told.is_lost;
        scan = told.scan;
      })

-- The branches that a call names: that of its manager with its xid; and so does a heuristic decision.
abbrev pub branches_by : ℕ → ScriptCall → List Branch
branches_by m (manager_call.Xa c (Some x)) = record { m = m; xid = x } ∷ []
branches_by m (manager_call.Heur x commits) = record { m = m; xid = x } ∷ []
branches_by m other = []

-- The branch is among them, by its manager and its xid.
abbrev pub is_branch_among : Branch → List Branch → Bool
is_branch_among b bs = list_any (λ c. (c.m == b.m) && xid_eq c.xid b.xid) bs

-- What a thread with these scans does names the branch: a commit names all its own, and a resolve those that its
-- thread's scans have as left.
abbrev pub names_it : ScanView → Branch → ScriptAction → Bool
names_it z b (action.Call q) = is_branch_among b (branches_by q.manager q.call)
names_it z b (action.CommitAll c) = is_branch_among b (branches_of c)
names_it z b action.Resolve = list_any (λ x. xid_eq x b.xid) (left_at z b.m)

-- The task names none of these branches.
abbrev pub NamesNone : ScanView → List Branch → ScriptTask → Type 0
NamesNone z bs p = All (λ b. names_it z b p.action ≡ false) bs

-- No line names these branches but this one of thread t and those of its thread before it, in an opening that began
-- with these scans. No line of another thread does so anywhere in the opening, since a transcript tells no order of two
-- threads' lines. So no commit of a branch is meant for which another thread has worked: what holds of that is said of
-- the journals, by who names it after its Prepare.
pub record AreNamedByNoOther (steps : List ScriptStep) (scans : ℕ → ScanView) (t : ℕ) (bs : List Branch)
    (after : List Line) : Type 0 where
  pub threads : (u : ℕ) → u ≢ t → All (NamesNone (scans u) bs) (tasks_of u steps)
  pub later : All (λ l. NamesNone (scans t) bs l.task) after

-- ---- what became of them

-- What a commit of thread t shows of its branches is what became of them, where its line has found `old` of the
-- thread's part: the number of a branch's Prepare is how many entries the thread has there at the branch's manager.
pub record IsAsShown (settled : Settling) (t : ℕ) (bs : List Branch) (old : Part) (done : Done) : Type 0 where
  -- where it shows `commit`, each branch is shown as committed that isn't shown as read only, in doubt, or decided
  -- heuristically
  pub committed : done.commit ≡ true
      → All (λ e. (ends_committed e || (ends_read_only e || (ends_in_doubt e || ends_heuristic e)))
      ≡ true) done.endings.items
  -- where it shows `abort`, none is
  pub aborted : done.commit ≡ false → has_committed done ≡ false
  -- one that voted to commit is in doubt only where its manager was shut before the place of its second request, and
  -- decided heuristically only where a decision of it was carried out after its Prepare
  pub votes : KeepsTheVotes settled t bs (entered_so_far old) done
  -- what is shown of each became of it
  pub fates : TellsTheFates settled t bs (entered_so_far old) done

-- The values count what it shows as committed.
pub record CountsAsShown (settled : Settling) (t : ℕ) (bs : List Branch) (old : Part) (done : Done) : Type 0 where
  -- of each branch the additions count exactly where it is shown as committed
  pub counts : CountsTheCommitted settled t bs (entered_so_far old) done
  -- so where none is shown as in doubt, all additions of the transaction count on `commit`, and none on `abort`
  pub whole : list_any ends_in_doubt done.endings.items ≡ false
      → EachOutcome (λ b v e. Shares settled t b (length (old.entries b.m)) done.commit)
      bs done.votes.items done.endings.items

-- A key is shown with its value at the first opening and what the requests in its manager's journals have added to it,
-- each accepted addition whose branch commits later, in its opening or in another. Each journal follows the tables that
-- the openings before it left.
pub record IsSumOfShares (s : Content) (before : List Former) (last : ToldOpening) (d : Declared) : Type 0 where
  pub former : (xs : List Former) (f : Former) (ys : List Former) → before ≡ xs ++ f ∷ ys
      → IsOpenedWith f.opening.settled d.manager (opened_after s (map (λ g. g.opening.settled) xs) d.manager)
  pub latest : IsOpenedWith last.settled d.manager (opened_after s (map (λ g. g.opening.settled) before) d.manager)
  pub first : ℤ
  pub at_first : finmap.get (opened s d.manager).values d.key ≡ Some first
  pub sum : pos d.value
      ≡ first +ℤ added_over d.key (λ x. Absent) (histories_at (settled_over before last) d.manager) (opened s d.manager)
