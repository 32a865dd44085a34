-- How far a script in turns has come, line by line.
use Rattle.script_grammar.specs.declared.step.Step.TheVariants as step
use Rattle.script_command.specs.declared.mode.RunMode.TheVariants as mode
use Rattle.xa_base.proofs.{◌≡◌, ℕ, false, ◌||◌, List, [], ◌∷◌, ◌++◌, length, map, sym, refl, ap, ◌∙◌, append-nil}
use Rattle.xa_base.proofs.{append_assoc, flat_map, length-map, All-nil, All-push, list_any-append, flat_push, ◌+◌, ◌≤◌}
use Rattle.xa_base.proofs.{zero, suc, Some, arith, slice_get, slice_index_or, slice_get-get_or, slice_get_within}
use Rattle.xa_base.proofs.{was_mapped, some_same}
use Rattle.xa_base.specs.Lists.Chain.{none, more}
use Rattle.xa_worker.specs.{WorkerView}
use Rattle.xa_log.specs.{trial_reopened as log_reopened}
use Rattle.xa_switch.specs.{Settling, Again, AreOfOneOpening, settling, IsScanOf, AreScansOf, MayReopen, reopening}
use Rattle.script_grammar.specs.{ScriptStep, Fits, threads_of, managers_of, is_reopen, NoneReopens, Content, Declared}
use Rattle.script_transcript.specs.{TranscriptLine, Reopened, opened_after, AreOfScript, AreValues}
use Rattle.script_session.specs.{Session, ThreadLog, new_session, session_of, sessions_again}
use Rattle.laws_transcript.specs.{Beginning, ToldOpening, Former, beginning, AreNumbersOf, BeginsAs, Leaves, TellsOf}
use Rattle.laws_transcript.specs.{Tells, settled_over}
use Rattle.laws_transcript.proofs.Opened.{opened_threads, opened_managers}
use Rattle.xa_script.specs.{DoesStep, turns_at, FollowsOpening, IsOutcome, IsOpen, Goes, IsClosedOpening, HasReached}
use Rattle.xa_script.specs.{HasCome}
use Rattle.xa_script.proofs.Runs.{went, AllWent}
use Rattle.xa_desk.specs.{DeskView}
use Rattle.xa_scan.specs.{ScanView, no_scan}
use Rattle.laws_transcript.proofs.Told.{log_left, log_there, tells, again_setup, may_reopen, next_beginning, leaves}
use Rattle.laws_transcript.proofs.Told.{of_script_after}
use Rattle.xa_base.specs.{Chain}
use Rattle.script_command.specs.{RunMode}

abbrev lines_of_former : Former → List ScriptStep
lines_of_former f = f.opening.steps ++ step.Reopen f.line ∷ []

abbrev answers_of_former : Former → List TranscriptLine
answers_of_former f = f.opening.answers ++ Reopened f.line ∷ []

module _ (s : Content) where
  just_opened : (b : Beginning) (sessions : List Session) (workers : List WorkerView) → IsOpen s b sessions workers
      → Goes s b [] [] sessions workers
  just_opened b sessions workers is = record {
    first = sessions;
    first_workers = workers;
    is_open = is;
    made = none [] (turns_at sessions workers []) refl refl;
    fits = All-nil (Fits (threads_of s) (managers_of s));
  }

  pub begun : (opening : ℕ) (sessions : List Session) (workers : List WorkerView) → opening ≡ 1
      → IsOpen s (beginning s) sessions workers
      → HasReached s [] opening sessions workers []
  begun opening sessions workers number is = record {
    before = [];
    begins = beginning s;
    former = none [] (beginning s) refl refl;
    number = number;
    own = [];
    told = [];
    goes = just_opened (beginning s) sessions workers is;
    lines_are = refl;
    answers_are = refl;
    ones = (All-nil (λ (f : Former). NoneReopens f.opening.steps), refl);
  }

  module _ (lines : List ScriptStep) (opening : ℕ) (sessions : List Session) (workers : List WorkerView)
      (answers : List TranscriptLine)
      (h : HasReached s lines opening sessions workers answers) where
    reached : AllWent h.goes.first h.goes.first_workers h.own (turns_at sessions workers h.told)
    reached =
        let o = h.goes.is_open in
        went s h.begins h.own h.goes.first h.goes.first_workers o.opened o.begins h.goes.fits
        (turns_at sessions workers h.told) h.goes.made

    -- it has the script's threads and managers
    pub reached_threads : length sessions ≡ threads_of s
    reached_threads =
        reached.threads.as_many ∙ sym (length-map h.goes.first (λ (x : Session). x.desk))
        ∙ opened_threads _ _ _ _ _ h.goes.is_open.opened

    pub reached_managers : length workers ≡ managers_of s
    reached_managers = reached.goes.each.as_many ∙ opened_managers _ _ _ _ _ h.goes.is_open.opened

    -- one more step of the opening
    pub stepped : (x : ScriptStep) (a : TranscriptLine) (sessions' : List Session) (workers' : List WorkerView)
        → is_reopen x ≡ false
        → Fits (threads_of s) (managers_of s) x
        → DoesStep x (record { sessions = sessions; workers = workers })
        (record { sessions = sessions'; workers = workers' }) a
        → HasReached s (lines ++ x ∷ []) opening sessions' workers' (answers ++ a ∷ [])
    stepped x a sessions' workers' plain fits is = record {
      before = h.before;
      begins = h.begins;
      former = h.former;
      number = h.number;
      own = h.own ++ x ∷ [];
      told = h.told ++ a ∷ [];
      goes = record {
        first = h.goes.first;
        first_workers = h.goes.first_workers;
        is_open = h.goes.is_open;
        made = more h.own x (turns_at sessions workers h.told) (turns_at sessions' workers' (h.told ++ a ∷ []))
            h.goes.made (record { line = a; steps = is; told = refl });
        fits = All-push (Fits (threads_of s) (managers_of s)) h.own x h.goes.fits fits;
      };
      lines_are = ap (λ l. l ++ x ∷ []) h.lines_are ∙ append_assoc (flat_map lines_of_former h.before) h.own (x ∷ []);
      answers_are = ap (λ l. l ++ a ∷ []) h.answers_are
          ∙ append_assoc (flat_map answers_of_former h.before) h.told (a ∷ []);
      ones = (h.ones.0, list_any-append is_reopen h.own (x ∷ []) ∙ (λ i. h.ones.1 i || (plain i || false)));
    }

    -- what it has come to, where the opening ends
    abbrev pub ended_so : List TranscriptLine → Settling → ToldOpening
    ended_so later settled = record { steps = h.own; answers = h.told ++ later; settled = settled }

    -- it was opened again
    pub reopened : (later : List TranscriptLine) (settled : Settling) (line : ℕ) (next : Beginning)
        → FollowsOpening mode.Turns s (record { opening = ended_so later settled; line = line }) h.begins next
        → (opening' : ℕ) (sessions' : List Session) (workers' : List WorkerView) → opening' ≡ next.opening
        → IsOpen s next sessions' workers'
        → HasReached s (lines ++ step.Reopen line ∷ []) opening' sessions' workers'
        ((answers ++ later) ++ Reopened line ∷ [])
    reopened later settled line next follows opening' sessions' workers' number is =
        let f : Former = record { opening = ended_so later settled; line = line } in
        let told : List TranscriptLine = (h.told ++ later) ++ Reopened line ∷ [] in
        record {
          before = h.before ++ f ∷ [];
          begins = next;
          former = more h.before f h.begins next h.former follows;
          number = number;
          own = [];
          told = [];
          goes = just_opened next sessions' workers' is;
          lines_are = search (arith, append_assoc, flat_push, append-nil, h.lines_are);
          answers_are = search (arith, append_assoc, flat_push, append-nil, h.answers_are);
          ones = (All-push (λ (f : Former). NoneReopens f.opening.steps) h.before f h.ones.0 h.ones.1, refl);
        }

    -- these were all lines
    pub outcome_so : lines ≡ s.steps → (later : List TranscriptLine) (settled : Settling) (logs : List ThreadLog)
        → IsClosedOpening s h.begins (ended_so later settled) logs
        → IsOutcome mode.Turns s (answers ++ later) h.before (ended_so later settled)
    outcome_so all later settled logs is = record {
      steps = sym all ∙ h.lines_are;
      answers_ = ap (λ l. l ++ later) h.answers_are ∙ append_assoc (flat_map answers_of_former h.before) h.told later;
      ones = h.ones;
      begins = h.begins;
      former = h.former;
      left = is.left;
      latest = is.comes;
    }

-- ---- What an opening begins with that follows another

-- ---- the threads

desks_again : (ds : List DeskView) (ls : List ThreadLog) (zs : List ScanView) → length ls ≡ length ds
    → length zs ≡ length ds
    → map (λ (x : Session). x.desk) (sessions_again ds ls zs) ≡ ds
desks_again [] ls zs logs scans = refl
desks_again (d ∷ ds) [] zs logs scans = absurd (omega (arith, logs))
desks_again (d ∷ ds) (l ∷ ls) [] logs scans = absurd (omega (arith, scans))
desks_again (d ∷ ds) (l ∷ ls) (z ∷ zs) logs scans =
    ap (λ ds. d ∷ ds) (desks_again ds ls zs (omega (arith, logs)) (omega (arith, scans)))

again_at : (ds : List DeskView) (ls : List ThreadLog) (zs : List ScanView) (k : ℕ) (x : Session)
    → slice_get (sessions_again ds ls zs) k ≡ Some x
    → (l : ThreadLog) × (slice_get ls k ≡ Some l) × (x.log ≡ log_reopened l) × (slice_get zs k ≡ Some x.scan)
again_at [] ls zs k x at = absurd (cc)
again_at (d ∷ ds) [] zs k x at = absurd (cc)
again_at (d ∷ ds) (l ∷ ls) [] k x at = absurd (cc)
again_at (d ∷ ds) (l ∷ ls) (z ∷ zs) zero x at =
    let same : session_of d (log_reopened l) z ≡ x = some_same _ x at in
    (l, refl, ap (λ (y : Session). y.log) (sym same), ap (λ (y : Session). Some y.scan) same)
again_at (d ∷ ds) (l ∷ ls) (z ∷ zs) (suc k) x at = again_at ds ls zs k x at

-- at first each begins with a log without a record and without scans
pub begin_so : {A : Type 0} (s : Content) (desk : A → DeskView) (xs : List A) (k : ℕ) (x : Session)
    → slice_get (map (λ a. new_session s (desk a)) xs) k ≡ Some x
    → BeginsAs (beginning s) (k + 1) x
begin_so {A} s desk xs k x at = search (arith, was_mapped)

-- ---- the scans of thread t

abbrev pub scans_in : List ScanView → ℕ → ScanView
scans_in zs zero = no_scan
scans_in zs (suc k) = slice_index_or zs k no_scan

scan_there : (zs : List ScanView) (k : ℕ) (z : ScanView) → slice_get zs k ≡ Some z → z ≡ scans_in zs (suc k)
scan_there zs k z at =
    some_same z (slice_index_or zs k no_scan) (sym at ∙ slice_get-get_or zs k no_scan (slice_get_within zs k z at))

scans_are : (s : Settling) (threads : ℕ) (zs : List ScanView) → AreScansOf s threads zs → (t : ℕ) → 1 ≤ t → t ≤ threads
    → IsScanOf s (scans_in zs t)
scans_are s threads zs are zero low high = absurd (omega (arith, low))
scans_are s threads zs are (suc k) low high = let many = are.threads_ in are.each k no_scan (omega (arith, high, many))

-- ---- the opening

module _ (s : Content) (b : Beginning) (o : ToldOpening) (left : List Session) (h : HasCome mode.Turns s b o left)
    (settled : Settling) (same : o.settled ≡ settled)
    (again : Again) (numbers : AreNumbersOf s (suc b.opening) again) where
  abbrev closed : Settling
  closed = settling h.ended h.done

  is_closed : settled ≡ closed
  is_closed = sym same ∙ h.settles

  -- it may be opened again
  may : MayReopen settled again
  may =
      rw is_closed
      (may_reopen _ _ _ _ _ _ _ _ _ h.ran again numbers
      (ap (λ (x : Settling). x.opening) (sym h.settles) ∙ h.number))

  module _ (desks : List DeskView) (workers : List WorkerView) (zs : List ScanView) (logs : List ThreadLog)
      (logs_are : logs ≡ map (λ x. x.log) left)
      (opened : AreOfOneOpening (reopening settled again) desks workers)
      (scans : AreScansOf settled again.threads zs) where
    abbrev next : Beginning
    next = next_beginning _ _ _ _ _ _ _ _ _ h.ran (scans_in zs)

    follows : (line : ℕ) → FollowsOpening mode.Turns s (record { opening = o; line = line }) b next
    follows line = record {
      left = left;
      comes = h;
      leaves =
          rw h.settles
          (leaves _ _ _ _ _ _ _ _ _ h.ran (rw h.settles at h.agree) line (scans_in zs)
          (scans_are closed (threads_of s) zs (rw (is_closed, numbers.threads) at scans)));
    }

    many_desks : length desks ≡ threads_of s
    many_desks = opened.threads ∙ numbers.threads

    many_logs : length logs ≡ length desks
    many_logs = search (arith, length-map, opened_threads, many_desks)

    many_scans : length zs ≡ length desks
    many_scans = scans.threads_ ∙ numbers.threads ∙ sym many_desks

    open_again : IsOpen s next (sessions_again desks logs zs) workers
    open_again = record {
      opened = record {
        setup = reopening settled again;
        said = rw is_closed (again_setup _ _ _ _ _ _ _ _ _ h.ran again numbers (rw is_closed at may));
        opened = rw (desks_again desks logs zs many_logs many_scans) opened;
      };
      begins = search (arith, again_at, was_mapped, slice_get, log_there, log_left, scan_there);
    }

    -- so it goes on
    pub goes_on : (b' : Beginning)
        × ((line : ℕ) → FollowsOpening mode.Turns s (record { opening = o; line = line }) b b')
        × (b'.opening ≡ suc b.opening)
        × IsOpen s b' (sessions_again desks logs zs) workers
    goes_on = (next, follows, refl, open_again)

-- ---- What a run tells of its openings

module _ (m : RunMode) (s : Content) where
  -- an opening that has come to what was settled
  come_tells : (b : Beginning) (o : ToldOpening) (left : List Session) → HasCome m s b o left → TellsOf s b o
  come_tells b o left h = rw h.settles (tells _ _ _ _ _ _ _ _ _ h.ran (rw h.settles at h.agree))

  -- openings one after another
  all_leave : (first : Beginning) (before : List Former) (last : Beginning)
      → Chain (FollowsOpening m s) first before last
      → Chain (Leaves s) first before last
  all_leave first before last (none fs b e f) = none fs b e f
  all_leave first before last (more fs f now b earlier is) = more fs f now b (all_leave first fs now earlier) is.leaves

  -- the managers that were settled last
  pub managers_so : (answers : List TranscriptLine) (before : List Former) (last : ToldOpening)
      → IsOutcome m s answers before last
      → AreOfScript s (opened_after s (map (λ f. f.opening.settled) before)) last.settled.managers
  managers_so answers before last is =
      of_script_after s before is.begins (all_leave (beginning s) before is.begins is.former) last.settled.managers
      (come_tells is.begins last is.left is.latest).managers

  pub run_tells : (answers : List TranscriptLine) (values : List Declared) (before : List Former) (last : ToldOpening)
      → IsOutcome m s answers before last
      → AreValues s (settled_over before last) values → Tells s answers values before last
  run_tells answers values before last is shown = record {
    steps = is.steps;
    answers_ = is.answers_;
    ones = is.ones;
    begins = is.begins;
    former = all_leave (beginning s) before is.begins is.former;
    latest = come_tells is.begins last is.left is.latest;
    shown = shown;
  }
