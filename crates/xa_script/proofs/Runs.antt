-- What a run of an opening has come to, in turns and in threads: its threads by their lines, its workers, and its desks
-- that end.
use Rattle.xa_base.proofs.{along, along_all, chain_kept, filter_push, filter_skip, filter_all, filter_none, filter, ◌≡◌}
use Rattle.xa_base.proofs.{◌≢◌, ◌-◌, ◌==◌, ℕ, ◌+◌, Bool, List, length, ap, ◌∙◌, sym, length-set, All, all_at, all_from}
use Rattle.xa_base.proofs.{true, false, if◌then◌else◌, [], ◌∷◌, ◌++◌, Some, refl, inl, inr, arith, append-nil}
use Rattle.xa_base.proofs.{append_assoc, map, slice_get, slice_set, flat_map, cases_eq, eq-eqb, ne_eqb, All-push}
use Rattle.xa_base.proofs.{All-nil, All-map, All-weaker, map-append, filter-append, slice_get_within, set_there, got}
use Rattle.xa_base.proofs.{got_set, got_map, was_mapped, flat_push, flat_one, flat_none, none_side, push_side}
use Rattle.xa_base.proofs.{some_same, filter_map-append, length-map, length-append}
use Rattle.xa_base.specs.{Chain, Pairwise}
use Rattle.xa_base.specs.Lists.Chain.{none, more}
use Rattle.xa_words.specs.{Code}
use Rattle.xa_desk.specs.{AllKept, DeskView, EndedView, GoesOn, DeskSeat}
use Rattle.xa_worker.specs.{WorkerView, Served}
use Rattle.script_grammar.specs.declared.step.Step.TheVariants as step
use Rattle.script_grammar.specs.{ScriptStep, ScriptTask, task_of, tasks_of, Content, Fits, threads_of, managers_of}
use Rattle.xa_crew.specs.{AllGoOn, all_stay, all_go_on, EndsDesk, Member, HasServed, ArePiecesOf}
use Rattle.xa_crew.proofs.WorkersOn.{turn_goes, all_served}
use Rattle.script_transcript.specs.{TranscriptLine, all_ended, end_line}
use Rattle.script_session.specs.{Session, HasDone, new_session, told_of}
use Rattle.laws_transcript.specs.{Beginning, is_to, answers_to, is_end_of, ends_of, ThreadComes, OpeningRan, AreOpened}
use Rattle.laws_transcript.specs.{BeginsAs}
use Rattle.laws_transcript.proofs.Opened.{AreOf, opened_thread, tasks_are_of}
use Rattle.xa_script.specs.{TurnsAt, HasStepped, HasMadeSteps, Closing, HasEndedDesk, HaveEnded, HasCalled}
use Rattle.xa_script.specs.{HasDoneItsTasks, turns_at, closing_of, lines_of_thread, Goes, ScriptThread}
use Rattle.xa_script.specs.InThreads.{InThreads}
use Rattle.xa_script.specs.InTurns.{InTurns}

-- ---- the steps of a run in turns

tasks_pushed : (t : ℕ) (steps : List ScriptStep) (p : ScriptTask) → p.thread ≡ t
    → tasks_of t (steps ++ step.Task p ∷ []) ≡ tasks_of t steps ++ p ∷ []
tasks_pushed t steps p e = search (arith, filter_map-append, eq-eqb)

tasks_passed : (t : ℕ) (steps : List ScriptStep) (p : ScriptTask) → p.thread ≢ t
    → tasks_of t (steps ++ step.Task p ∷ []) ≡ tasks_of t steps
tasks_passed t steps p differs = search (arith, filter_map-append, ne_eqb, append-nil)

tasks_turned : (t : ℕ) (steps : List ScriptStep) (line m : ℕ)
    → tasks_of t (steps ++ step.Turn line m ∷ []) ≡ tasks_of t steps
tasks_turned t steps line m =
    filter_map-append (task_of t) steps (step.Turn line m ∷ []) ∙ append-nil (tasks_of t steps)

-- a thread as it goes on, and its answers so far
abbrev state : Session → List TranscriptLine → Session × List TranscriptLine
state x l = (x, l)

-- by its tasks among these steps the first thread has come to the other
abbrev Went : List ScriptStep → List TranscriptLine → Session → Session → Type 0
Went steps answers x y = Chain HasDone (x, []) (tasks_of x.desk.thread steps) (y, answers_to x.desk.thread answers)

-- these threads and workers have come to this by these steps
pub record AllWent (first : List Session) (workers : List WorkerView) (steps : List ScriptStep) (now : TurnsAt) : Type
    0 where
  pub threads : Pairwise (Went steps now.answers) first now.stage.sessions
  pub goes : AllGoOn workers now.stage.workers
  pub no_end : (t : ℕ) → ends_of t now.answers ≡ []
  pub silent : (t : ℕ) → tasks_of t steps ≡ [] → answers_to t now.answers ≡ []

-- where the thread at place k is of number k + 1
module _ (first : List Session) (workers : List WorkerView)
    (numbers : (k : ℕ) (x : Session) → slice_get first k ≡ Some x → x.desk.thread ≡ k + 1) where
  step_went : (threads managers : ℕ) (xs : List ScriptStep) (x : ScriptStep) (now next : TurnsAt)
      → AllWent first workers xs now → Fits threads managers x
      → HasStepped x now next → AllWent first workers (xs ++ x ∷ []) next
  step_went threads managers xs (step.Task p) now next went fits is =
      let call : HasCalled p now.stage next.stage is.line = is.steps in
      let old = now.stage.sessions in
      let place = p.thread - 1 in
      let skip =
      λ (t : ℕ) (differs : p.thread ≢ t). ap (answers_to t) is.told
      ∙ filter_skip (is_to t) now.answers is.line (ap (is_to t) call.told ∙ ne_eqb p.thread t differs) in
      record {
        threads = record {
          as_many = ap (λ l. length l) call.rest ∙ length-set old place call.after ∙ went.threads.as_many;
          each = λ k x y at at_y.
              let t = x.desk.thread in
              let number : t ≡ k + 1 = numbers k x at in
              let set : slice_get (slice_set old place call.after) k ≡ Some y =
              ap (λ l. slice_get l k) (sym call.rest) ∙ at_y in
              elim (cases_eq p.thread t) [
                | inl own ↦
                    let here : place ≡ k = omega (arith, own, number) in
                    let was : slice_get old k ≡ Some call.before = ap (slice_get old) (sym here) ∙ call.at in
                    let same : y ≡ call.after =
                    some_same y call.after
                    (sym set ∙ ap (λ i. slice_get (slice_set old i call.after) k) here
                    ∙ set_there old k call.after (slice_get_within old k call.before was)) in
                    let to : is_to t is.line ≡ true = ap (is_to t) call.told ∙ eq-eqb p.thread t own in
                    let told =
                    ap (answers_to t) is.told ∙ filter_push (is_to t) now.answers is.line to
                    ∙ ap (λ q. answers_to t now.answers ++ q ∷ []) call.told in
                    rw (tasks_pushed t xs p own, same)
                    (more (tasks_of t xs) p (state call.before (answers_to t now.answers))
                    (state call.after (answers_to t next.answers)) (went.threads.each k x call.before at was)
                    (record { answer = call.answer; does = call.does; told = told }))
                | inr differs ↦
                    let there : slice_get old k ≡ Some y = elim
                    (got_set old place call.after k y (slice_get_within old place call.before call.at) set) [
                      | inl here ↦ absurd (differs (omega (arith, here.0, number, fits.0.0)))
                      | inr there ↦ there
                    ] in
                    rw (tasks_passed t xs p differs, skip t differs) (went.threads.each k x y at there)
              ];
        };
        goes = all_go_on workers now.stage.workers next.stage.workers went.goes call.turns;
        no_end = λ t. ap (ends_of t) is.told
            ∙ filter_skip (is_end_of t) now.answers is.line (ap (is_end_of t) call.told) ∙ went.no_end t;
        silent = λ t e. elim (cases_eq p.thread t) [
          | inl own ↦ absurd
              (omega (
                arith,
                ap (λ l. length l) (sym (tasks_pushed t xs p own) ∙ e),
                length-append (tasks_of t xs)
                    (p ∷ []),
              ))
          | inr differs ↦ skip t differs ∙ went.silent t (sym (tasks_passed t xs p differs) ∙ e)
        ];
      }
  step_went threads managers xs (step.Reopen line) now next went fits is = absurd is.steps
  step_went threads managers xs (step.Turn line m) now next went fits is =
      let skip =
      λ (t : ℕ). ap (answers_to t) is.told
      ∙ filter_skip (is_to t) now.answers is.line (ap (is_to t) is.steps.told) in
      record {
        threads = record {
          as_many = ap (λ l. length l) is.steps.rest ∙ went.threads.as_many;
          each = λ k x y at at_y. rw (tasks_turned x.desk.thread xs line m, skip x.desk.thread)
              (went.threads.each k x y at (ap (λ l. slice_get l k) (sym is.steps.rest) ∙ at_y));
        };
        goes = all_go_on workers now.stage.workers next.stage.workers went.goes
            (turn_goes m is.steps.did now.stage.workers next.stage.workers is.steps.turn);
        no_end = λ t. ap (ends_of t) is.told
            ∙ filter_skip (is_end_of t) now.answers is.line (ap (is_end_of t) is.steps.told) ∙ went.no_end t;
        silent = λ t e. skip t ∙ went.silent t (sym (tasks_turned t xs line m) ∙ e);
      }

  run_went : (threads managers : ℕ) (steps : List ScriptStep) (now : TurnsAt)
      → HasMadeSteps (turns_at first workers []) steps now
      → All (Fits threads managers) steps → AllWent first workers steps now
  run_went threads managers =
      chain_kept HasStepped (Fits threads managers) (AllWent first workers) (turns_at first workers [])
      (record {
        threads = record {
          as_many = refl;
          each = λ k x y at at_y. none [] (state y []) refl
              (ap (λ (v : Session). state v []) (some_same y x (sym at_y ∙ at)));
        };
        goes = all_stay workers;
        no_end = λ t. refl;
        silent = λ t e. refl;
      })
      (step_went threads managers)

  module _ (steps : List ScriptStep) (now : TurnsAt) (went : AllWent first workers steps now) where
    -- the thread that has come to this one, of the same number
    came : (k : ℕ) (y : Session) → slice_get now.stage.sessions k ≡ Some y
        → (x : Session) × (slice_get first k ≡ Some x) × Went steps now.answers x y × (y.desk.thread ≡ x.desk.thread)
    came k y at =
        let x = got first k (omega (arith, slice_get_within now.stage.sessions k y at, went.threads.as_many)) in
        let runs = went.threads.each k x.0 y x.1 at in (
          x.0,
          x.1,
          runs,
          along (λ (z : Session × List TranscriptLine). z.0.desk.thread ≡ x.0.desk.thread) (x.0, []) _
              (state y (answers_to x.0.desk.thread now.answers)) runs
              (λ _ _ _ is same. ap (λ (p : DeskSeat). p.thread) is.does.goes_on.seat ∙ same) refl,
        )

    -- what is outstanding stays kept
    pub went_kept : All (λ c. AllKept c.desk) first → All (λ c. AllKept c.desk) now.stage.sessions
    went_kept kept =
        all_from (λ c. AllKept c.desk) now.stage.sessions λ k y at.
        let x = came k y at in
        along (λ (z : Session × List TranscriptLine). AllKept z.0.desk) (x.0, []) _
        (state y (answers_to x.0.desk.thread now.answers)) x.2 (λ _ _ _ is. is.does.kept)
        (all_at (λ c. AllKept c.desk) first k x.0 kept x.1)

-- ---- what is told of each thread, where each is told of its own, and then what was outstanding

-- it is an answer to thread t
abbrev IsTo : ℕ → TranscriptLine → Type 0
IsTo t a = ((u : ℕ) → is_to u a ≡ (t == u)) × ((u : ℕ) → is_end_of u a ≡ false)

-- all that a thread was told by its tasks is
own_told : (t : ℕ) (x : Session) (tasks : List ScriptTask) (last : Session × List TranscriptLine)
    → Chain HasDone (x, []) tasks last → AreOf t tasks → All (IsTo t) last.1
own_told t x tasks last runs own =
    along_all (λ q. q.thread ≡ t) (λ (s : Session × List TranscriptLine). All (IsTo t) s.1) (x, []) tasks last runs own
    (λ q now next same is told. rw is.told
    (All-push (IsTo t) now.1 (told_of q is.answer) told ((λ u. ap (λ n. n == u) same), λ u. refl)))
    (All-nil (IsTo t))

filter_alike : {X : Type 0} (p : X → Bool) (b : Bool) (xs : List X) → All (λ x. p x ≡ b) xs
    → filter p xs ≡ (if b then xs else [])
filter_alike p true xs all = filter_all p xs all
filter_alike p false xs all = filter_none p xs all

module _ {A : Type 0} (number : A → ℕ) (said : A → List TranscriptLine) (left : A → List (ℕ × Code)) where
  abbrev tells : A → List TranscriptLine
  tells m = said m ++ all_ended (number m) (left m)

  -- what one of them tells thread t
  tells_thread : (t : ℕ) (m : A) → All (IsTo (number m)) (said m) → (b : Bool) → (number m == t) ≡ b
      → (answers_to t (tells m) ≡ (if b then said m else []))
      × (ends_of t (tells m) ≡ (if b then all_ended (number m) (left m) else []))
  tells_thread t m own b is =
      let end = end_line (number m) in
      let ends = all_ended (number m) (left m) in (
        filter-append (is_to t) (said m) ends
            ∙ (λ i. filter_alike (is_to t) b (said m)
            (All-weaker (IsTo (number m)) (λ a. is_to t a ≡ b) (λ a to. to.0 t ∙ is) (said m) own) i ++ filter_none
            (is_to t) ends (All-map (λ a. is_to t a ≡ false) end (left m) (λ k d lt. refl)) i)
            ∙ append-nil (if b then said m else []),
        filter-append (is_end_of t) (said m) ends
            ∙ (λ i. filter_none (is_end_of t) (said m)
            (All-weaker (IsTo (number m)) (λ a. is_end_of t a ≡ false) (λ a to. to.1 t) (said m) own) i ++ filter_alike
            (is_end_of t) b ends (All-map (λ a. is_end_of t a ≡ b) end (left m) (λ k d lt. is)) i),
      )

  module _ (ms : List A) (numbers : (k : ℕ) (m : A) → slice_get ms k ≡ Some m → number m ≡ k + 1)
      (own : (k : ℕ) (m : A) → slice_get ms k ≡ Some m → All (IsTo (number m)) (said m)) where
    tells_own : (k : ℕ) (m : A) → slice_get ms k ≡ Some m
        → (answers_to (number m) (flat_map tells ms) ≡ said m)
        × (ends_of (number m) (flat_map tells ms) ≡ all_ended (number m) (left m))
    tells_own k m at =
        let t = number m in
        let self = tells_thread t m (own k m at) true (eq-eqb t t refl) in
        let others =
        λ (j : ℕ) (y : A) (differs : j ≢ k) (there : slice_get ms j ≡ Some y). tells_thread t y (own j y there) false
        (ne_eqb (number y) t (λ e. differs (omega (arith, e, numbers j y there, numbers k m at)))) in (
          flat_one (is_to t) tells ms k m at (λ j y d there. (others j y d there).0)
              ∙ self.0,
          flat_one (is_end_of t) tells ms k m at (λ j y d there. (others j y d there).1) ∙ self.1,
        )

    tells_no_other : (t : ℕ) → ((k : ℕ) (m : A) → slice_get ms k ≡ Some m → number m ≢ t)
        → (answers_to t (flat_map tells ms) ≡ []) × (ends_of t (flat_map tells ms) ≡ [])
    tells_no_other t apart =
        let none =
        λ (k : ℕ) (m : A) (at : slice_get ms k ≡ Some m). tells_thread t m (own k m at) false
        (ne_eqb (number m) t (apart k m at)) in (
          flat_none (is_to t) tells ms (λ k m at. (none k m at).0),
          flat_none (is_end_of t) tells ms
              (λ k m at. (none k m at).1),
        )

-- ---- desks that end one after the other

-- a thread as it was after its last line, with what was outstanding then
abbrev Ending : Type 0
Ending = Session × List (ℕ × Code)

abbrev EndedAs : Ending → EndedView → Type 0
EndedAs z e = EndsDesk z.0.desk [] e z.1

-- what is told of it
abbrev ended_by : Ending → List TranscriptLine
ended_by = tells (λ (z : Ending). z.0.desk.thread) (λ z. []) (λ z. z.1)

-- these threads have ended, one after the other, and would have after any other answers
record Closes (workers : List WorkerView) (all : List TranscriptLine) (sessions : List Session) (now : Closing) : Type
    0 where
  pub endings : List Ending
  pub sessions_are : map (λ z. z.0) endings ≡ sessions
  pub ended : Pairwise EndedAs endings now.ended
  pub told : now.answers ≡ all ++ flat_map ended_by endings
  pub goes : AllGoOn workers now.workers
  pub after : (told : List TranscriptLine)
      → HaveEnded (closing_of [] workers told) sessions
      (closing_of now.ended now.workers (told ++ flat_map ended_by endings))

closes : (workers : List WorkerView) (all : List TranscriptLine) (sessions : List Session) (now : Closing)
    → HaveEnded (closing_of [] workers all) sessions now
    → Closes workers all sessions now
closes workers all sessions now runs =
    chain_kept HasEndedDesk (λ x. Unit {0}) (Closes workers all) (closing_of [] workers all)
    (record {
      endings = [];
      sessions_are = refl;
      ended = none_side EndedAs [] [] refl refl;
      told = sym (append-nil all);
      goes = all_stay workers;
      after = λ told. none [] (closing_of [] workers (told ++ [])) refl (ap (closing_of [] workers) (append-nil told));
    })
    (λ xs x mid last h c is.
    let one : Ending = (x, is.outstanding) in
    let longer =
    λ (l : List TranscriptLine). append_assoc l (flat_map ended_by h.endings) (ended_by one)
    ∙ ap (λ q. l ++ q) (sym (flat_push ended_by h.endings one)) in
    record {
      endings = h.endings ++ one ∷ [];
      sessions_are = map-append (λ (z : Ending). z.0) h.endings (one ∷ []) ∙ ap (λ l. l ++ x ∷ []) h.sessions_are;
      ended = rw is.ended (push_side EndedAs h.endings mid.ended one is.view h.ended is.ends);
      told = is.told ∙ ap (λ l. l ++ ended_by one) h.told ∙ longer all;
      goes = all_go_on workers mid.workers last.workers h.goes is.turns;
      after =
          λ told. more xs x (closing_of mid.ended mid.workers (told ++ flat_map ended_by h.endings))
          (closing_of last.ended last.workers (told ++ flat_map ended_by (h.endings ++ one ∷ []))) (h.after told)
          (record {
            view = is.view;
            outstanding = is.outstanding;
            ends = is.ends;
            ended = is.ended;
            told = sym (longer told);
            turns = is.turns;
          });
    })
    sessions now runs (λ k d lt. tt)

-- ---- what the threads and the managers of an opening have come to

module _ (s : Content) (b : Beginning) (steps : List ScriptStep) (sessions : List Session) (workers : List WorkerView)
    (opened : AreOpened s b.opening b.tables (map (λ x. x.desk) sessions) workers)
    (begins : (k : ℕ) (x : Session) → slice_get sessions k ≡ Some x → BeginsAs b (k + 1) x)
    (fits : All (Fits (threads_of s) (managers_of s)) steps) where
  -- the thread at place k is of number k + 1
  thread_at : (k : ℕ) (x : Session) → slice_get sessions k ≡ Some x → x.desk.thread ≡ k + 1
  thread_at k x at =
      opened_thread s b.opening b.tables (map (λ (x : Session). x.desk) sessions) workers opened k x.desk
      (got_map (λ (x : Session). x.desk) sessions k x at)

  pub went : (now : TurnsAt) → HasMadeSteps (turns_at sessions workers []) steps now
      → AllWent sessions workers steps now
  went now runs = run_went sessions workers thread_at (threads_of s) (managers_of s) steps now runs fits

  pub kept : (now : TurnsAt) → HasMadeSteps (turns_at sessions workers []) steps now
      → All (λ c. AllKept c.desk) sessions
      → All (λ c. AllKept c.desk) now.stage.sessions
  kept now runs = went_kept sessions workers thread_at steps now (went now runs)

  -- ---- in turns

  module _ (left : List Session) (end_line : List EndedView) (done : List Served) (answers : List TranscriptLine)
      (runs : InTurns steps sessions left workers end_line done answers) where
    abbrev all_went : AllWent sessions workers steps runs.ran
    all_went = went runs.ran runs.runs

    abbrev ended_all : Closes runs.ran.stage.workers runs.ran.answers runs.ran.stage.sessions runs.closed
    ended_all = closes runs.ran.stage.workers runs.ran.answers runs.ran.stage.sessions runs.closed runs.closes

    -- the thread of an ending
    began : (k : ℕ) (z : Ending) → slice_get ended_all.endings k ≡ Some z
        → (x : Session) × (slice_get sessions k ≡ Some x) × (z.0.desk.thread ≡ x.desk.thread)
    began k z at =
        let x =
        came sessions workers thread_at steps runs.ran all_went k z.0
        (ap (λ l. slice_get l k) (sym ended_all.sessions_are)
        ∙ got_map (λ (y : Ending). y.0) ended_all.endings k z at) in
        (x.0, x.1, x.3)

    ending_number : (k : ℕ) (z : Ending) → slice_get ended_all.endings k ≡ Some z → z.0.desk.thread ≡ k + 1
    ending_number k z at = let x = began k z at in x.2 ∙ thread_at k x.0 x.1

    -- the answers to lines come first, and then the ends
    told_in : (t : ℕ) (ends : List TranscriptLine)
        → (answers_to t (flat_map ended_by ended_all.endings) ≡ [])
        × (ends_of t (flat_map ended_by ended_all.endings) ≡ ends)
        → (answers_to t runs.closed.answers ≡ answers_to t runs.ran.answers) × (ends_of t runs.closed.answers ≡ ends)
    told_in t ends is =
        let later = flat_map ended_by ended_all.endings in (
          ap (answers_to t) ended_all.told ∙ filter-append (is_to t) runs.ran.answers later
              ∙ ap (λ l. answers_to t runs.ran.answers ++ l) is.0
              ∙ append-nil (answers_to t runs.ran.answers),
          ap (ends_of t) ended_all.told ∙ filter-append (is_end_of t) runs.ran.answers later
              ∙ (λ i. all_went.no_end t i ++ is.1 i),
        )

    all_come : OpeningRan s b steps runs.closed.answers sessions left workers runs.closed.ended done
    all_come = record {
      opened = opened;
      begins = begins;
      fits = fits;
      many_left = ap (λ (l : List Session). length l) runs.left_are ∙ all_went.threads.as_many;
      many_ended = ended_all.ended.as_many ∙ sym (length-map ended_all.endings (λ (z : Ending). z.0))
          ∙ ap (λ (l : List Session). length l) ended_all.sessions_are ∙ all_went.threads.as_many;
      threads = λ k x y e at at_y at_e.
          let there : slice_get runs.ran.stage.sessions k ≡ Some y =
          ap (λ l. slice_get l k) (sym runs.left_are) ∙ at_y in
          let z =
          was_mapped (λ (z : Ending). z.0) ended_all.endings k y
          (ap (λ l. slice_get l k) ended_all.sessions_are ∙ there) in
          let own : z.0.0.desk.thread ≡ x.desk.thread = ending_number k z.0 z.1 ∙ sym (thread_at k x at) in
          let told =
          rw own at
          (told_in z.0.0.desk.thread _
          (tells_own (λ (z : Ending). z.0.desk.thread) (λ z. []) (λ z. z.1) ended_all.endings ending_number
          (λ k z at. All-nil (IsTo z.0.desk.thread)) k z.0 z.1)) in
          record {
            runs = rw told.0 (all_went.threads.each k x y at there);
            outstanding = z.0.1;
            ends = rw z.2 at (ended_all.ended.each k z.0 e z.1 at_e);
            told = told.1;
          };
      others = λ t none_there silent.
          let told =
          told_in t []
          (tells_no_other (λ (z : Ending). z.0.desk.thread) (λ z. []) (λ z. z.1) ended_all.endings ending_number
          (λ k z at. All-nil (IsTo z.0.desk.thread)) t
          (λ k z at e. let x = began k z at in none_there k x.0 x.1 (sym x.2 ∙ e))) in
          (told.0 ∙ all_went.silent t silent, told.1);
      managers = all_served workers runs.closed.workers done
          (all_go_on workers runs.ran.stage.workers runs.closed.workers all_went.goes ended_all.goes) runs.served;
    }

    -- what a run in turns has come to
    pub turns_ran : OpeningRan s b steps answers sessions left workers end_line done
    turns_ran = rw (runs.answered, runs.ended_are) all_come

  -- ---- in threads

  module _ (left : List Session) (end_line : List EndedView) (done : List Served) (answers : List TranscriptLine)
      (runs : InThreads s steps sessions left workers end_line done answers) where
    abbrev threads : List (Member ScriptThread)
    threads = runs.threads

    abbrev told : Member ScriptThread → List TranscriptLine
    told w = lines_of_thread w.attended

    member_at : (k : ℕ) (x : Member ScriptThread) → slice_get threads k ≡ Some x
        → slice_get sessions k ≡ Some (new_session s x.desk)
    member_at k x at =
        ap (λ l. slice_get l k) runs.sessions_are
        ∙ got_map (λ (t : Member ScriptThread). new_session s t.desk) threads k x at

    -- what it came to
    worked_at : (k : ℕ) (x : Member ScriptThread) → slice_get threads k ≡ Some x
        → (y : Session) × HasDoneItsTasks s steps x y
    worked_at k x at =
        let y = got left k (omega (arith, slice_get_within threads k x at, runs.worked.as_many)) in
        (y.0, runs.worked.each k x y.0 at y.1)

    -- the thread at place k is of number k + 1
    number_at : (k : ℕ) (x : Member ScriptThread) → slice_get threads k ≡ Some x → x.attended.client.thread ≡ k + 1
    number_at k x at = (worked_at k x at).1.own ∙ thread_at k (new_session s x.desk) (member_at k x at)

    own_at : (k : ℕ) (x : Member ScriptThread) → slice_get threads k ≡ Some x
        → All (IsTo x.attended.client.thread) x.attended.client.told
    own_at k x at =
        let has = worked_at k x at in
        let t = x.desk.thread in
        rw has.1.own
        (own_told t (new_session s x.desk) (tasks_of t steps) (has.0, x.attended.client.told) has.1.runs
        (tasks_are_of t steps))

    all_there : OpeningRan s b steps (flat_map told threads) sessions left workers
        (map (λ (t : Member ScriptThread). t.ended) threads) done
    all_there = record {
      opened = opened;
      begins = begins;
      fits = fits;
      many_left = runs.worked.as_many ∙ as_many;
      many_ended = length-map threads (λ (t : Member ScriptThread). t.ended) ∙ as_many;
      threads = λ k x y e at at_y at_e.
          let found =
          was_mapped (λ (t : Member ScriptThread). new_session s t.desk) threads k x
          (ap (λ l. slice_get l k) (sym runs.sessions_are) ∙ at) in
          let m = found.0 in
          let same_end : m.ended ≡ e =
          some_same m.ended e (sym (got_map (λ (t : Member ScriptThread). t.ended) threads k m found.1) ∙ at_e) in
          let has : HasDoneItsTasks s steps m y = runs.worked.each k m y found.1 at_y in
          let all_told =
          rw has.own at
          (tells_own (λ (w : Member ScriptThread). w.attended.client.thread) (λ w. w.attended.client.told)
          (λ w. w.attended.outstanding.items) threads number_at own_at k m found.1) in
          let comes : ThreadComes steps (flat_map told threads) (new_session s m.desk) y m.ended =
          record {
            runs = rw all_told.0 has.runs;
            outstanding = m.attended.outstanding.items;
            ends = has.ends;
            told = all_told.1;
          } in
          rw (found.2, same_end) at comes;
      others = λ t none_there silent.
          tells_no_other (λ (w : Member ScriptThread). w.attended.client.thread) (λ w. w.attended.client.told)
          (λ w. w.attended.outstanding.items) threads number_at own_at t
          (λ k x at same. none_there k (new_session s x.desk) (member_at k x at) (sym (worked_at k x at).1.own ∙ same));
      managers = runs.served;
    }
      where
        as_many : length threads ≡ length sessions
        as_many =
            sym (length-map threads (λ (t : Member ScriptThread). new_session s t.desk))
            ∙ ap (λ (l : List Session). length l) (sym runs.sessions_are)

    -- what a run in threads has come to
    pub threads_ran : OpeningRan s b steps answers sessions left workers end_line done
    threads_ran = rw (runs.answered, runs.ended_are) all_there

-- ---- an opening in turns that ends: its answers are its own, whatever stood before them

pub closed_so : (s : Content) (b : Beginning) (steps : List ScriptStep) (told : List TranscriptLine)
    (sessions : List Session)
    (workers : List WorkerView)
    (g : Goes s b steps told sessions workers) (all : List TranscriptLine) (end_line : List EndedView)
    (workers' : List WorkerView)
    (all' : List TranscriptLine) (done : List Served)
    → HaveEnded (closing_of [] workers all) sessions (closing_of end_line workers' all')
    → Pairwise HasServed workers' done
    → (later : List TranscriptLine) × (all' ≡ all ++ later) × InTurns steps g.first sessions g.first_workers end_line
    done
    (told ++ later)
    × OpeningRan s b steps (told ++ later) g.first sessions g.first_workers end_line done
closed_so s b steps told sessions workers g all end_line workers' all' done ends served =
    let c = closes workers all sessions (closing_of end_line workers' all') ends in
    let later = flat_map ended_by c.endings in
    let runs : InTurns steps g.first sessions g.first_workers end_line done (told ++ later) = record {
      ran = turns_at sessions workers told;
      runs = g.made;
      left_are = refl;
      closed = closing_of end_line workers' (told ++ later);
      closes = c.after told;
      ended_are = refl;
      served = served;
      answered = refl;
    } in (
      later,
      c.told,
      runs,
      turns_ran s b steps g.first g.first_workers g.is_open.opened g.is_open.begins g.fits sessions
          end_line done (told ++ later) runs,
    )

-- the desks and the workers of a run are all those of its opening
pub pieces_of : ((d : DeskView) → GoesOn d d)
    → ((old mid new : DeskView) → GoesOn old mid → GoesOn mid new → GoesOn old new) → (s : Content) (b : Beginning)
    (steps : List ScriptStep) (answers : List TranscriptLine) (sessions left : List Session) (workers : List WorkerView)
    (end_line : List EndedView) (done : List Served)
    (r : OpeningRan s b steps answers sessions left workers end_line done) → ArePiecesOf r.opened.setup end_line done
pieces_of same further s b steps answers sessions left workers end_line done r = record {
  desks = map (λ (x : Session). x.desk) sessions;
  workers = workers;
  limits = r.opened.said.limits;
  opened = r.opened.opened;
  gone = record {
    as_many = r.many_ended ∙ sym (length-map sessions (λ (x : Session). x.desk));
    each = λ k d e at at_e.
        let x = was_mapped (λ (x : Session). x.desk) sessions k d at in
        let y = got left k (omega (arith, slice_get_within end_line k e at_e, r.many_ended, r.many_left)) in
        let c : ThreadComes steps answers x.0 y.0 e = r.threads k x.0 y.0 e x.1 y.1 at_e in
        let old = x.0.desk in
        let goes : GoesOn old y.0.desk =
        along (λ (z : Session × List TranscriptLine). GoesOn old z.0.desk) (x.0, []) _
        (state y.0 (answers_to old.thread answers))
        c.runs (λ _ now next is so_far. further old now.0.desk next.0.desk so_far is.does.goes_on) (same old) in
        rw (← x.2)
        (record {
          last = c.ends.emptied;
          goes_on = further old y.0.desk c.ends.emptied goes c.ends.goes_on;
          ends = c.ends.ends;
        });
  };
  served = r.managers;
}
