use Rattle.xa_base.proofs.{map-map, ◌≡◌, ◌+◌, ◌<◌, ℕ, zero, suc, List, [], ◌∷◌, Some, length, map, false, refl, ap, ◌∙◌}
use Rattle.xa_base.proofs.{sym, arith, All, slice_get, flat_map, range_with_len, got_map, slice_get_within}
use Rattle.xa_base.proofs.{slice_get-get_or, all_at, some_same, length-range_with_len, get_or-range_with_len, All-nil}
use Rattle.xa_base.proofs.{none_side}
use Rattle.std.proofs.lemmas.List.Folds.{flat_map-map}
use Rattle.xa_base.specs.{Chain, Pairwise}
use Rattle.script_transcript.specs.{opened, TranscriptLine}
use Rattle.script_grammar.specs.{tasks_of, threads_of, Content, Fits, managers_of, NoneReopens}
use Rattle.xa_crew.specs.{Attended, Member, HasRun, IsRun}
use Rattle.script_session.specs.{Session, session_of, log_of, HasDone, new_session}
use Rattle.laws_transcript.specs.{AreOpened, Former, beginning}
use Rattle.laws_transcript.proofs.Opened.{opened_thread, planned_setup}
use Rattle.xa_script.specs.{lines_of_thread, HasDoneItsTasks, ScriptThread, IsNewThread, ThreadWorks}
use Rattle.xa_base.specs.Lists.Chain.{none}
use Rattle.xa_desk.specs.{DeskView, EndedView}
use Rattle.xa_switch.specs.{planned, Setup, Settling}
use Rattle.xa_script.specs.InThreads.{InThreads}
use Rattle.xa_script.proofs.Runs.{threads_ran}
use Rattle.xa_script.proofs.TurnsSoFar.{begin_so}
use Rattle.xa_script.proofs.in_threads.run.Goals as goal

-- the numbers from 1 on
number_there : (n k : ℕ) → k < n → slice_get (range_with_len 1 n) k ≡ Some (k + 1)
number_there n k below =
    let own = get_or-range_with_len 1 n k (k + 1) below in
    slice_get-get_or (range_with_len 1 n) k (k + 1) (omega (arith, below, length-range_with_len 1 n))
    ∙ ap (λ (x : ℕ). Some x) (omega (arith, own))

-- as many threads as the script has
as_many_new : (s : Content) (threads : List ScriptThread)
    → Pairwise (IsNewThread s) (range_with_len 1 (threads_of s)) threads
    → length threads ≡ threads_of s
as_many_new s threads new = new.as_many ∙ length-range_with_len 1 (threads_of s)

-- a member that was new and to which no memory was refused
one_worked : (s : Content) (t : ℕ) (m : Member ScriptThread) → m.desk.thread ≡ t → IsNewThread s t m.client
    → HasRun ThreadWorks m
    → m.attended.client.wants_memory ≡ false
    → (y : Session) × HasDoneItsTasks s s.steps m y
one_worked s t m number new ran done =
    let x = m.client in
    let y : Session = session_of ran.left m.attended.client.log m.attended.client.scan in
    let last : Session × List TranscriptLine = (y, m.attended.client.told) in
    let runs : Chain HasDone (session_of m.desk x.log x.scan, x.told) x.tasks last = ran.worked.runs done in
    let log : x.log ≡ log_of s m.desk.thread = new.log ∙ ap (log_of s) (sym number) in
    let tasks : x.tasks ≡ tasks_of m.desk.thread s.steps =
    new.tasks ∙ ap (λ (n : ℕ). tasks_of n s.steps) (sym number) in (
      y,
      record {
        own = ran.worked.own ∙ new.own ∙ sym number;
        runs = rw (log, tasks, new.scan, new.told) at runs;
        ends = ran.ends;
      },
    )

-- of each of several a choice
chosen : {A B : Type 0} (P : A → B → Type 0) (xs : List A)
    → ((k : ℕ) (x : A) → slice_get xs k ≡ Some x → (y : B) × P x y) → (ys : List B) × Pairwise P xs ys
chosen P [] each = ([], none_side P [] [] refl refl)
chosen {A} {B} P (x ∷ xs) each =
    let first = each 0 x refl in
    let rest = chosen P xs (λ k y at. each (suc k) y at) in
    (first.0 ∷ rest.0, record { as_many = ap suc rest.1.as_many; each = each_of first.0 rest.0 first.1 rest.1 })
  where
    each_of : (y : B) (ys : List B) → P x y → Pairwise P xs ys → (k : ℕ) (a : A) (b : B) → slice_get (x ∷ xs) k ≡ Some a
        → slice_get (y ∷ ys) k ≡ Some b → P a b
    each_of y ys one all zero a b at at' = rw (some_same x a at, some_same y b at') at one
    each_of y ys one all (suc k) a b at at' = all.each k a b at at'

-- all members were new, and to none of them was memory refused
members_worked : (s : Content) (p : Setup) (threads : List ScriptThread) (clients : List (Attended ScriptThread))
    (settled : Settling)
    (r : IsRun ThreadWorks p threads clients settled) → AreOpened s 1 (opened s) (map (λ t. t.desk) r.members) r.workers
    → Pairwise (IsNewThread s) (range_with_len 1 (threads_of s)) threads
    → All (λ t. t.client.wants_memory ≡ false) clients
    → (left : List Session) × Pairwise (HasDoneItsTasks s s.steps) r.members left
members_worked s p threads clients settled r are_opened news done =
    chosen (HasDoneItsTasks s s.steps) r.members λ k m at.
    let client_at : slice_get threads k ≡ Some m.client =
    ap (λ l. slice_get l k) r.clients_are ∙ got_map (λ (t : Member ScriptThread). t.client) r.members k m at in
    let attended_at : slice_get clients k ≡ Some m.attended =
    ap (λ l. slice_get l k) r.attended_are ∙ got_map (λ (t : Member ScriptThread). t.attended) r.members k m at in
    let number : m.desk.thread ≡ k + 1 =
    opened_thread s 1 (opened s) _ r.workers are_opened k m.desk
    (got_map (λ (t : Member ScriptThread). t.desk) r.members k m at) in
    let below : k < threads_of s =
    omega (arith, slice_get_within threads k m.client client_at, as_many_new s threads news) in
    one_worked s (k + 1) m number (news.each k (k + 1) m.client (number_there (threads_of s) k below) client_at)
    (all_at (HasRun ThreadWorks) r.members k m r.ran at)
    (all_at (λ (t : Attended ScriptThread). t.client.wants_memory ≡ false) clients k m.attended done attended_at)

pub run_clients-requires-clause-clients : goal.run_clients-requires-clause-clients
run_clients-requires-clause-clients g c κs within =
    search (arith, as_many_new, c.args.script.now, c.in_ok-threads.threads.items)

pub run_clients-requires-clause-paces : goal.run_clients-requires-clause-paces
run_clients-requires-clause-paces g c κs within =
    search (arith, c.in_ok-plan.ensures.sound.limits.managers.1, c.requires.paces)

pub returns-in-Ok : goal.returns-in-Ok
returns-in-Ok g c =
    let s : Content = c.args.script.now in
    let answers : List TranscriptLine = flat_map lines_of_thread c.in-Ok.run'.clients.items in
    let r : IsRun ThreadWorks (planned c.in_ok-plan.plan) c.in_ok-threads.threads.items c.in-Ok.run'.clients.items
    c.in-Ok.run'.settled =
    c.in-Ok.ensures.ran in
    let desks : List DeskView = map (λ (t : Member ScriptThread). t.desk) r.members in
    let sessions : List Session = map (λ (t : Member ScriptThread). new_session s t.desk) r.members in
    let ended : List EndedView = map (λ (t : Member ScriptThread). t.ended) r.members in
    let are_opened : AreOpened s 1 (opened s) desks r.workers =
    record {
      setup = planned c.in_ok-plan.plan;
      said =
          planned_setup s c.in_ok-plan.plan c.in_ok-plan.ensures.plan c.in_ok-plan.ensures.sound;
      opened =
          r.opened;
    } in
    let all_opened : AreOpened s 1 (opened s) (map (λ (x : Session). x.desk) sessions) r.workers =
    search (arith, map-map) in
    let fits : All (Fits (threads_of s) (managers_of s)) s.steps = c.steps_are_of_it.ensures in
    let worked =
    members_worked s (planned c.in_ok-plan.plan) _ _ _ r are_opened c.in_ok-threads.ensures
    c.in_ok-lines_of-in-Ok.ensures.done in
    let runs : InThreads s s.steps sessions worked.0 r.workers ended r.done answers = record {
      threads = r.members;
      sessions_are = refl;
      worked = worked.1;
      ended_are = refl;
      served = r.served;
      answered = ap (flat_map lines_of_thread) r.attended_are
          ∙ flat_map-map lines_of_thread (λ (t : Member ScriptThread). t.attended) r.members;
    } in (
      answers,
      record { steps = s.steps; answers = answers; settled = c.in-Ok.run'.settled },
      c.in_ok-lines_of-in-Ok.ensures.lines,
      record {
        steps = refl;
        answers_ = refl;
        ones = (All-nil (λ (f : Former). NoneReopens f.opening.steps), c.requires.one);
        begins = beginning s;
        former = none [] (beginning s) refl refl;
        left = worked.0;
        latest = record {
          sessions = sessions;
          workers = r.workers;
          ended = ended;
          done = r.done;
          runs = runs;
          ran = threads_ran s (beginning s) s.steps sessions r.workers all_opened
              (begin_so s (λ (t : Member ScriptThread). t.desk) r.members) fits worked.0 ended r.done answers runs;
          settles = r.settles;
          number = r.of_setup.opening ∙ c.in_ok-plan.ensures.plan.numbers.opening_;
          agree = r.agrees;
        };
      },
      refl,
    )
