-- What holds of the desks and the workers that a script has opened, and of its tasks.
use Rattle.xa_base.proofs.{map-map, ◌≡◌, ℕ, ◌+◌, Bool, List, [], ◌∷◌, length, map, Some, sym, refl, ap, ◌∙◌, arith}
use Rattle.xa_base.proofs.{slice_get, range_with_len, slice_index_or, length-map, slice_get_within, slice_get-get_or}
use Rattle.xa_base.proofs.{some_same, ◌≢◌, ◌≤◌, ◌==◌, ◌++◌, None, All, if◌then◌else◌, eqb-true, ne_eqb, All-head}
use Rattle.xa_base.proofs.{All-tail, All-cons, All-nil, by_bool, length-map-range_with_len, get_or-map-range_with_len}
use Rattle.xa_base.proofs.{filter_map, filter_map-append}
use Rattle.script_grammar.specs.declared.step.Step.TheVariants as step
use Rattle.xa_desk.specs.{DeskView}
use Rattle.xa_worker.specs.{WorkerView}
use Rattle.xa_tables.specs.{Tables, opening}
use Rattle.xa_switch.specs.{Plan, Setup, IsSound, planned, IsNewDesk, IsNewWorker}
use Rattle.script_grammar.specs.{Content, threads_of, managers_of, ScriptTask, ScriptStep, task_of, tasks_of, Fits}
use Rattle.laws_transcript.specs.{IsPlanOf, IsSetupOf, AreOpened, script_says, plan_says}
use Rattle.script_transcript.specs.{opened}

-- ---- the desks

pub opened_threads : (s : Content) (n : ℕ) (tables : ℕ → Tables) (desks : List DeskView) (workers : List WorkerView)
    → AreOpened s n tables desks workers
    → length desks ≡ threads_of s
opened_threads s n tables desks workers is = is.opened.threads ∙ is.said.numbers.threads

pub opened_managers : (s : Content) (n : ℕ) (tables : ℕ → Tables) (desks : List DeskView) (workers : List WorkerView)
    → AreOpened s n tables desks workers
    → length workers ≡ managers_of s
opened_managers s n tables desks workers is = is.opened.managers ∙ is.said.managers

-- the desk at place k is that of thread k + 1
pub opened_thread : (s : Content) (n : ℕ) (tables : ℕ → Tables) (desks : List DeskView) (workers : List WorkerView)
    → AreOpened s n tables desks workers
    → (k : ℕ) (d : DeskView) → slice_get desks k ≡ Some d → d.thread ≡ k + 1
opened_thread s n tables desks workers is k d at =
    let new : IsNewDesk is.setup k d = is.opened.desks k d at in ap (λ (x : DeskView). x.thread) new.made

-- ---- the workers

-- what stands at a place of a list over the managers
pub over_managers : {A : Type 0} (f : ℕ → A) (many k : ℕ) (x : A) → slice_get (map f (range_with_len 1 many)) k ≡ Some x
    → x ≡ f (k + 1)
over_managers f many k x at =
    let list = map f (range_with_len 1 many) in
    let within = slice_get_within list k x at in
    some_same x (slice_index_or list k x) (sym at ∙ slice_get-get_or list k x within)
    ∙ get_or-map-range_with_len f 1 many k (k + 1) x (omega (arith, within, length-map-range_with_len f 1 many))
    (omega arith)

pub opened_first : (s : Content) (n : ℕ) (tables : ℕ → Tables) (p : Setup) → IsSetupOf s n tables p
    → (k : ℕ) (w : WorkerView) → IsNewWorker p k w
    → w.first ≡ tables (k + 1)
opened_first s n tables p is k w new = search (arith, over_managers, slice_get, new.first)

-- ---- the first opening

-- what is made by the script's plan is what the script says
pub planned_setup : (s : Content) (p : Plan) → IsPlanOf s p → IsSound p → IsSetupOf s 1 (opened s) (planned p)
planned_setup s p is sound =
    let range = range_with_len 1 (managers_of s) in
    record {
      numbers = is.numbers;
      managers = search (arith, length-map-range_with_len, length-map);
      use_async =
          sym (map-map (λ (a : Bool × List (List ℕ × ℕ)). a.0) plan_says p.managers.items)
          ∙ ap (map (λ (a : Bool × List (List ℕ × ℕ)). a.0)) is.managers
          ∙ map-map (λ (a : Bool × List (List ℕ × ℕ)). a.0) (script_says s) range;
      first =
          sym (map-map (λ (a : Bool × List (List ℕ × ℕ)). opening a.1) plan_says p.managers.items)
          ∙ ap (map (λ (a : Bool × List (List ℕ × ℕ)). opening a.1)) is.managers
          ∙ map-map (λ (a : Bool × List (List ℕ × ℕ)). opening a.1) (script_says s) range;
      limits = sound.limits;
    }

-- ---- the tasks of one thread

-- each is the thread's own
abbrev pub AreOf : ℕ → List ScriptTask → Type 0
AreOf t tasks = All (λ (q : ScriptTask). q.thread ≡ t) tasks

pub tasks_are_of : (t : ℕ) (steps : List ScriptStep) → AreOf t (tasks_of t steps)
tasks_are_of t [] = All-nil (λ (q : ScriptTask). q.thread ≡ t)
tasks_are_of t (step.Task p ∷ steps) =
    rw (filter_map-append (task_of t) (step.Task p ∷ []) steps)
    (by_bool
    (λ b. AreOf t (filter_map (λ (q : ScriptTask). if b then Some q else None) (p ∷ []) ++ tasks_of t steps))
    (p.thread == t)
    (λ own. All-cons (λ (q : ScriptTask). q.thread ≡ t) p (tasks_of t steps) (eqb-true p.thread t own)
    (tasks_are_of t steps)) (λ _. tasks_are_of t steps))
tasks_are_of t (s ∷ steps) = tasks_are_of t steps

-- a thread that there isn't has none
pub no_tasks : (t threads managers : ℕ) (steps : List ScriptStep) → All (Fits threads managers) steps
    → (1 ≤ t → t ≤ threads → ⊥) → tasks_of t steps ≡ []
no_tasks t threads managers [] all apart = refl
no_tasks t threads managers (step.Task p ∷ steps) all apart =
    let fits : Fits threads managers (step.Task p) = All-head (Fits threads managers) (step.Task p) steps all in
    let differs : p.thread ≢ t = λ e. apart (rw e at fits.0.0) (rw e at fits.0.1) in
    filter_map-append (task_of t) (step.Task p ∷ []) steps
    ∙ ap (λ b. filter_map (λ (q : ScriptTask). if b then Some q else None) (p ∷ []) ++ tasks_of t steps)
    (ne_eqb p.thread t differs)
    ∙ no_tasks t threads managers steps (All-tail (Fits threads managers) (step.Task p) steps all) apart
no_tasks t threads managers (s ∷ steps) all apart =
    no_tasks t threads managers steps (All-tail (Fits threads managers) s steps all) apart
