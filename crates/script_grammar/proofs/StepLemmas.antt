-- Steps: their names stay where they stand as more are appended, and the tasks of one thread among them.
use Rattle.xa_base.proofs.{take_next, ◌≡◌, ℕ, ◌+◌, ◌<◌, List, [], ◌∷◌, ◌++◌, length, take, Some, slice_get, sym, ◌∙◌}
use Rattle.xa_base.proofs.{some_same, rules, pos, ◌≤◌, Bool, true, false, if◌then◌else◌, drop, All, None, is_some}
use Rattle.xa_base.proofs.{list_any, ◌||◌, refl, ap, arith, append-nil, length-append, length-drop, All-nil, All-cons}
use Rattle.xa_base.proofs.{All-head, All-tail, zero, suc, cond, Option, cons_option, get_or, filter-append, All-push}
use Rattle.xa_base.proofs.{All-weaker, is_there, got, slice_get_within, drop-append_seam, get_or-append_seam}
use Rattle.xa_base.proofs.{drop-append-le, take-append-le, slice_get_read, filter_map-append}
use Rattle.script_grammar.specs.declared.step.ManagerCall.TheVariants as manager_call
use Rattle.script_grammar.specs.declared.step.Action.TheVariants as action
use Rattle.script_grammar.specs.declared.step.Step.TheVariants as step
use Rattle.std.specs.List.{filter_map}
use Rattle.std.proofs.Math.ListN.{get_or-append}
use Rattle.std.proofs.Math.Seq.{take-length}
use Rattle.xa_words.specs.{XidName, TranName}
use Rattle.script_grammar.specs.{Action, Step, ManagerCall, NamePlace, GtridPlace, KeyPlace, ScriptCall, ScriptAction}
use Rattle.script_grammar.specs.{ScriptStep, CallHas, ActionHas, action_with, call_with, step_with, is_reopen, is_own}
use Rattle.script_grammar.specs.{SpellsName, Spells, IsShortName, IsShortGtrid, IsShort, KeptStep, bytes_at, name_at}
use Rattle.script_grammar.specs.{gtrid_at, IsName, IsGtrid, IsKey, IsNamed, task_step, step_at, steps_of, keys_called}
use Rattle.script_grammar.specs.{keys_given, keys_in, place_from, gtrid_place_from, key_place_from, kept_from}
use Rattle.script_grammar.specs.{ScriptTask, tasks_of, IsTask, own_steps, tasks_in, steps_at}
use Rattle.script_grammar.specs.KeptSteps.{key_at_place}

-- ---- a step whose names are named as they are

call_same : {X K : Type 0} (c : ManagerCall X K) → call_with (λ x. x) (λ k. k) c ≡ c
call_same (manager_call.Xa c (Some x)) = refl
call_same (manager_call.Xa c None) = refl
call_same c = refl

action_same : {X G K : Type 0} (a : Action X G K) → action_with (λ x. x) (λ t. t) (λ k. k) a ≡ a
action_same (action.Call c) =
    λ i. action.Call (record { manager = c.manager; flags = c.flags; call = call_same c.call i })
action_same a = refl

pub step_same : {X G K : Type 0} (p : Step X G K) → step_with (λ x. x) (λ t. t) (λ k. k) p ≡ p
step_same (step.Task p) = λ i. step.Task (record { line = p.line; thread = p.thread; action = action_same p.action i })
step_same p = refl

-- ---- the bytes that were appended last

last_at : (xs w : List ℕ) → bytes_at (xs ++ w) (length xs) (length w) ≡ w
last_at xs w = ap (take (length w)) (drop-append_seam xs w) ∙ take-length w

-- ---- what stood there before

bytes_grown : (xs more : List ℕ) (at n : ℕ) → at + n ≤ length xs → bytes_at (xs ++ more) at n ≡ bytes_at xs at n
bytes_grown xs more at n within = search (arith, length-drop, drop-append-le, take-append-le)

name_grown : (xs more : List ℕ) (p : NamePlace) → IsName xs p → name_at (xs ++ more) p ≡ name_at xs p
name_grown xs more p is = search (arith, bytes_grown, p.at, is.within, p.gtrid)

is_name_grown : (xs more : List ℕ) (p : NamePlace) → IsName xs p → IsName (xs ++ more) p
is_name_grown xs more p is = search (arith, length-append, is.within)

gtrid_grown : (xs more : List ℕ) (p : GtridPlace) → IsGtrid xs p → gtrid_at (xs ++ more) p ≡ gtrid_at xs p
gtrid_grown xs more p is = λ i. record { format = pos 1; gtrid = bytes_grown xs more p.at p.len is.within i }

is_gtrid_grown : (xs more : List ℕ) (p : GtridPlace) → IsGtrid xs p → IsGtrid (xs ++ more) p
is_gtrid_grown xs more p is = search (arith, length-append, is.within)

key_grown : (ks others : List (List ℕ)) (p : KeyPlace) → IsKey ks p → key_at_place (ks ++ others) p ≡ key_at_place ks p
key_grown ks others p is = get_or-append ks others [] p.at is

is_key_grown : (ks others : List (List ℕ)) (p : KeyPlace) → IsKey ks p → IsKey (ks ++ others) p
is_key_grown ks others p is = let longer = length-append ks others in omega (arith, longer, is)

call_grown : (xs more : List ℕ) (ks others : List (List ℕ)) (c : ManagerCall NamePlace KeyPlace)
    → CallHas (IsName xs) (IsKey ks) c
    → (call_with (name_at (xs ++ more)) (key_at_place (ks ++ others)) c ≡ call_with (name_at xs) (key_at_place ks) c)
    × CallHas
    (IsName (xs ++ more)) (IsKey (ks ++ others)) c
call_grown xs more ks others (manager_call.Xa c (Some p)) has =
    (ap (λ (x : XidName). manager_call.Xa c (Some x)) (name_grown xs more p has), is_name_grown xs more p has)
call_grown xs more ks others (manager_call.Heur p commits) has = search (arith, name_grown, is_name_grown)
call_grown xs more ks others (manager_call.Add k d) has =
    (ap (λ (q : List ℕ). manager_call.Add q d) (key_grown ks others k has), is_key_grown ks others k has)
call_grown xs more ks others c has = (refl, tt)

-- what is kept of a thread's action
abbrev KeptAction : Type 0
KeptAction = Action NamePlace GtridPlace KeyPlace

abbrev AreNamed : List ℕ → List (List ℕ) → KeptAction → Type 0
AreNamed xs ks = ActionHas (IsName xs) (IsGtrid xs) (IsKey ks)

abbrev action_at : List ℕ → List (List ℕ) → KeptAction → ScriptAction
action_at xs ks = action_with (name_at xs) (gtrid_at xs) (key_at_place ks)

action_grown : (xs more : List ℕ) (ks others : List (List ℕ)) (a : KeptAction) → AreNamed xs ks a
    → (action_at (xs ++ more) (ks ++ others) a ≡ action_at xs ks a) × AreNamed (xs ++ more) (ks ++ others) a
action_grown xs more ks others (action.Call c) is =
    let (same, still) = call_grown xs more ks others c.call is in
    (ap (λ (q : ScriptCall). action.Call (record { manager = c.manager; flags = c.flags; call = q })) same, still)
action_grown xs more ks others (action.CommitAll c) is = (
  ap (λ (t : TranName). action.CommitAll (record { tran = t; managers = c.managers; death = c.death }))
      (gtrid_grown xs more c.tran is),
  is_gtrid_grown xs more c.tran is,
)
action_grown xs more ks others action.Resolve is = (refl, tt)

step_grown : (xs more : List ℕ) (ks others : List (List ℕ)) (p : KeptStep) → IsNamed xs ks p
    → (step_at (xs ++ more) (ks ++ others) p ≡ step_at xs ks p) × IsNamed (xs ++ more) (ks ++ others) p
step_grown xs more ks others (step.Task p) is =
    let (same, still) = action_grown xs more ks others p.action is in (ap (task_step p.line p.thread) same, still)
step_grown xs more ks others p is = (refl, tt)

-- ---- a step whose name is appended

-- its name stands there
name_put : (xs w : List ℕ) (x : XidName) → IsShortName x → SpellsName w x
    → (name_at (xs ++ w) (place_from (length xs) x) ≡ x) × IsName (xs ++ w) (place_from (length xs) x)
name_put xs w x (format, gtrid, bqual) (front, back) =
    let behind : length (drop (length x.gtrid + 1) w) ≡ length x.bqual = ap length back in
    let long : length x.gtrid + 1 + length x.bqual ≡ length w =
    omega (arith, behind, length-drop (length x.gtrid + 1) w, bqual) in
    let size = length-append xs w in
    let whole : bytes_at (xs ++ w) (length xs) (length x.gtrid + 1 + length x.bqual) ≡ w =
    ap (bytes_at (xs ++ w) (length xs)) long ∙ last_at xs w in
    let before : take (length x.gtrid)
    (bytes_at (xs ++ w) (length xs) (length x.gtrid + 1 + length x.bqual)) ≡ x.gtrid =
    search (arith, rules) in
    let after : drop (length x.gtrid + 1)
    (bytes_at (xs ++ w) (length xs) (length x.gtrid + 1 + length x.bqual)) ≡ x.bqual =
    search (arith, rules) in (
      λ i. record { format = sym format i; gtrid = before i; bqual = after i },
      record { within = omega (arith, size, long); gtrid = gtrid; bqual = bqual },
    )

gtrid_put : (xs w : List ℕ) (t : TranName) → IsShortGtrid t → w ≡ t.gtrid
    → (gtrid_at (xs ++ w) (gtrid_place_from (length xs) t) ≡ t) × IsGtrid (xs ++ w) (gtrid_place_from (length xs) t)
gtrid_put xs w t (format, short) is = search (arith, length-append, last_at)

-- and so does its key
key_put : (ks : List (List ℕ)) (k : List ℕ)
    → (key_at_place (ks ++ k ∷ []) (key_place_from (length ks) k) ≡ k) × IsKey (ks ++ k ∷ [])
    (key_place_from (length ks) k)
key_put ks k = (get_or-append_seam ks k [] [], let longer = length-append ks (k ∷ []) in omega (arith, longer))

call_put : (xs w : List ℕ) (ks : List (List ℕ)) (c : ScriptCall) → CallHas IsShortName (λ k. Unit {0}) c
    → CallHas (SpellsName w) (λ k. Unit {0}) c
    → let all = xs ++ w in let keys = ks ++ keys_called c in let k = call_with (place_from (length xs))
    (key_place_from (length ks)) c in
    (call_with (name_at all) (key_at_place keys) k ≡ c) × CallHas (IsName all) (IsKey keys) k
call_put xs w ks (manager_call.Xa c (Some x)) short spells =
    let put = name_put xs w x short spells in (ap (λ (y : XidName). manager_call.Xa c (Some y)) put.0, put.1)
call_put xs w ks (manager_call.Heur x commits) short spells =
    let put = name_put xs w x short spells in (ap (λ (y : XidName). manager_call.Heur y commits) put.0, put.1)
call_put xs w ks (manager_call.Add k d) short spells =
    let put = key_put ks k in (ap (λ (q : List ℕ). manager_call.Add q d) put.0, put.1)
call_put xs w ks c short spells = (refl, tt)

-- so do those of the action
action_put : (xs w : List ℕ) (ks : List (List ℕ)) (a : ScriptAction)
    → ActionHas IsShortName IsShortGtrid (λ k. Unit {0}) a
    → ActionHas (SpellsName w) (λ (t : TranName). w ≡ t.gtrid) (λ k. Unit {0}) a
    → let all = xs ++ w in let keys = ks ++ keys_given a in
    let k = action_with (place_from (length xs)) (gtrid_place_from (length xs)) (key_place_from (length ks)) a in
    (action_at all keys k ≡ a) × AreNamed all keys k
action_put xs w ks (action.Call c) short spells =
    let put = call_put xs w ks c.call short spells in
    (ap (λ (q : ScriptCall). action.Call (record { manager = c.manager; flags = c.flags; call = q })) put.0, put.1)
action_put xs w ks (action.CommitAll c) short spells =
    let put = gtrid_put xs w c.tran short spells in
    (ap (λ (g : TranName). action.CommitAll (record { tran = g; managers = c.managers; death = c.death })) put.0, put.1)
action_put xs w ks action.Resolve short spells = (refl, tt)

-- and of the step
pub step_put : (xs w : List ℕ) (ks : List (List ℕ)) (p : ScriptStep) → IsShort p → Spells w p
    → let all = xs ++ w in let keys = ks ++ keys_in p in let k = kept_from (length xs) (length ks) p in
    (step_at all keys k ≡ p) × IsNamed all keys k
step_put xs w ks (step.Task p) short spells =
    let put = action_put xs w ks p.action short spells in (ap (task_step p.line p.thread) put.0, put.1)
step_put xs w ks p short spells = (refl, tt)

-- ---- so steps stay as they are
pub steps_grown : (xs more : List ℕ) (ks others : List (List ℕ)) (steps : List KeptStep) → All (IsNamed xs ks) steps
    → (steps_of (xs ++ more) (ks ++ others) steps ≡ steps_of xs ks steps) × All (IsNamed (xs ++ more) (ks ++ others))
    steps
steps_grown xs more ks others [] all = (refl, All-nil (IsNamed (xs ++ more) (ks ++ others)))
steps_grown xs more ks others (p ∷ steps) all =
    let (first, named) = step_grown xs more ks others p (All-head (IsNamed xs ks) p steps all) in
    let (rest, later) = steps_grown xs more ks others steps (All-tail (IsNamed xs ks) p steps all) in
    (λ i. first i ∷ rest i, All-cons (IsNamed (xs ++ more) (ks ++ others)) p steps named later)

-- where no key was appended
pub names_grown : (xs more : List ℕ) (ks : List (List ℕ)) (steps : List KeptStep) → All (IsNamed xs ks) steps
    → (steps_of (xs ++ more) ks steps ≡ steps_of xs ks steps) × All (IsNamed (xs ++ more) ks) steps
names_grown xs more ks steps all = rw (append-nil ks) at (steps_grown xs more ks [] steps all)

reopens_same : (bytes : List ℕ) (keys : List (List ℕ)) (p : KeptStep) → is_reopen p ≡ is_reopen (step_at bytes keys p)
reopens_same bytes keys p = search (arith, rules)

pub any_reopens : (bytes : List ℕ) (keys : List (List ℕ)) (steps : List KeptStep)
    → list_any is_reopen steps ≡ list_any is_reopen (steps_of bytes keys steps)
any_reopens bytes keys [] = refl
any_reopens bytes keys (p ∷ steps) = λ i. reopens_same bytes keys p i || any_reopens bytes keys steps i

own_cases : {A B : Type 0} (b : Bool) (p : A) (q : B)
    → is_some (if b then Some p else None) ≡ is_some (if b then Some q else None)
own_cases b p q = search (arith, rules)

-- names don't tell whose a step is
pub own_same : (t : ℕ) (bytes : List ℕ) (keys : List (List ℕ)) (p : KeptStep)
    → is_own t p ≡ is_own t (step_at bytes keys p)
own_same t bytes keys p = search (arith, own_cases)

-- ---- the tasks of one thread

-- where something is made of each element of a list
module _ {A B : Type 0} (f : A → Option B) where
  abbrev Makes : A → Type 0
  Makes x = is_some (f x) ≡ true

  as_many_made : (xs : List A) → All Makes xs → length (filter_map f xs) ≡ length xs
  as_many_made [] all = refl
  as_many_made (x ∷ xs) all =
      rw (is_there (f x) (All-head Makes x xs all)).1 (ap suc (as_many_made xs (All-tail Makes x xs all)))

  pub made_there : (xs : List A) (i : ℕ) (x : A) → All Makes xs → slice_get xs i ≡ Some x
      → slice_get (filter_map f xs) i ≡ f x
  made_there [] i x all at = absurd cc
  made_there (y ∷ xs) zero x all at =
      let made = is_there (f y) (All-head Makes y xs all) in rw made.1 (sym made.1 ∙ ap f (some_same y x at))
  made_there (y ∷ xs) (suc i) x all at =
      rw (is_there (f y) (All-head Makes y xs all)).1 (made_there xs i x (All-tail Makes y xs all) at)

pub own_are_tasks : (t : ℕ) (steps : List ScriptStep) → All IsTask (own_steps t steps)
own_are_tasks t [] = All-nil IsTask
own_are_tasks t (step.Task p ∷ steps) = search (arith, own_are_tasks t steps, All-cons, step.Task)
own_are_tasks t (p ∷ steps) = own_are_tasks t steps

pub own_tasks : (t : ℕ) (steps : List ScriptStep) → tasks_in (own_steps t steps) ≡ tasks_of t steps
own_tasks t [] = refl
own_tasks t (step.Task p ∷ steps) = search (arith, own_tasks t steps, is_some, cons_option, step.Task)
own_tasks t (p ∷ steps) = own_tasks t steps

-- ---- of steps at places

places_make : (steps : List ScriptStep) (places : List ℕ) → All (λ k. k < length steps) places
    → All (Makes (slice_get steps)) places
places_make steps places within =
    All-weaker (λ k. k < length steps) (Makes (slice_get steps)) (λ k lt. ap is_some (got steps k lt).1) places within

-- the step at the place that stands at i
pub step_at_place : (steps : List ScriptStep) (places : List ℕ) (i k : ℕ) (x : ScriptStep)
    → All (λ k. k < length steps) places → i < length places
    → k ≡ get_or places i k → slice_get steps k ≡ Some x → slice_get (steps_at steps places) i ≡ Some x
step_at_place steps places i k x within there is at = search (arith, made_there, slice_get, places_make, slice_get_read)

-- as many tasks as places
pub as_many_places : (steps : List ScriptStep) (places : List ℕ) → All IsTask (steps_at steps places)
    → All (λ k. k < length steps) places
    → length (tasks_in (steps_at steps places)) ≡ length places
as_many_places steps places tasks within = search (arith, as_many_made, slice_get, places_make)

pub place_within : (steps : List ScriptStep) (places : List ℕ) (k : ℕ) (tasks : List ScriptTask)
    → All IsTask (steps_at steps places)
    → All (λ n. n < length steps) places → tasks_in (steps_at steps places) ≡ tasks → k < length tasks
    → k < length places
place_within steps places k tasks are within seen less = search (arith, as_many_places)

-- the places of thread t's own among the first k steps
abbrev pub OwnUpTo : ℕ → List ScriptStep → ℕ → List ℕ → Type 0
OwnUpTo t steps k places = (steps_at steps places ≡ own_steps t (take k steps)) × All (λ q. q < length steps) places

-- and one more where the next step is its own
pub own_next : (t : ℕ) (steps : List ScriptStep) (k : ℕ) (places : List ℕ) (x : ScriptStep) → OwnUpTo t steps k places
    → slice_get steps k ≡ Some x
    → OwnUpTo t steps (k + 1) (if is_own t x then places ++ k ∷ [] else places)
own_next t steps k places x (so_far, low) at =
    by (is_own t x) (ap (own_steps t) (take_next steps k x at) ∙ filter-append (is_own t) (take k steps) (x ∷ []))
  where
    by : (b : Bool) → own_steps t (take (k + 1) steps) ≡ own_steps t (take k steps) ++ cond b (x ∷ []) []
        → OwnUpTo t steps (k + 1) (if b then places ++ k ∷ [] else places)
    by true more = (
      filter_map-append (slice_get steps) places (k ∷ []) ∙ (λ i. so_far i ++ cons_option (at i) []) ∙ sym more,
      All-push (λ q. q < length steps) places k low (slice_get_within steps k x at),
    )
    by false more = (so_far ∙ sym (append-nil (own_steps t (take k steps))) ∙ sym more, low)
