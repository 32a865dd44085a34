-- A line that the grammar reads leaves a script: each manager can be opened with its keys, each step is of a thread or
-- a manager that there is, and no task asks for more than 64 xids.
use Rattle.xa_base.proofs.{rules, ◌≡◌, ℕ, zero, suc, ◌-◌, ◌<◌, ◌≤◌, Bool, true, false, not, cond, ◌&&◌, ◌||◌, ◌==◌}
use Rattle.xa_base.proofs.{nat_le, nat_lt, if◌then◌else◌, List, [], ◌∷◌, ◌++◌, length, map, Option, None, Some}
use Rattle.xa_base.proofs.{unwrap_or, get_or, slice_set, IfSome, All, Result, Ok, Err, refl, sym, ap, ◌∙◌, arith}
use Rattle.xa_base.proofs.{list_all, list_any, slice_index_or, or-false, le-leb, eqb-true, and_parts, or_parts}
use Rattle.xa_base.proofs.{false_from_ne_true, by_bool, map-append, err_from_is_err_and, append-nil, length-map}
use Rattle.xa_base.proofs.{length-append, All-append, filter-append, All-cons, All-nil, list_any-append, leb-true}
use Rattle.xa_base.proofs.{list_all-append}
use Rattle.script_grammar.specs.declared.step.Step.TheVariants as step
use Rattle.script_grammar.specs.declared.read.Head.TheVariants as head
use Rattle.script_grammar.specs.Items as item
use Rattle.std.specs.Option.{ok_or}
use Rattle.std.specs.Cmp.Derive.{both_true}
use Rattle.std.proofs.lemmas.List.Sums.{length-filter}
use Rattle.xa_words.specs.{key_eq, Decides-key_eq, are_accounts, are_apart}
use Rattle.script_grammar.specs.{Reason, KeyTwice, TooManyKeys, UnknownWord, Declared, UnknownAppend, Threads, Managers}
use Rattle.script_grammar.specs.{Item, words_of, Word, end_of, number_within, number_at, ScriptStep, IsScript}
use Rattle.script_grammar.specs.{IsOfManager, IsOfUnknown, IsOfScript, threads_of, managers_of, declared_accounts}
use Rattle.script_grammar.specs.{with_count, with_declared, with_failing, with_unknown, with_step, before_actions}
use Rattle.script_grammar.specs.{count_of, not_set, limit_of, setting_of, logfail_of, is_kept, logunknown_of, has_key}
use Rattle.script_grammar.specs.{key_count, declared_of, turn_of, item_of, line_of, Content, Head, is_reopen}
use Rattle.script_grammar.specs.{NoneReopens, reopen_of, head_of, item_by, with_line, after_line}
use Rattle.script_grammar.specs.declared.script.Count.{Count}
use Rattle.script_grammar.specs.Fields.{◌>>=◌, word_at, key_at}
use Rattle.xa_base.specs.{IsUpTo}
use Rattle.script_grammar.proofs.Lines.{goes_further, stops_there}

-- ---- reading without a fault

pub and_then : {A B : Type 0} (r : Result A Reason) (f : A → Result B Reason) (y : B) → (r >>= f) ≡ Ok y
    → (x : A) × ((r ≡ Ok x) × (f x ≡ Ok y))
and_then (Ok x) f y e = (x, (refl, e))
and_then (Err why) f y e = let never : ⊥ = cc in absurd never

pub ok_is : {A : Type 0} (x y : A) → ◌≡◌ {A = Result A Reason} (Ok x) (Ok y) → x ≡ y
ok_is x y e = cc

-- what holds of all that can be read after each first thing holds of what is read
after : {A B : Type 0} {P : B → Type 0} (r : Result A Reason) (f : A → Result B Reason)
    → ((x : A) → r ≡ Ok x → (y : B) → f x ≡ Ok y → P y) → (y : B)
    → (r >>= f) ≡ Ok y → P y
after (Ok x) f holds y e = holds x refl y e
after (Err why) f holds y e = let never : ⊥ = cc in absurd never

made : {A : Type 0} (P : A → Type 0) (x : A) → P x → (y : A) → ◌≡◌ {A = Result A Reason} (Ok x) (Ok y) → P y
made P x p y e = rw (ok_is x y e) at p

not_then : {A : Type 0} (b : Bool) (why : Reason) (r : Result A Reason) (y : A) → (if b then Err why else r) ≡ Ok y
    → (b ≡ false) × (r ≡ Ok y)
not_then b why r y e = search (arith, rules)

if_then : {A : Type 0} (b : Bool) (why : Reason) (r : Result A Reason) (y : A) → (if b then r else Err why) ≡ Ok y
    → (b ≡ true) × (r ≡ Ok y)
if_then b why r y e = search (arith, rules)

-- ---- the keys of a manager

other_way : (k l : List ℕ) → key_eq k l ≡ false → key_eq l k ≡ false
other_way k l e = search (arith, false_from_ne_true, Decides-key_eq)

are_apart-push : (ds : List (List ℕ × ℕ)) (y : List ℕ × ℕ) → are_apart ds ≡ true
    → list_any (λ e. key_eq e.0 y.0) ds ≡ false → are_apart (ds ++ y ∷ []) ≡ true
are_apart-push [] y apart new = refl
are_apart-push (d ∷ ds) y apart new =
    let split = or_parts (key_eq d.0 y.0) (list_any (λ e. key_eq e.0 y.0) ds) new in
    let none : list_any (λ e. key_eq e.0 d.0) (ds ++ y ∷ []) ≡ list_any (λ e. key_eq e.0 d.0) ds =
    search (arith, list_any-append, list_any, other_way, or-false, d.0, y.0) in
    both_true (ap not none ∙ (and_parts _ _ apart).0) (are_apart-push ds y (and_parts _ _ apart).1 split.1)

are_accounts-push : (ds : List (List ℕ × ℕ)) (y : List ℕ × ℕ) → are_accounts ds ≡ true → length ds < 256
    → y.1 ≤ 1000000000000
    → list_any (λ e. key_eq e.0 y.0) ds ≡ false → are_accounts (ds ++ y ∷ []) ≡ true
are_accounts-push ds y old few small new =
    search (arith, list_all, nat_le, and_parts, le-leb, length-append, list_all-append, are_apart-push)

-- a key that no declaration of the manager has isn't among its accounts
new_account : (m : ℕ) (k : List ℕ) (keys : List Declared) → has_key m k keys ≡ false
    → list_any (λ e. key_eq e.0 k) (declared_accounts m keys) ≡ false
new_account m k [] e = refl
new_account m k (d ∷ keys) e =
    let parts = or_parts ((d.manager == m) && key_eq d.key k) (has_key m k keys) e in
    grind (arith, parts, new_account m k keys parts.1)

just : {A : Type 0} (P : A → Type 0) (x : A) → P x → All P (x ∷ [])
just P x p = All-cons P x [] p (All-nil P)

accounts-push : (m : ℕ) (keys : List Declared) (d : Declared)
    → declared_accounts m (keys ++ d ∷ []) ≡ declared_accounts m keys ++ declared_accounts m (d ∷ [])
accounts-push m keys d = search (arith, filter-append, map-append)

key_kept : (s : Content) (d : Declared) → IsOfManager s d → has_key d.manager d.key s.keys ≡ false
    → key_count d.manager s.keys < 256 → d.value ≤ 1000000000000
    → IsScript s → IsScript (with_declared d s)
key_kept s d of new few small is =
    let of_managers : All (IsOfManager s) (s.keys ++ d ∷ []) =
    All-append (IsOfManager s) s.keys (d ∷ []) is.of_managers (just (IsOfManager s) d of) in
    let accounts : (m : ℕ) → are_accounts (declared_accounts m (s.keys ++ d ∷ [])) ≡ true =
    λ m. ap are_accounts (accounts-push m s.keys d)
    ∙ by_bool
    (λ b. are_accounts
    (declared_accounts m s.keys ++ map {B = List ℕ × ℕ} (λ (e : Declared). (e.key, e.value))
    (cond b (d ∷ []) [])) ≡ true)
    (d.manager == m)
    (λ t.
    let same : d.manager ≡ m = eqb-true d.manager m t in
    let size : length (declared_accounts m s.keys) ≡ key_count m s.keys = search (arith, length-map, length-filter) in
    let room : key_count m s.keys < 256 = rw same at few in
    are_accounts-push (declared_accounts m s.keys) (d.key, d.value) (is.accounts m) (omega arith) small
    (new_account m d.key s.keys (ap (λ n. has_key n d.key s.keys) (sym same) ∙ new)))
    (λ _. ap are_accounts (append-nil (declared_accounts m s.keys)) ∙ is.accounts m) in
    assumption

pub step_kept : (s : Content) (p : ScriptStep) → IsOfScript s p → IsScript s → IsScript (with_step p s)
step_kept s p of is = search (arith, All-append, just, is.of_steps)

-- one place is written, the others are as they were
after_set : {A : Type 0} (P : Option A → Type 0) (xs : List (Option A)) (i j : ℕ) (x : Option A) → P (get_or xs j None)
    → (i ≡ j → P x)
    → P (get_or (slice_set xs i x) j None)
after_set P [] i j x old new = old
after_set P (y ∷ xs) zero zero x old new = new refl
after_set P (y ∷ xs) zero (suc j) x old new = old
after_set P (y ∷ xs) (suc i) zero x old new = old
after_set P (y ∷ xs) (suc i) (suc j) x old new = after_set P xs i j x old (λ e. new (ap suc e))

-- what is told of thread u's log, where something is, is so, and there is such a thread
abbrev IsToldOf : {A : Type 0} → (A → Type 0) → ℕ → ℕ → Option A → Type 0
IsToldOf So threads u told = IfSome told (λ x. So x × IsUpTo threads u)

-- thread t's log is told of, those of the others as they were
log_set : {A : Type 0} (So : A → Type 0) (threads : ℕ) (xs : List (Option A)) (t u : ℕ) (x : A) → IsUpTo threads t
    → So x
    → IsToldOf So threads u (if nat_lt 0 u then get_or xs (u - 1) None else None)
    → IsToldOf So threads u (if nat_lt 0 u then get_or (slice_set xs (t - 1) (Some x)) (u - 1) None else None)
log_set {A} So threads xs t u x of so old =
    by_bool
    (λ b. IsToldOf So threads u (if b then get_or xs (u - 1) None else None)
    → IsToldOf So threads u (if b then get_or (slice_set xs (t - 1) (Some x)) (u - 1) None else None))
    (nat_lt 0 u)
    (λ lt was. after_set (IsToldOf So threads u) xs (t - 1) (u - 1) (Some x) was
    (λ e. (
      so,
      let first : 0 < u = grind (arith, lt) in let same : t ≡ u = omega (arith, of.0, e, first) in rw
          same at of,
    )))
    (λ _ was. was) old

failing_kept : (s : Content) (t k : ℕ) → IsUpTo (threads_of s) t → IsUpTo 1000000 k → IsScript s
    → IsScript (with_failing t k s)
failing_kept s t k of small is = search (arith, log_set, s.failing, is.of_logs)

unknown_kept : (s : Content) (t : ℕ) (x : UnknownAppend) → IsUpTo (threads_of s) t → IsUpTo 1000000 x.append
    → IsScript s → IsScript (with_unknown t x s)
unknown_kept s t x of small is =
    let of_unknown : (u : ℕ) → IsOfUnknown (with_unknown t x s) u = search (arith, log_set, is.of_unknown) in
    assumption

-- the first count of managers has the keys that were declared before it, of the one manager that there was
more_managers : (s : Content) (n : ℕ) → s.settings.managers ≡ None → 1 ≤ n → (d : Declared) → IsOfManager s d
    → IsOfManager (with_count Managers n s) d
more_managers s n unset low d of = search (arith, unwrap_or, of.1)

-- the first count of threads has the log of the one thread that there was
more_threads : {A : Type 0} (So : A → Type 0) (s : Content) (n : ℕ) → s.settings.threads ≡ None → 1 ≤ n
    → (u : ℕ) (told : Option A)
    → IsToldOf So (threads_of s) u told → IsToldOf So n u told
more_threads So s n unset low u None is = is
more_threads So s n unset low u (Some x) is = search (arith, unwrap_or, is.1.1)

count_kept : (s : Content) (c : Count) (n : ℕ) → s.steps ≡ [] → count_of c s.settings ≡ None → 1 ≤ n → n ≤ limit_of c
    → IsScript s → IsScript (with_count c n s)
count_kept s Threads n none unset low high is = search (arith, more_threads, All-nil)
count_kept s Managers n none unset low high is = search (arith, more_managers, slice_index_or, All-nil)
count_kept s c n none unset low high is = assumption

no_steps : (steps : List ScriptStep) (u : Unit {0}) → before_actions steps ≡ Ok u → steps ≡ []
no_steps steps u e = search (arith, rules)

unset_yet : (c : Option ℕ) (u : Unit {0}) → not_set c ≡ Ok u → c ≡ None
unset_yet c u e = search (arith, rules)

-- ---- the grammar

in_range : (low high : ℕ) (w : Word) (n : ℕ) → number_within low high w ≡ Ok n → (low ≤ n) × (n ≤ high)
in_range low high w = search (arith, after, if_then, nat_le, and_parts, made, leb-true)

number_is : (low high : ℕ) (ws : List Word) (x : ℕ × List Word) → number_at low high ws ≡ Ok x
    → (low ≤ x.0) × (x.0 ≤ high)
unfolding number_at
number_is low high ws =
    after (word_at ws) _ λ w _. after (number_within low high w.0) _ λ n is. made _ (n, w.1)
    (in_range low high w.0 n is)

pub setting_kept : (s : Content) (c : Count) (ws : List Word) (n : ℕ) → setting_of s c ws ≡ Ok n → IsScript s
    → IsScript (with_count c n s)
unfolding setting_of
setting_kept s c ws n e = search (arith, and_then, ok_is, number_is, count_kept, no_steps, unset_yet)

pub logfail_kept : (s : Content) (ws : List Word) (x : ℕ × ℕ) → logfail_of s ws ≡ Ok x → IsScript s
    → IsScript (with_failing x.0 x.1 s)
unfolding logfail_of
logfail_kept s ws =
    after (before_actions s.steps) _ λ _ _. after (number_at 1 (threads_of s) ws) _ λ t own. after
    (number_at 1 1000000 t.1) _ λ k few.
    after (end_of k.1) _ λ _ _. made _ (t.0, k.0)
    (failing_kept s t.0 k.0 (number_is 1 (threads_of s) ws t own) (number_is 1 1000000 t.1 k few))

pub logunknown_kept : (s : Content) (ws : List Word) (x : ℕ × UnknownAppend) → logunknown_of s ws ≡ Ok x → IsScript s
    → IsScript (with_unknown x.0 x.1 s)
unfolding logunknown_of
logunknown_kept s ws =
    after (before_actions s.steps) _ λ _ _. after (number_at 1 (threads_of s) ws) _ λ t own. after
    (number_at 1 1000000 t.1) _ λ k few.
    after (word_at k.1) _ λ w _. after (ok_or (is_kept w.0) UnknownWord) _ λ kept _. after (end_of w.1) _ λ _ _. made _
    (t.0, record { append = k.0; kept = kept })
    (unknown_kept s t.0 (record { append = k.0; kept = kept }) (number_is 1 (threads_of s) ws t own)
    (number_is 1 1000000 t.1 k few))

pub declared_kept : (s : Content) (ws : List Word) (d : Declared) → declared_of s ws ≡ Ok d → IsScript s
    → IsScript (with_declared d s)
unfolding declared_of
declared_kept s ws =
    after (before_actions s.steps) _ λ _ _. after (number_at 1 (managers_of s) ws) _ λ m own. after (key_at m.1) _ λ k
    _.
    after (number_at 0 1000000000000 k.1) _ λ v few. after (end_of v.1) _ λ _ _ d e.
    let new = not_then (has_key m.0 k.0 s.keys) KeyTwice _ d e in
    let room = not_then (nat_le 256 (key_count m.0 s.keys)) TooManyKeys _ d new.1 in
    let x : Declared = record { manager = m.0; key = k.0; value = v.0 } in
    made (λ z. IsScript s → IsScript (with_declared z s)) x
    (key_kept s x (number_is 1 (managers_of s) ws m own) new.0 (grind (arith, room.0))
    (number_is 0 1000000000000 k.1 v few).1) d room.1

pub turn_is : (mode : Bool) (s : Content) (line : ℕ) (ws : List Word) (m : ℕ) → turn_of mode s ws ≡ Ok m
    → IsOfScript s (step.Turn line m)
unfolding turn_of
turn_is true s line ws = λ m e. let never : ⊥ = cc in absurd never
turn_is false s line ws =
    after (number_at 1 (managers_of s) ws) _ λ n own. after (end_of n.1) _ λ _ _. made _ n.0
    (number_is 1 (managers_of s) ws n own)

-- what holds of all that a reading can make holds of what it makes
pub item_made : {A : Type 0} (P : Item → Type 0) (r : Result A Reason) (f : A → Item) (i : Item)
    → (r >>= λ x. Ok (f x)) ≡ Ok i
    → ((x : A) → r ≡ Ok x → P (f x)) → P i
item_made P r f i e holds = after {P = P} r _ (λ x t. made P (f x) (holds x t)) i e

-- a line without a fault in its bytes is what its words say
pub line_words : (mode : Bool) (s : Content) (n : ℕ) (line : List ℕ) (i : Item) → line_of mode s n line ≡ Ok i
    → item_of mode s n (words_of line) ≡ Ok i
unfolding line_of
line_words mode s n line i e = search (arith, not_then, nat_lt, list_all)

-- ---- no line that is read for threads opens the managers again

-- what a line adds
abbrev Keeps : Content → Item → Type 0
Keeps s i = NoneReopens (with_line i s).steps

one_more : (s : Content) (p : ScriptStep) → is_reopen p ≡ false → NoneReopens s.steps
    → NoneReopens (with_step p s).steps
one_more s p other all = list_any-append is_reopen s.steps (p ∷ []) ∙ (λ i. all i || (other i || false))

no_reopen : (ws : List Word) (u : Unit {0}) → reopen_of true ws ≡ Ok u → ⊥
unfolding reopen_of
no_reopen ws u e = cc

item_one : (h : Option Head) (s : Content) (n : ℕ) (w : Word) (ws : List Word) (i : Item)
    → item_by h true s n w ws ≡ Ok i → NoneReopens s.steps → Keeps s i
unfolding item_by
item_one None s n w ws i e all = let never : ⊥ = cc in absurd never
item_one (Some head.Comment) s n w ws i e all =
    item_made {A = Unit {0}} (Keeps s) (Ok tt) (λ u. item.Nothing) i e (λ u t. all)
item_one (Some head.Reopen) s n w ws i e all =
    item_made (Keeps s) (reopen_of true ws) (λ u. item.Step (step.Reopen n)) i e (λ u t. absurd (no_reopen ws u t))
item_one (Some h) s n w ws i e all = search (arith, item_made, one_more)

words_one : (s : Content) (n : ℕ) (ws : List Word) (i : Item) → item_of true s n ws ≡ Ok i → NoneReopens s.steps
    → Keeps s i
words_one s n [] i e all = item_made {A = Unit {0}} (Keeps s) (Ok tt) (λ u. item.Nothing) i e (λ u t. all)
words_one s n (w ∷ ws) i e all = item_one (head_of w) s n w ws i e all

after_true : (s t : Content) (n : ℕ) (line : List ℕ) → after_line true s n line ≡ Ok t → NoneReopens s.steps
    → NoneReopens t.steps
unfolding after_line
after_true s t n line e all = search (arith, and_then, ok_is, words_one, line_words)

-- so the lines of a script that is read for threads are of one opening
pub after_one : (mode : Bool) (s t : Content) (n : ℕ) (line : List ℕ) → after_line mode s n line ≡ Ok t → mode ≡ true
    → NoneReopens s.steps → NoneReopens t.steps
after_one mode s t n line e threads all = after_true s t n line (ap (λ m. after_line m s n line) (sym threads) ∙ e) all

-- what a line that is read comes to
pub ruleset line_rules = (err_from_is_err_and, after_one, goes_further, stops_there)
