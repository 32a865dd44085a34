-- What all accounts of a settled opening are worth together, thread by thread.
use Rattle.xa_base.proofs.{one_counted, contains_map, found, ◌≡◌, ℕ, ◌-◌, ◌≤◌, true, ◌==◌, List, [], ◌∷◌, length, map}
use Rattle.xa_base.proofs.{refl, sym, ap, arith, Some, Contains, eqb-true, suc, ◌+◌, false, cond, ◌∙◌, All}
use Rattle.xa_base.proofs.{All-contains, None, get_or, ◌<◌, range_with_len, contains_at, got, rules, ℤ, pos, ◌+ℤ◌}
use Rattle.xa_base.proofs.{unwrap_or, Bool, filter, All-nil, All-cons, if◌then◌else◌, eqb-false, length-range_with_len}
use Rattle.xa_base.proofs.{get_or-range_with_len, total_same, total_alike, total_both, total_nothing, total_across}
use Rattle.xa_base.proofs.{range_all, got_map, IsPermutation-sym, Contains-permutation}
use Rattle.xa_switch.specs.{IsSettled, ThreadPart, IsOpenedWith, first_of, history, Settling, ManagerPlan, Plan}
use Rattle.xa_switch.specs.{IsSoundManager, IsOfPlan, find_thread, value, threads_of_plan, managers_of_plan}
use Rattle.xa_switch.specs.{accounts_in, accounts_of, plan_worth, moved_at, WorthIsOfThreads}
use Rattle.xa_base.specs.{total}
use Rattle.xa_words.specs.{Request, are_accounts}
use Rattle.xa_tables.specs.{of_thread, Tables, next, opening, History, value_of, tables_after, worth_declared, moved}
use Rattle.xa_tables.specs.{moved_by as moved_by_request, is_any, is_of, WorthIsMoved}
use Rattle.xa_switch.proofs.SettledOpenings.{follows_first}
use Rattle.std.specs.FinMap as finmap

-- ---- a history, thread by thread

-- the request is of one of the threads
abbrev IsPlaced : List ℕ → Request → Type 0
IsPlaced ts r = (v : ℤ) → total (λ t. if is_of t r then v else pos 0) ts ≡ v

split_moved : (accounts : List (List ℕ × ℕ)) (ts : List ℕ) (h : History) (T : Tables) → All (IsPlaced ts) h
    → moved accounts is_any h T ≡ total (λ t. moved accounts (is_of t) h T) ts
split_moved accounts ts [] T placed = sym (total_nothing ts)
split_moved accounts ts (r ∷ h) T placed =
    let v : ℤ = moved_by_request accounts r.op (next r.thread r.op T).1 T in
    let T1 : Tables = (next r.thread r.op T).0 in
    let first : v ≡ total (λ t. if is_of t r then v else pos 0) ts = sym (placed 0 r (omega arith) v) in
    (λ i. first i +ℤ split_moved accounts ts h T1 (λ k d lt. placed (suc k) d (omega arith)) i)
    ∙ sym (total_both (λ t. if is_of t r then v else pos 0) (λ t. moved accounts (is_of t) h T1) ts)

-- where a filter lets nothing through, each fails
all_fail : {A : Type 0} (p : A → Bool) (xs : List A) → filter p xs ≡ [] → All (λ x. p x ≡ false) xs
all_fail p [] e = All-nil (λ x. p x ≡ false)
all_fail {A} p (x ∷ xs) e =
    elim (p x) as (λ b. p x ≡ b → cond b (x ∷ filter p xs) (filter p xs) ≡ [] → All (λ (y : A). p y ≡ false) (x ∷ xs)) [
      | true ↦ λ own f. cc
      | false ↦ λ other f. All-cons (λ (y : A). p y ≡ false) x xs other (all_fail p xs f)
    ] refl e

module _ (p : Plan) (s : Settling) (settled : IsSettled s) (of_plan : IsOfPlan p s) where
  known_thread : (t m : ℕ) → 1 ≤ m → (k : ℕ) (d : Request) → k < length (history s m)
      → (get_or (history s m) k d).thread ≡ t → (1 ≤ t) × (t < 1 + p.threads)
  known_thread t m positive k d lt is =
      elim (find_thread t s.threads) as (λ o. find_thread t s.threads ≡ o → (1 ≤ t) × (t < 1 + p.threads)) [
        | None ↦ λ none.
            let nothing : of_thread t (history s m) ≡ [] = search (arith, rules) in
            let apart : ((get_or (history s m) k d).thread == t) ≡ false =
            all_fail (λ (r : Request). r.thread == t) (history s m) nothing k d lt in
            absurd (eqb-false _ t apart is)
        | Some part ↦ λ at.
            let there = found (λ (q : ThreadPart). q.thread == t) s.threads part at in
            let number : part.thread ≡ t = eqb-true part.thread t there.1 in
            let among : Contains (range_with_len 1 p.threads) part.thread =
            Contains-permutation (map (λ (q : ThreadPart). q.thread) s.threads) (range_with_len 1 p.threads) part.thread
            (IsPermutation-sym _ _ of_plan.threads)
            (contains_map (λ (q : ThreadPart). q.thread) s.threads part there.0) in
            let below : among.0 < p.threads = let e = length-range_with_len 1 p.threads in
            let l = among.1 in omega (arith, e, l) in
            let value_is : 1 + among.0 ≡ t =
            sym (get_or-range_with_len 1 p.threads among.0 part.thread below) ∙ among.2 ∙ number in
            (omega (arith, value_is), omega (arith, value_is, below))
      ] refl

  placed : (m : ℕ) → 1 ≤ m → All (IsPlaced (threads_of_plan p)) (history s m)
  placed m positive k d lt v =
      let r : Request = get_or (history s m) k d in
      let within = known_thread r.thread m positive k d lt refl in
      one_counted r.thread v 1 p.threads within.0 within.1

  -- the tables of a manager of the plan
  first_is : (m : ℕ) → 1 ≤ m → m ≤ length p.managers.items → first_of s m ≡ Some (opening (accounts_of p m))
  first_is m positive below =
      let (plan, planned) = got p.managers.items (m - 1) (omega (arith, positive, below)) in
      let number : m - 1 + 1 ≡ m = omega (arith, positive) in
      let begins = got_map (λ (q : ManagerPlan). opening q.accounts.items) p.managers.items (m - 1) plan planned in
      ap (first_of s) (sym number) ∙ of_plan.opened (m - 1) (opening plan.accounts.items) begins
      ∙ ap (λ o. Some (opening (accounts_in o))) (sym planned)

  pub opened_with : (m : ℕ) → 1 ≤ m → m ≤ length p.managers.items → IsOpenedWith s m (opening (accounts_of p m))
  opened_with m positive below = follows_first s m (opening (accounts_of p m)) settled (first_is m positive below)

  module _
      (moves : (accounts : List (List ℕ × ℕ)) (h : History) → are_accounts accounts ≡ true → WorthIsMoved accounts h)
      (sound : All IsSoundManager p.managers.items) where
    sound_at : (m : ℕ) → 1 ≤ m → m ≤ length p.managers.items → are_accounts (accounts_of p m) ≡ true
    sound_at m positive below = search (arith, All-contains, contains_at)

    at_manager : (m : ℕ) → 1 ≤ m → m < 1 + length p.managers.items
        → total (λ d. unwrap_or (value s m d.0) (pos 0)) (accounts_of p m) ≡ worth_declared (accounts_of p m) +ℤ total
        (λ t. moved_at p s t m) (threads_of_plan p)
    at_manager m positive below =
        let accounts : List (List ℕ × ℕ) = accounts_of p m in
        let T : Tables = opening accounts in
        let H : History = history s m in
        let open_ = opened_with m positive (omega (arith, below)) in
        let is : (k : List ℕ) → value s m k ≡ finmap.get (tables_after H T).values k = open_.values in
        total_same (λ d. unwrap_or (value s m d.0) (pos 0)) (λ d. value_of (tables_after H T).values d.0) accounts
        (λ d. ap (λ o. unwrap_or o (pos 0)) (is d.0))
        ∙ moves accounts H (sound_at m positive (omega (arith, below)))
        ∙ ap (λ v. worth_declared accounts +ℤ v) (split_moved accounts (threads_of_plan p) H T (placed m positive))

    pub worth_law : WorthIsOfThreads p s
    worth_law =
        total_alike (λ m. total (λ d. unwrap_or (value s m d.0) (pos 0)) (accounts_of p m))
        (λ m. worth_declared (accounts_of p m) +ℤ total (λ t. moved_at p s t m) (threads_of_plan p))
        (managers_of_plan p)
        (range_all
        (λ m. total (λ d. unwrap_or (value s m d.0) (pos 0)) (accounts_of p m) ≡ worth_declared (accounts_of p m) +ℤ
        total (λ t. moved_at p s t m) (threads_of_plan p)) 1 (length p.managers.items) at_manager)
        ∙ total_both (λ m. worth_declared (accounts_of p m)) (λ m. total (λ t. moved_at p s t m) (threads_of_plan p))
        (managers_of_plan p)
        ∙ ap (λ v. plan_worth p +ℤ v) (total_across (λ m t. moved_at p s t m) (managers_of_plan p) (threads_of_plan p))
