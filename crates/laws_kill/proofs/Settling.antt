-- A crash is a settled opening: its threads and managers, one by one.
use Rattle.xa_base.proofs.{◌≡◌, ◌≢◌, ℕ, zero, suc, ◌+◌, ◌-◌, ◌<◌, ◌≤◌, ◌↔◌, true, false, cond, ◌==◌, nat_eq, List, []}
use Rattle.xa_base.proofs.{◌∷◌, ◌++◌, Some, None, map, length, slice_get, option_map, sym, refl, ap, ◌∙◌, subst, arith}
use Rattle.xa_base.proofs.{if◌then◌else◌, All, All-cons, All-contains, All-head, All-nil, all_map, cases_eq, inl, inr}
use Rattle.xa_base.proofs.{ne_eqb, eq-eqb, eqb-true, found, got, mapped_some, got_map, length-map}
use Rattle.xa_base.proofs.{length-range_with_len, list_any, map-append, map-map, none_twice, not_both, range_more}
use Rattle.xa_base.proofs.{range_with_len, slice_get_past, slice_get_within, was_mapped, IsPermutation-refl, IsDistinct}
use Rattle.xa_base.proofs.{or-false, get_or_from_slice_get}
use Rattle.std.proofs.lemmas.Map.Keys.{IsDistinct-cons}
use Rattle.xa_base.specs.{Begins, IsUpTo, MOST_MANAGERS}
use Rattle.xa_words.specs.{Code, Op, Shut}
use Rattle.xa_tables.specs.{Tables, of_thread, reopened}
use Rattle.xa_desk.specs.{HaveGrown, LedgerView, collected_from, is_known, ledger, no_ledger, numbered, sent_to}
use Rattle.xa_desk.proofs.Ledgers.{known_true, nobody_sent}
use Rattle.xa_worker.specs.{Entry, requests}
use Rattle.xa_switch.specs.{Agree, FollowsTables, HasNumber, IsOf, IsSettled, ManagerPart, Setup, ThreadPart, answers}
use Rattle.xa_switch.specs.{collected, find_manager, find_thread, journal, journal_in, last_in, ledgers_in, IsWhole}
use Rattle.xa_switch.specs.{first_ledgers, ledgers_of, managers_in, reopened_at, sent}
use Rattle.laws_kill.specs.{Crash, CrashedManager, IsAsSettled, IsCrash, IsCrashedManager, all_collected, as_settled}
use Rattle.laws_kill.specs.{collected_all, find_crashed, journal_at, journal_of, journal_shut, kept_at, kept_in_store}
use Rattle.laws_kill.specs.{ledgers_then, shut_entry, shut_ledger, shut_off, shutting_part, shutting_thread}
use Rattle.laws_kill.specs.{thread_collected, with_a_thread}
use Rattle.laws_kill.proofs.Nothing.{nothing_before, unknown_collected, unknown_past, unknown_sent}
use Rattle.laws_kill.proofs.Numbered.{AreNumberedFrom, by_option, find_changed, find_first, find_from, find_second}
use Rattle.laws_kill.proofs.Numbered.{find_below, from_range}
use Rattle.laws_kill.proofs.Answered.{all_coded, all_each, all_once, answers_numbered}
use Rattle.laws_kill.proofs.Journals.{carries_all, carries_shut, shut_answered, shut_follows, shut_leaves, told_still}
use Rattle.laws_kill.proofs.Ledgers.{as_many, collected_none, collected_now, ledgers_grown, nothing_grown, sent_still}

-- where nothing was sent, nothing was collected and the journal has nothing, they agree
none_agree : (t : ℕ) (J : List Entry) → of_thread t (requests J) ≡ [] → Agree t [] [] J
none_agree t J none = record {
  carried = none;
  each = λ n. (λ below. absurd (omega (arith, below)), λ has. absurd (let z : false ≡ true = has in cc));
  once = none_twice nat_eq;
  coded = All-nil (λ p. slice_get (answers t J) p.0 ≡ Some p);
}

-- one request that was collected
one_agrees : (t : ℕ) (op : Op) (code : Code) (J : List Entry) → of_thread t (requests J) ≡ numbered t 0 (op ∷ [])
    → slice_get (answers t J) 0 ≡ Some (0, code) → Agree t (op ∷ []) ((0, code) ∷ []) J
one_agrees t op code J carried at = record {
  carried = carried;
  each = λ n. (
    λ below. let zeroth : n ≡ 0 = omega (arith, below) in ap (λ k. list_any (nat_eq k) (0 ∷ [])) zeroth,
    λ has.
        let zeroth : n ≡ 0 = eqb-true n 0 (sym (or-false (nat_eq n 0)) ∙ has) in omega (arith, zeroth),
  );
  once = IsDistinct-cons nat_eq 0 [] tt (none_twice nat_eq);
  coded =
      All-cons (λ p. slice_get (answers t J) p.0 ≡ Some p) (0, code) [] at
      (All-nil (λ p. slice_get (answers t J) p.0 ≡ Some p));
}

-- where the journal has what was sent, and what was collected before stands in it, all agrees once all is collected
collected_agree : (t : ℕ) (ops : List Op) (a : LedgerView) (J : List Entry)
    → of_thread t (requests J) ≡ numbered t 0 ops → IsDistinct nat_eq (map (λ p. p.0) a.collected)
    → All (λ p. slice_get (answers t J) p.0 ≡ Some p) a.collected → Agree t ops (collected_all t J a).collected J
collected_agree t ops a J carried once told =
    let numbers = answers_numbered t ops J carried in record {
      carried = carried;
      each = λ n. subst (λ k. n < k ↔ HasNumber n (collected_all t J a).collected) numbers.1
          (all_each (answers t J) numbers.0 a.collected once told n);
      once = all_once (answers t J) numbers.0 a.collected once told;
      coded = all_coded (answers t J) numbers.0 a.collected once told;
    }

-- the first thread, or the one that shuts them, has a ledger with each manager
first_many : (journals : ℕ → List Entry) (n : ℕ) (qs : List ThreadPart) (last : ThreadPart)
    → All (λ (q : ThreadPart). length q.ledgers ≡ n) qs → length last.ledgers ≡ n
    → length (first_ledgers (map (thread_collected journals) qs ++ last ∷ [])) ≡ n
first_many journals n [] last all many = many
first_many journals n (q ∷ qs) last all many =
    as_many journals q.thread 1 q.ledgers ∙ All-head (λ (r : ThreadPart). length r.ledgers ≡ n) q qs all

module _ (p : Setup) (c : Crash) (is : IsCrash p c) where
  abbrev v : ℕ
  v = shutting_thread c

  abbrev js : ℕ → List Entry
  js = journal_at c

  threads_from : AreNumberedFrom (λ (q : ThreadPart). q.thread) 1 c.threads
  threads_from = from_range (λ (q : ThreadPart). q.thread) 1 p.numbers.threads c.threads is.threads

  pub managers_from : AreNumberedFrom (λ (q : CrashedManager). q.number) 1 c.managers
  managers_from = from_range (λ (q : CrashedManager). q.number) 1 p.managers c.managers is.managers

  pub many_managers : length c.managers ≡ p.managers
  many_managers =
      sym (length-map c.managers (λ (q : CrashedManager). q.number)) ∙ ap (λ (l : List ℕ). length l) is.managers
      ∙ length-range_with_len 1 p.managers

  many_threads : length c.threads ≡ p.numbers.threads
  many_threads =
      sym (length-map c.threads (λ (q : ThreadPart). q.thread)) ∙ ap (λ (l : List ℕ). length l) is.threads
      ∙ length-range_with_len 1 p.numbers.threads

  -- ---- which threads and managers are there

  nobody_is : find_thread v c.threads ≡ None
  nobody_is =
      find_from (λ (q : ThreadPart). q.thread) v 1 (length c.threads) c.threads threads_from (omega arith)
      ∙ slice_get_past c.threads (length c.threads) (omega arith)

  nobody : ledgers_then c v ≡ []
  nobody = ap ledgers_in nobody_is

  -- the store has nothing of that thread
  none_kept : (m : ℕ) → of_thread v (requests (kept_at c m)) ≡ []
  none_kept m =
      let begun = (is.agree v m).begun in
      nothing_before (of_thread v (requests (kept_at c m))) begun.0
      (sym (ap (λ at. numbered v 0 (sent_to at m)) nobody ∙ ap (numbered v 0) (nobody_sent m)) ∙ begun.1)

  -- a manager that is there, by its number
  number_of : (m : ℕ) (q : CrashedManager) → find_crashed m c.managers ≡ Some q → q.number ≡ m
  number_of m q e = eqb-true q.number m (found (λ (r : CrashedManager). r.number == m) c.managers q e).1

  left_of : (m : ℕ) (q : CrashedManager) → find_crashed m c.managers ≡ Some q → IsCrashedManager q
  left_of m q e =
      All-contains IsCrashedManager c.managers q is.left
      (found (λ (r : CrashedManager). r.number == m) c.managers q e).0

  pub at_place : (m : ℕ) → 1 ≤ m → find_crashed m c.managers ≡ slice_get c.managers (m - 1)
  at_place m low =
      find_from (λ (q : CrashedManager). q.number) m 1 (m - 1) c.managers managers_from (omega (arith, low))

  -- each number up to how many there are is that of one that is there
  is_there : (m : ℕ) → find_crashed m c.managers ≡ None → 1 ≤ m → m ≤ p.managers → ⊥
  is_there m none low high =
      let (q, at) = got c.managers (m - 1) (omega (arith, low, high, many_managers)) in
      not_both (find_crashed m c.managers) q none (at_place m low ∙ at)

  -- and no other
  pub is_within : (m : ℕ) (q : CrashedManager) → find_crashed m c.managers ≡ Some q → 1 ≤ m
  is_within zero q e =
      absurd (not_both (find_crashed 0 c.managers) q
      (find_below (λ (r : CrashedManager). r.number) 0 1 c.managers managers_from (omega arith)) e)
  is_within (suc m) q e = omega arith

  -- no thread knows a manager that isn't there
  unknown_none : (t m : ℕ) → find_crashed m c.managers ≡ None → is_known (ledgers_then c t) m ≡ false
  unknown_none t m none =
      by_option (λ o. is_known (ledgers_in o) m ≡ false) (find_thread t c.threads)
      (λ _. unknown_past [] m (λ low high. absurd (omega (arith, low, high))))
      (λ q e.
      unknown_past q.ledgers m
      (λ low high.
      let many =
      All-contains (λ (r : ThreadPart). length r.ledgers ≡ p.managers) c.threads q is.ledgers
      (found (λ (r : ThreadPart). r.thread == t) c.threads q e).0 in
      is_there m none low (omega (arith, high, many))))

  -- ---- the journals of the settled opening, and the ledgers

  journal_is : (m : ℕ) → journal (as_settled c) m ≡ js m
  journal_is m =
      ap journal_in (find_changed (shut_off v c.threads) (λ (q : CrashedManager). q.number)
      (λ (q : ManagerPart). q.number) (λ _. refl) m c.managers)
      ∙ by_option (λ o. journal_in (option_map (shut_off v c.threads) o) ≡ journal_of v c.threads o)
      (find_crashed m c.managers) (λ _. refl) (λ q _. refl)

  find_changed_thread : (t : ℕ) → find_thread t (map (thread_collected js) c.threads)
      ≡ option_map (thread_collected js) (find_thread t c.threads)
  find_changed_thread t =
      find_changed (thread_collected js) (λ (q : ThreadPart). q.thread) (λ (q : ThreadPart). q.thread) (λ _. refl) t
      c.threads

  pub lists : (t : ℕ) → t ≢ v → ledgers_of (as_settled c) t ≡ all_collected js t 1 (ledgers_then c t)
  lists t other =
      by_option
      (λ o. find_thread t c.threads ≡ o → ledgers_of (as_settled c) t ≡ all_collected js t 1 (ledgers_in o))
      (find_thread t c.threads)
      (λ e _.
      ap ledgers_in
      (find_second (λ (q : ThreadPart). q.thread == t) (map (thread_collected js) c.threads)
      (shutting_part v c.managers ∷ [])
      (find_changed_thread t ∙ ap (option_map (thread_collected js)) e)
      ∙ ap (λ b. cond b (Some (shutting_part v c.managers)) None) (ne_eqb v t (λ same. other (sym same)))))
      (λ q e _.
      let own = eqb-true q.thread t (found (λ (r : ThreadPart). r.thread == t) c.threads q e).1 in
      ap ledgers_in
      (find_first (λ (r : ThreadPart). r.thread == t) (map (thread_collected js) c.threads)
      (shutting_part v c.managers ∷ []) (thread_collected js q)
      (find_changed_thread t ∙ ap (option_map (thread_collected js)) e))
      ∙ ap (λ u. all_collected js u 1 q.ledgers) own)
      refl

  pub own_lists : ledgers_of (as_settled c) v ≡ map (shut_ledger v) c.managers
  own_lists =
      ap ledgers_in
      (find_second (λ (q : ThreadPart). q.thread == v) (map (thread_collected js) c.threads)
      (shutting_part v c.managers ∷ [])
      (find_changed_thread v ∙ ap (option_map (thread_collected js)) nobody_is)
      ∙ ap (λ b. cond b (Some (shutting_part v c.managers)) None) (eq-eqb v v refl))

  -- ---- they agree

  carried : (t : ℕ) → t ≢ v → (m : ℕ) → of_thread t (requests (js m)) ≡ numbered t 0 (sent_to (ledgers_then c t) m)
  carried t other m =
      by_option
      (λ o. find_crashed m c.managers ≡ o
      → Begins (of_thread t (requests (kept_in_store o))) (numbered t 0 (sent_to (ledgers_then c t) m))
      → of_thread t (requests (journal_of v c.threads o)) ≡ numbered t 0 (sent_to (ledgers_then c t) m))
      (find_crashed m c.managers)
      (λ e _ _. sym (ap (numbered t 0) (unknown_sent (ledgers_then c t) m (unknown_none t m e))))
      (λ q e _ begun.
      let own = number_of m q e in
      carries_all q v c.threads threads_from t other
      (subst (λ k. Begins (of_thread t (requests q.kept)) (numbered t 0 (sent_to (ledgers_then c t) k))) (sym own)
      begun)
      ∙ ap (λ k. numbered t 0 (sent_to (ledgers_then c t) k)) own)
      refl (is.agree t m).begun

  told : (t m : ℕ) → All (λ q. slice_get (answers t (js m)) q.0 ≡ Some q) (collected_from (ledgers_then c t) m)
  told t m =
      by_option
      (λ o. All (λ q. slice_get (answers t (kept_in_store o)) q.0 ≡ Some q) (collected_from (ledgers_then c t) m)
      → All (λ q. slice_get (answers t (journal_of v c.threads o)) q.0 ≡ Some q)
      (collected_from (ledgers_then c t) m))
      (find_crashed m c.managers) (λ _ all. all)
      (λ q _ all. told_still q v t c.threads (collected_from (ledgers_then c t) m) all) (is.agree t m).told

  -- each thread with each manager
  each_agrees : (t : ℕ) → t ≢ v → (m : ℕ)
      → Agree t (sent_to (ledgers_then c t) m) (collected_from (all_collected js t 1 (ledgers_then c t)) m) (js m)
  each_agrees t other m =
      let at : List LedgerView = ledgers_then c t in
      elim (is_known at m) as
      (λ b. is_known at m ≡ b → Agree t (sent_to at m) (collected_from (all_collected js t 1 at) m) (js m)) [
        | true ↦ λ known.
            let same : collected_from at m ≡ (ledger at m).collected =
            ap (λ b. if b then (ledger at m).collected else []) known in
            subst (λ (l : List (ℕ × Code)). Agree t (sent_to at m) l (js m))
            (sym (collected_now js t at m known))
            (collected_agree t (sent_to at m) (ledger at m) (js m) (carried t other m)
            (subst (λ (l : List (ℕ × Code)). IsDistinct nat_eq (map (λ q. q.0) l)) same (is.agree t m).once)
            (subst (λ (l : List (ℕ × Code)). All (λ q. slice_get (answers t (js m)) q.0 ≡ Some q) l) same
            (told t m)))
        | false ↦ λ unknown.
            let none = unknown_sent at m unknown in
            subst (λ (x : List Op × List (ℕ × Code)). Agree t x.0 x.1 (js m))
            (λ i. (sym none i, sym (collected_none js t at m unknown) i))
            (none_agree t (js m) (carried t other m ∙ ap (numbered t 0) none))
      ] refl

  -- and the thread that shuts them
  shutting_agrees : (m : ℕ)
      → Agree v (sent_to (map (shut_ledger v) c.managers) m) (collected_from (map (shut_ledger v) c.managers) m) (js m)
  shutting_agrees m =
      let at : List LedgerView = map (shut_ledger v) c.managers in
      by_option
      (λ o. find_crashed m c.managers ≡ o → of_thread v (requests (kept_in_store o)) ≡ []
      → Agree v (sent_to at m) (collected_from at m) (journal_of v c.threads o))
      (find_crashed m c.managers)
      (λ e _ _.
      let unknown : is_known at m ≡ false =
      unknown_past at m
      (λ low high. is_there m e low (omega (arith, high, length-map c.managers (shut_ledger v), many_managers))) in
      subst (λ (x : List Op × List (ℕ × Code)). Agree v x.0 x.1 [])
      (λ i. (sym (unknown_sent at m unknown) i, sym (unknown_collected at m unknown) i)) (none_agree v [] refl))
      (λ q e _ none.
      let low = is_within m q e in
      let place = sym (at_place m low) ∙ e in
      let there = got_map (shut_ledger v) c.managers (m - 1) q place in
      let own : ledger at m ≡ shut_ledger v q = get_or_from_slice_get at (m - 1) (shut_ledger v q) no_ledger there in
      let known : is_known at m ≡ true =
      known_true at m
      (record {
        positive = low;
        within = let below = slice_get_within at (m - 1) (shut_ledger v q) there in omega (arith, below, low);
      }) in
      subst (λ (x : List Op × List (ℕ × Code)). Agree v x.0 x.1 (journal_shut v c.threads q))
      (λ i. (
        sym (ap (λ b. if b then (ledger at m).sent else []) known ∙ ap (λ (a : LedgerView). a.sent) own) i,
        sym (ap (λ b. if b then (ledger at m).collected else []) known ∙ ap (λ (a : LedgerView). a.collected) own) i,
      ))
      (one_agrees v Shut (shut_entry v q).1 (journal_shut v c.threads q)
      (carries_shut q v c.threads threads_from nobody none)
      (shut_answered q v c.threads threads_from none)))
      refl (none_kept m)

  all_agree : (t m : ℕ) → Agree t (sent (as_settled c) t m) (collected (as_settled c) t m) (journal (as_settled c) m)
  all_agree t m = elim (cases_eq t v) [
    | inl same ↦
        subst (λ u. Agree u (sent (as_settled c) u m) (collected (as_settled c) u m) (journal (as_settled c) m))
        (sym same)
        (subst (λ (x : List LedgerView × List Entry). Agree v (sent_to x.0 m) (collected_from x.0 m) x.1)
        (λ i. (sym own_lists i, sym (journal_is m) i)) (shutting_agrees m))
    | inr other ↦
        subst
        (λ (x : List Op × (List (ℕ × Code) × List Entry)). Agree t x.0 x.1.0 x.1.1)
        (λ i. (
          sym (ap (λ at. sent_to at m) (lists t other) ∙ sent_still js t (ledgers_then c t) m) i,
          (ap (λ at. collected_from at m) (sym (lists t other)) i, sym (journal_is m) i),
        ))
        (each_agrees t other m)
  ]

  -- ---- the whole

  settled_all : IsSettled (as_settled c)
  settled_all = record {
    agree = all_agree;
    tables =
        all_map (shut_off v c.threads) FollowsTables c.managers
        (λ q among. shut_follows q v c.threads (All-contains IsCrashedManager c.managers q is.left among));
  }

  numbers_of_threads : map (λ (q : ThreadPart). q.thread) (as_settled c).threads
      ≡ range_with_len 1 (p.numbers.threads + 1)
  numbers_of_threads =
      map-append (λ (q : ThreadPart). q.thread) (map (thread_collected js) c.threads)
      (shutting_part v c.managers ∷ [])
      ∙ ap (λ (l : List ℕ). l ++ v ∷ [])
      (map-map (λ (q : ThreadPart). q.thread) (thread_collected js) c.threads ∙ is.threads)
      ∙ ap (λ k. range_with_len 1 p.numbers.threads ++ k ∷ [])
      (let many = many_threads in let one : v ≡ p.numbers.threads + 1 = omega (arith, many) in one)
      ∙ sym (range_more p.numbers.threads)

  numbers_of_managers : map (λ (q : ManagerPart). q.number) (as_settled c).managers ≡ range_with_len 1 p.managers
  numbers_of_managers = map-map (λ (q : ManagerPart). q.number) (shut_off v c.threads) c.managers ∙ is.managers

  pub find_shut : (m : ℕ) → find_manager m (as_settled c).managers
      ≡ option_map (shut_off v c.threads) (find_crashed m c.managers)
  find_shut m =
      find_changed (shut_off v c.threads) (λ (q : CrashedManager). q.number) (λ (q : ManagerPart). q.number)
      (λ _. refl) m c.managers

  of_setup : IsOf (with_a_thread p) (as_settled c)
  of_setup = record {
    opening = is.opening;
    threads = rw numbers_of_threads (IsPermutation-refl (range_with_len 1 (p.numbers.threads + 1)));
    managers = rw numbers_of_managers (IsPermutation-refl (range_with_len 1 p.managers));
    opened = λ m T at.
        let (q, there, own) =
        was_mapped (λ (r : CrashedManager). r.first) c.managers m T
        (ap (λ (l : List Tables). slice_get l m) is.first ∙ at) in
        ap (option_map (λ (r : ManagerPart). r.first))
        (find_shut (m + 1)
        ∙ ap (option_map (shut_off v c.threads))
        (find_from (λ (r : CrashedManager). r.number) (m + 1) 1 m c.managers managers_from (omega arith) ∙ there))
        ∙ ap (λ (U : Tables). Some U) own;
  }

  pub found_all : (m : ℕ) (q : CrashedManager) → find_crashed m c.managers ≡ Some q
      → reopened_at (as_settled c).managers m ≡ q.found
  found_all m q e =
      ap (λ o. reopened (last_in o)) (find_shut m ∙ ap (option_map (shut_off v c.threads)) e)
      ∙ shut_leaves q v c.threads (left_of m q e)

  -- how many managers it has
  pub count : managers_in (as_settled c) ≡ p.managers
  count =
      length-map (first_ledgers (as_settled c).threads) (λ (a : LedgerView). a.carries_async)
      ∙ first_many js p.managers c.threads (shutting_part v c.managers) is.ledgers
      (length-map c.managers (shut_ledger v) ∙ many_managers)

  whole_all : IsUpTo MOST_MANAGERS p.managers → IsWhole (as_settled c)
  whole_all few = record {
    few = rw count few;
    there = λ m low high.
        by_option
        (λ o. find_crashed m c.managers ≡ o → (q : ManagerPart) × (find_manager m (as_settled c).managers ≡ Some q))
        (find_crashed m c.managers)
        (λ e _. absurd (let many = count in is_there m e low (omega (arith, high, many))))
        (λ q e _. (shut_off v c.threads q, find_shut m ∙ ap (option_map (shut_off v c.threads)) e))
        refl;
    only = λ m r at.
        let (q, e, _) = mapped_some (shut_off v c.threads) (find_crashed m c.managers) r (sym (find_shut m) ∙ at) in
        let low = is_within m q e in
        let below = slice_get_within c.managers (m - 1) q (sym (at_place m low) ∙ e) in
        (low, let many = count in omega (arith, below, low, many, many_managers));
  }

  pub as_settled_all : IsAsSettled p c
  as_settled_all = record {
    settled = settled_all;
    of = of_setup;
    whole = whole_all;
    found = found_all;
    grown = λ t. elim (cases_eq t v) [
      | inl same ↦
          subst (λ at. HaveGrown at (ledgers_of (as_settled c) t)) (sym (ap (ledgers_then c) same ∙ nobody))
          (nothing_grown (ledgers_of (as_settled c) t))
      | inr other ↦
          subst (HaveGrown (ledgers_then c t)) (sym (lists t other)) (ledgers_grown js t (ledgers_then c t))
    ];
  }
