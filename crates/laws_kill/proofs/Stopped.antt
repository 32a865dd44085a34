-- What is stopped between two steps is a crash.
use Rattle.xa_base.proofs.{◌≡◌, ℕ, zero, suc, ◌+◌, ◌-◌, ◌≤◌, false, ◌==◌, nat_eq, List, [], ◌∷◌, ◌++◌, Option, Some}
use Rattle.xa_base.proofs.{None, map, filter, take, length, slice_get, option_map, sym, refl, ap, ◌∙◌, subst, arith}
use Rattle.xa_base.proofs.{All, all_map, All-contains, All-map, All-weaker, Contains, IsDistinct, begins_on, got}
use Rattle.xa_base.proofs.{contains_on, eqb-true, filter-append, found, in_map, map-append, map-map, not_both}
use Rattle.xa_base.proofs.{if◌then◌else◌, length-map, length-range_with_len, range_with_len, slice_get_within}
use Rattle.std.specs.List.{find}
use Rattle.xa_base.specs.{Begins}
use Rattle.xa_words.specs.{Code, Completion, Op, Request}
use Rattle.xa_lane.specs.{sent_at}
use Rattle.xa_tables.specs.{History, IsOpening, Tables, codes, next, of_thread}
use Rattle.xa_desk.specs.{DeskView, IsDesk, IsKnown, LedgerView, WasDrained, arrived, collected_from, is_known, ledger}
use Rattle.xa_desk.specs.{numbered, sent_to}
use Rattle.xa_desk.proofs.Ledgers.{known_true, nobody_sent}
use Rattle.xa_worker.specs.{Entry, IsTiedWorker, LeavesABeginning, WorkerView, codes_in, completion_of, owed, requests}
use Rattle.xa_switch.specs.{Setup, ThreadPart, answers, find_thread, ledgers_in}
use Rattle.xa_switch.proofs.Pieces.{in_drained, in_part, placed}
use Rattle.laws_kill.specs.{AgreeSoFar, AreStopped, CrashedManager, IsCrash, IsCrashedManager, LanesCarry}
use Rattle.laws_kill.specs.{StoppedWorker, find_crashed, kept_in_store, stopped, stopped_manager, stopped_thread}
use Rattle.laws_kill.proofs.Nothing.{nothing_before, nothing_collected, nothing_so_far, unknown_collected, unknown_past}
use Rattle.laws_kill.proofs.Nothing.{unknown_sent}
use Rattle.laws_kill.proofs.Numbered.{by_option, find_below, find_changed, find_from, from_range}

-- a beginning of a journal has the codes of its places
codes_begun : (kept rest : List Entry) (T : Tables)
    → codes_in (kept ++ rest) ≡ codes (requests (kept ++ rest)) T → codes_in kept ≡ codes (requests kept) T
codes_begun [] rest T e = refl
codes_begun (x ∷ kept) rest T e =
    let first = heads x.1 (codes_in (kept ++ rest)) (next x.0.thread x.0.op T).1
    (codes (requests (kept ++ rest)) (next x.0.thread x.0.op T).0) e in
    let after = codes_begun kept rest (next x.0.thread x.0.op T).0
    (tails x.1 (codes_in (kept ++ rest)) (next x.0.thread x.0.op T).1
    (codes (requests (kept ++ rest)) (next x.0.thread x.0.op T).0) e) in
    λ i. first i ∷ after i
  where
    heads : (a : Code) (as_ : List Code) (b : Code) (bs : List Code) → ◌≡◌ {A = List Code} (a ∷ as_) (b ∷ bs) → a ≡ b
    heads a as_ b bs e = cc

    tails : (a : Code) (as_ : List Code) (b : Code) (bs : List Code) → ◌≡◌ {A = List Code} (a ∷ as_) (b ∷ bs)
        → as_ ≡ bs
    tails a as_ b bs e = cc

-- a beginning of numbered requests is numbered
begun_numbered : (t k : ℕ) (xs rest : History) (ops : List Op) → numbered t k ops ≡ xs ++ rest
    → xs ≡ numbered t k (take (length xs) ops)
begun_numbered t k [] rest ops e = refl
begun_numbered t k (x ∷ xs) rest [] e = absurd (cc)
begun_numbered t k (x ∷ xs) rest (op ∷ ops) e =
    let first = heads (numbered t (suc k) ops) (xs ++ rest) e in
    let after = begun_numbered t (suc k) xs rest ops (tails (numbered t (suc k) ops) (xs ++ rest) e) in
    λ i. first i ∷ after i
  where
    heads : (as_ bs : History) → ◌≡◌ {A = History} (record { thread = t; number = k; op = op } ∷ as_) (x ∷ bs)
        → x ≡ record { thread = t; number = k; op = op }
    heads as_ bs e = cc

    tails : (as_ bs : History) → ◌≡◌ {A = History} (record { thread = t; number = k; op = op } ∷ as_) (x ∷ bs)
        → as_ ≡ bs
    tails as_ bs e = cc

kept_begins : (t : ℕ) (w : WorkerView) (K : Tables) (h : LeavesABeginning w K)
    → Begins (of_thread t (requests h.kept)) (of_thread t (requests w.journal))
kept_begins t w K h = (
  of_thread t (requests h.begins.0),
  ap (λ (es : List Entry). of_thread t (requests es)) h.begins.1
      ∙ ap (of_thread t) (map-append (λ (e : Entry). e.0) h.kept h.begins.0)
      ∙ filter-append (λ (r : Request). r.thread == t) (requests h.kept) (requests h.begins.0),
)

-- ---- a desk and a worker

module _ (d : DeskView) (w : WorkerView) (K : Tables) (h : LeavesABeginning w K) (tied : IsDesk d)
    (carry : LanesCarry d w) (low : 1 ≤ d.thread) (known : IsKnown d.ledgers w.number) where
  abbrev t : ℕ
  t = d.thread

  abbrev a : LedgerView
  a = ledger d.ledgers w.number

  begun : Begins (of_thread t (requests h.kept)) (numbered t 0 a.sent)
  begun =
      subst (Begins (of_thread t (requests h.kept))) (tied.sent w.number known)
      (begins_on (of_thread t (requests h.kept)) (of_thread t (requests w.journal)) (sent_at (w.number - 1) d.requests)
      (kept_begins t w K h) carry.requests_)

  numbered_kept : of_thread t (requests h.kept)
      ≡ numbered t 0 (take (length (of_thread t (requests h.kept))) a.sent)
  numbered_kept = begun_numbered t 0 (of_thread t (requests h.kept)) begun.0 a.sent begun.1

  told_at : (p : ℕ × Code) → WasDrained d.drained w.number p → slice_get (answers t h.kept) p.0 ≡ Some p
  told_at p was =
      let x : Completion = record { manager = w.number; number = p.0; code = p.1 } in
      let came : Contains (arrived d.completions.taken) x =
      in_part x d.drained (arrived d.completions.taken) tied.drained_ (in_drained w.number p.0 p.1 d.drained was) in
      let put : Contains (sent_at (t - 1) w.out.senders) x =
      All-contains (λ y. y.manager ≡ w.number → Contains (sent_at (t - 1) w.out.senders) y)
      (arrived d.completions.taken)
      x carry.completions came refl in
      let place : t - 1 + 1 ≡ t = omega (arith, low) in
      let owing : Contains (owed w.number t h.kept) x =
      subst (λ u. Contains (owed w.number u h.kept) x) place
      (contains_on (sent_at (t - 1) w.out.senders) (owed w.number (t - 1 + 1) h.kept) x (h.owed (t - 1)) put) in
      let (q, among, is) =
      in_map (completion_of w.number) x (filter (λ (e : Entry). e.0.thread == t) h.kept) owing in
      subst (λ (v : ℕ × Code). slice_get (answers t h.kept) v.0 ≡ Some v)
      (λ i. (ap (λ (v : Completion). v.number) is i, ap (λ (v : Completion). v.code) is i))
      (placed t h.kept (take (length (of_thread t (requests h.kept))) a.sent) q numbered_kept among)

  pub so_far : IsDistinct nat_eq (map (λ q. q.0) a.collected) → AgreeSoFar t a.sent a.collected h.kept
  so_far once = record {
    begun = begun;
    once = once;
    told =
        All-weaker (WasDrained d.drained w.number) (λ p. slice_get (answers t h.kept) p.0 ≡ Some p) told_at a.collected
        (tied.collected w.number known);
  }

-- ---- all of them

-- what is found by its number is numbered from 1 on
positive : {A : Type 0} (n : A → ℕ) (k : ℕ) (xs : List A) → map n xs ≡ range_with_len 1 k → (t : ℕ) (x : A)
    → find (λ y. n y == t) xs ≡ Some x → 1 ≤ t
positive n k xs range zero x e =
    absurd (not_both (find (λ y. n y == 0) xs) x (find_below n 0 1 xs (from_range n 1 k xs range) (omega arith)) e)
positive n k xs range (suc t) x e = omega arith

-- and each number up to how many there are is found
is_there : {A : Type 0} (n : A → ℕ) (k : ℕ) (xs : List A) → map n xs ≡ range_with_len 1 k → (t : ℕ)
    → find (λ y. n y == t) xs ≡ None → 1 ≤ t → t ≤ k → ⊥
is_there n k xs range t none low high =
    let many : length xs ≡ k =
    sym (length-map xs n) ∙ ap (λ (l : List ℕ). length l) range ∙ length-range_with_len 1 k in
    let (x, at) = got xs (t - 1) (omega (arith, low, high, many)) in
    not_both (find (λ y. n y == t) xs) x none
    (find_from n t 1 (t - 1) xs (from_range n 1 k xs range) (omega (arith, low)) ∙ at)

is_up_to : {A : Type 0} (n : A → ℕ) (k : ℕ) (xs : List A) → map n xs ≡ range_with_len 1 k → (t : ℕ) (x : A)
    → find (λ y. n y == t) xs ≡ Some x → t ≤ k
is_up_to n k xs range t x e =
    let low = positive n k xs range t x e in
    let many : length xs ≡ k =
    sym (length-map xs n) ∙ ap (λ (l : List ℕ). length l) range ∙ length-range_with_len 1 k in
    let place =
    sym (find_from n t 1 (t - 1) xs (from_range n 1 k xs range) (omega (arith, low))) ∙ e in
    let below = slice_get_within xs (t - 1) x place in
    omega (arith, below, low, many)

module _ (p : Setup) (ds : List DeskView) (ws : List StoppedWorker) (is : AreStopped p ds ws) where
  abbrev desk_at : ℕ → Option DeskView
  desk_at t = find (λ (d : DeskView). d.thread == t) ds

  abbrev worker_at : ℕ → Option StoppedWorker
  worker_at m = find (λ (s : StoppedWorker). s.worker.number == m) ws

  find_desk : (t : ℕ) → find_thread t (map stopped_thread ds) ≡ option_map stopped_thread (desk_at t)
  find_desk t =
      find_changed stopped_thread (λ (d : DeskView). d.thread) (λ (q : ThreadPart). q.thread) (λ _. refl) t ds

  find_worker : (m : ℕ) → find_crashed m (map stopped_manager ws) ≡ option_map stopped_manager (worker_at m)
  find_worker m =
      find_changed stopped_manager (λ (s : StoppedWorker). s.worker.number) (λ (q : CrashedManager). q.number)
      (λ _. refl) m ws

  -- of a thread that isn't there
  no_desk : (t m : ℕ) → desk_at t ≡ None
      → AgreeSoFar t (sent_to [] m) (collected_from [] m) (kept_in_store (option_map stopped_manager (worker_at m)))
  no_desk t m none =
      subst
      (λ (x : List Op × List (ℕ × Code)). AgreeSoFar t x.0 x.1
      (kept_in_store (option_map stopped_manager (worker_at m))))
      (λ i. (sym (nobody_sent m) i, sym (nothing_collected m) i))
      (nothing_so_far t (kept_in_store (option_map stopped_manager (worker_at m)))
      (by_option (λ o. of_thread t (requests (kept_in_store (option_map stopped_manager o))) ≡ []) (worker_at m)
      (λ _. refl)
      (λ s e.
      let begins = kept_begins t s.worker s.found s.leaves in
      let none_there =
      All-contains (λ (u : StoppedWorker). of_thread t (requests u.worker.journal) ≡ []) ws s (is.own t none)
      (found (λ (u : StoppedWorker). u.worker.number == m) ws s e).0 in
      nothing_before (of_thread t (requests s.leaves.kept)) begins.0 (sym none_there ∙ begins.1))))

  -- of one that is, with a worker that isn't
  no_worker : (t m : ℕ) (d : DeskView) → Contains ds d → worker_at m ≡ None
      → AgreeSoFar t (sent_to d.ledgers m) (collected_from d.ledgers m) []
  no_worker t m d among none =
      let many = All-contains (λ (e : DeskView). length e.ledgers ≡ p.managers) ds d is.ledgers among in
      let unknown : is_known d.ledgers m ≡ false =
      unknown_past d.ledgers m
      (λ low high.
      is_there (λ (s : StoppedWorker). s.worker.number) p.managers ws is.managers m none low
      (omega (arith, high, many))) in
      subst (λ (x : List Op × List (ℕ × Code)). AgreeSoFar t x.0 x.1 [])
      (λ i. (sym (unknown_sent d.ledgers m unknown) i, sym (unknown_collected d.ledgers m unknown) i))
      (nothing_so_far t [] refl)

  -- and of both
  both : (d : DeskView) (s : StoppedWorker) → Contains ds d → Contains ws s → 1 ≤ d.thread
      → IsKnown d.ledgers s.worker.number
      → AgreeSoFar d.thread (sent_to d.ledgers s.worker.number) (collected_from d.ledgers s.worker.number)
      s.leaves.kept
  both d s among among_workers low known =
      let n : ℕ = s.worker.number in
      let a : LedgerView = ledger d.ledgers n in
      let is_so = known_true d.ledgers n known in
      let collected : collected_from d.ledgers n ≡ a.collected =
      ap (λ b. if b then (ledger d.ledgers n).collected else []) is_so in
      let sent : sent_to d.ledgers n ≡ a.sent = ap (λ b. if b then (ledger d.ledgers n).sent else []) is_so in
      let carry =
      All-contains (λ (u : StoppedWorker). LanesCarry d u.worker) ws s
      (All-contains (λ (e : DeskView). All (λ (u : StoppedWorker). LanesCarry e u.worker) ws) ds d is.lanes among)
      among_workers in
      let once =
      All-contains
      (λ (e : DeskView). (m : ℕ) → IsDistinct nat_eq (map (λ q. q.0) (collected_from e.ledgers m))) ds d is.once among
      n in
      subst (λ (x : List Op × List (ℕ × Code)). AgreeSoFar d.thread x.0 x.1 s.leaves.kept)
      (λ i. (sym sent i, sym collected i))
      (so_far d s.worker s.found s.leaves (All-contains IsDesk ds d is.tied among) carry low known
      (subst (λ (l : List (ℕ × Code)). IsDistinct nat_eq (map (λ q. q.0) l)) collected once))

  agree : (t m : ℕ)
      → AgreeSoFar t (sent_to (ledgers_in (option_map stopped_thread (desk_at t))) m)
      (collected_from (ledgers_in (option_map stopped_thread (desk_at t))) m)
      (kept_in_store (option_map stopped_manager (worker_at m)))
  agree t m =
      by_option
      (λ D.
      AgreeSoFar t (sent_to (ledgers_in (option_map stopped_thread D)) m)
      (collected_from (ledgers_in (option_map stopped_thread D)) m)
      (kept_in_store (option_map stopped_manager (worker_at m))))
      (desk_at t) (no_desk t m)
      (λ d e.
      let (among, its) = found (λ (x : DeskView). x.thread == t) ds d e in
      let own = eqb-true d.thread t its in
      by_option
      (λ W. AgreeSoFar t (sent_to d.ledgers m) (collected_from d.ledgers m)
      (kept_in_store (option_map stopped_manager W)))
      (worker_at m) (no_worker t m d among)
      (λ s at.
      let (among_workers, its_number) = found (λ (u : StoppedWorker). u.worker.number == m) ws s at in
      let number = eqb-true s.worker.number m its_number in
      let many = All-contains (λ (x : DeskView). length x.ledgers ≡ p.managers) ds d is.ledgers among in
      let low = positive (λ (u : StoppedWorker). u.worker.number) p.managers ws is.managers m s at in
      let high = is_up_to (λ (u : StoppedWorker). u.worker.number) p.managers ws is.managers m s at in
      let from_one = positive (λ (x : DeskView). x.thread) p.numbers.threads ds is.threads t d e in
      let known : IsKnown d.ledgers s.worker.number =
      record { positive = omega (arith, low, number); within = omega (arith, high, number, many) } in
      subst
      (λ (x : ℕ × ℕ). AgreeSoFar x.0 (sent_to d.ledgers x.1) (collected_from d.ledgers x.1) s.leaves.kept)
      (λ i. (own i, number i)) (both d s among among_workers (omega (arith, from_one, own)) known)))

  pub stops : IsCrash p (stopped p.numbers.opening ds ws)
  stops = record {
    opening = refl;
    threads = map-map (λ (q : ThreadPart). q.thread) stopped_thread ds ∙ is.threads;
    managers = map-map (λ (q : CrashedManager). q.number) stopped_manager ws ∙ is.managers;
    first = map-map (λ (q : CrashedManager). q.first) stopped_manager ws ∙ is.first;
    ledgers = All-map (λ (q : ThreadPart). length q.ledgers ≡ p.managers) stopped_thread ds is.ledgers;
    left =
        all_map stopped_manager IsCrashedManager ws
        (λ s among. record {
          opened = All-contains (λ (u : StoppedWorker). IsOpening u.worker.first) ws s is.opened among;
          coded =
              let tied = All-contains (λ (u : StoppedWorker). IsTiedWorker u.worker) ws s is.follows among in
              codes_begun s.leaves.kept s.leaves.begins.0 s.worker.first
              (subst (λ (es : List Entry). codes_in es ≡ codes (requests es) s.worker.first) s.leaves.begins.1
              tied.follows.codes_then);
          found_is = s.leaves.left;
        });
    agree = λ t m.
        subst (λ (x : List LedgerView × List Entry). AgreeSoFar t (sent_to x.0 m) (collected_from x.0 m) x.1)
        (λ i. (sym (ap ledgers_in (find_desk t)) i, sym (ap kept_in_store (find_worker m)) i)) (agree t m);
  }
