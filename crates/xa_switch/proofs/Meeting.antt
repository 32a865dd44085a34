-- Managers, desks and workers of one opening.
use Rattle.xa_base.proofs.{all_map, pairs_map, get_contained, ◌≡◌, List, map, refl, sym, ap, ◌∙◌, get_or, All, All-map}
use Rattle.xa_base.proofs.{ℕ, ◌+◌, ◌-◌, [], length, slice_get, option_map, arith, Some, All-append, slice_get-map}
use Rattle.xa_base.proofs.{slice_get-get_or, contains_at, All-contains, rules, length-map, slice_get_within, got}
use Rattle.xa_base.proofs.{got_map, all_from, all_at, map-map as map-map}
use Rattle.xa_tables.specs.{Managed, IsOpening, Tables}
use Rattle.xa_switch.specs.{new_manager, Again, Setup, IsNewDesk, IsNewWorker, ShareNewLanes, AreOfOneOpening, DeskSeat}
use Rattle.xa_switch.specs.{WorkerSeat, openings_of, end_seat, seat_of_desk, seat_of_worker, ShareLanes, AreTogether}
use Rattle.xa_switch.specs.{AreApartDesks, AreApartWorkers, ComeFromOpenings, Each, AreLanes, IsRequestSender}
use Rattle.xa_switch.specs.{IsCompletionSender, DesksFit, WorkersFit, IsDeskOf, IsWorkerOf, IsLaidOut, setup}
use Rattle.xa_switch.specs.{completion_room, Layout}
use Rattle.xa_words.specs.{Request, Completion}
use Rattle.xa_lane.specs.{Sending, Receiving}
use Rattle.xa_desk.specs.{DeskView, ledger, AllKept}
use Rattle.xa_desk.proofs.Books.{fresh_sent}
use Rattle.xa_worker.specs.{Answering, WorkerView}

-- ---- managers that an opening begins with, each with its tables

-- one is made of each of xs, with these numbers
module _ {A : Type 0} (n : Again) (tables : A → Tables) (xs : List A) (ms : List Managed)
    (made : ms ≡ map (λ x. new_manager n (tables x)) xs) where
  pub all_new : All (λ m. m ≡ new_manager n m.tables) ms
  all_new =
      rw made
      (All-map (λ (m : Managed). m ≡ new_manager n m.tables) (λ (x : A). new_manager n (tables x)) xs
      (λ k d lt. refl))

  pub all_begin : ((x : A) → IsOpening (tables x)) → All (λ m. IsOpening m.tables) ms
  all_begin opens =
      rw made
      (All-map (λ (m : Managed). IsOpening m.tables) (λ (x : A). new_manager n (tables x)) xs
      (λ k d lt. opens (get_or xs k d)))

  pub tables_are : map (λ m. m.tables) ms ≡ map tables xs
  tables_are =
      ap (map (λ (m : Managed). m.tables)) made
      ∙ map-map (λ (m : Managed). m.tables) (λ (x : A). new_manager n (tables x)) xs

-- ---- an opening

module _ (p : Setup) (ds : List DeskView) (ws : List WorkerView) (h : AreOfOneOpening p ds ws) where
  share : (t m : ℕ) (d : DeskView) (w : WorkerView) → slice_get ds t ≡ Some d → slice_get ws m ≡ Some w
      → ShareLanes (seat_of_desk d) (seat_of_worker w)
  share t m d w at_d at_w =
      let D : IsNewDesk p t d = h.desks t d at_d in
      let W : IsNewWorker p m w = h.workers m w at_w in
      let T : ShareNewLanes t m d w = h.together t m d w at_d at_w in
      let thread : d.thread ≡ t + 1 = ap (λ (d : DeskView). d.thread) D.made in
      let number : w.number ≡ m + 1 = ap (λ (w : WorkerView). w.number) W.made in
      let m_is : w.number - 1 ≡ m = omega (arith, number) in
      let t_is : d.thread - 1 ≡ t = omega (arith, thread) in
      let asking = D.requests m T.asking T.asks in
      let answering = W.completions t T.answering T.answers in
      record {
        asking = end_seat T.asking;
        asks = search (arith, slice_get-map, option_map, slice_get, d.requests);
        asked = (
          ap (λ (e : Sending Request). e.lane) asking
              ∙ sym (ap (λ (r : Receiving Request). r.lane) W.requests),
          T.asked,
        );
        asker = let i = ap (λ (e : Sending Request). e.index) asking in omega (arith, i, thread);
        answering = end_seat T.answering;
        answers = search (arith, slice_get-map, option_map, slice_get, w.out.senders);
        answered = (
          ap (λ (e : Answering). e.lane) answering
              ∙ sym (ap (λ (r : Receiving Completion). r.lane) D.completions),
          T.answered,
        );
        answerer = let i = ap (λ (e : Answering). e.index) answering in omega (arith, i, number);
      }

  thread_at : (k : ℕ) (d : DeskView) → slice_get ds k ≡ Some d → d.thread ≡ k + 1
  thread_at k d at = let D : IsNewDesk p k d = h.desks k d at in ap (λ (d : DeskView). d.thread) D.made

  number_at : (k : ℕ) (w : WorkerView) → slice_get ws k ≡ Some w → w.number ≡ k + 1
  number_at k w at = let W : IsNewWorker p k w = h.workers k w at in ap (λ (w : WorkerView). w.number) W.made

  opened_at : (k : ℕ) (w : WorkerView) → slice_get ws k ≡ Some w → IsOpening w.first
  opened_at k w at =
      let W : IsNewWorker p k w = h.workers k w at in
      rw W.made (All-contains IsOpening p.first W.first h.begins (contains_at p.first k W.first W.begins))

  pub opened : ComeFromOpenings (map seat_of_desk ds) (map seat_of_worker ws)
  opened = record {
    together =
        all_map seat_of_desk (λ s. All (AreTogether s) (map seat_of_worker ws)) ds
        (λ d cd. all_map seat_of_worker (AreTogether (seat_of_desk d)) ws
        (λ w cw same. share cd.0 cw.0 d w (get_contained ds d cd) (get_contained ws w cw)));
    desks_apart = pairs_map seat_of_desk AreApartDesks ds (λ i k d lt below same e.
        let x = thread_at i (get_or ds i d) (slice_get-get_or ds i d (omega (arith, lt, below))) in
        let y = thread_at k (get_or ds k d) (slice_get-get_or ds k d below) in
        omega (arith, x, y, e, lt));
    workers_apart = pairs_map seat_of_worker AreApartWorkers ws (λ i k d lt below same e.
        let x = number_at i (get_or ws i d) (slice_get-get_or ws i d (omega (arith, lt, below))) in
        let y = number_at k (get_or ws k d) (slice_get-get_or ws k d below) in
        omega (arith, x, y, e, lt));
    opened = all_map seat_of_worker (λ (s : WorkerSeat). IsOpening s.first) ws
        (λ w cw. opened_at cw.0 w (get_contained ws w cw));
  }

  pub numbered : All (λ n. n ≡ p.numbers.opening) (openings_of (map seat_of_desk ds) (map seat_of_worker ws))
  numbered =
      All-append (λ n. n ≡ p.numbers.opening) (map (λ (s : DeskSeat). s.lane.opening) (map seat_of_desk ds))
      (map (λ (s : WorkerSeat). s.lane.opening) (map seat_of_worker ws))
      (All-map (λ n. n ≡ p.numbers.opening) (λ (s : DeskSeat). s.lane.opening) (map seat_of_desk ds)
      (all_map seat_of_desk (λ (s : DeskSeat). s.lane.opening ≡ p.numbers.opening) ds
      (λ d cd. ap (λ (r : Receiving Completion). r.lane.opening) (h.desks cd.0 d (get_contained ds d cd)).completions)))
      (All-map (λ n. n ≡ p.numbers.opening) (λ (s : WorkerSeat). s.lane.opening) (map seat_of_worker ws)
      (all_map seat_of_worker (λ (s : WorkerSeat). s.lane.opening ≡ p.numbers.opening) ws
      (λ w cw. ap (λ (r : Receiving Request). r.lane.opening) (h.workers cw.0 w (get_contained ws w cw)).requests)))

  -- at a desk of an opening nothing is outstanding
  pub kept : All AllKept ds
  kept k d below = record {
    each = λ o out.
        let is : IsNewDesk p k (get_or ds k d) = h.desks k (get_or ds k d) (slice_get-get_or ds k d below) in
        let none : (ledger (get_or ds k d).ledgers o.manager).sent ≡ [] = search (arith, fresh_sent) in
        absurd (omega (arith, out.sent, ap (λ l. length l) none));
  }

-- ---- desks and workers of one opening

-- each sender of a column has its receiver
its_receiver : {S R : Type 0} {IsReceiver : ℕ → R → Type 0} {IsSender : ℕ → ℕ → S → R → Type 0} {senders lanes : ℕ}
    {C : List (List S)} {rs : List R}
    → AreLanes IsReceiver IsSender senders lanes C rs → (k : ℕ) (c : List S) → slice_get C k ≡ Some c → (j : ℕ) (s : S)
    → slice_get c j ≡ Some s → (r : R)
    × IsSender k j s r
its_receiver {rs = rs} are k c at j s at_s =
    let r = got rs j (omega (arith, slice_get_within c j s at_s, are.deep k c at, are.many)) in
    (r.0, are.dealt k j c s r.0 at at_s r.1)

-- what was laid out, with its managers
module _ (l : Layout) (xs : List Managed) (is : IsLaidOut l) (many : length xs ≡ length l.use_async.items)
    (new : All (λ x. x ≡ new_manager l.numbers x.tables) xs) (begins : All (λ x. IsOpening x.tables) xs) where
  -- what it was laid out for
  abbrev pub p : Setup
  p = setup l.numbers l.use_async.items (map (λ x. x.tables) xs)

  -- the ends of the lanes of requests, and of completions
  abbrev pub asks : List (List (Sending Request))
  asks = map (λ c. c.items) l.requests.columns.items

  abbrev pub answers : List (List Answering)
  answers = map (λ c. c.items) l.completions.columns.items

  -- the senders of thread t + 1 are on the lanes to each manager
  request_senders : (t : ℕ) (c : List (Sending Request)) → slice_get asks t ≡ Some c
      → Each (IsRequestSender p.numbers.opening p.numbers.queue t) c
  request_senders t c at m s at_s = (its_receiver is.requests t c at m s at_s).1.0

  completion_senders : (m : ℕ) (c : List Answering) → slice_get answers m ≡ Some c
      → Each (IsCompletionSender p.numbers.opening (completion_room p.numbers p.managers) m) c
  completion_senders m c at t s at_s = (its_receiver is.completions m c at t s at_s).1.0

  -- a manager has the room and the threads of the layout
  new_at : (m : ℕ) (x : Managed) → slice_get xs m ≡ Some x → x ≡ new_manager l.numbers x.tables
  new_at m x at = all_at (λ (y : Managed). y ≡ new_manager l.numbers y.tables) xs m x new at

  -- what goes together fits together: a desk
  pub desks_fit : DesksFit l.desk_parts.items asks l.completions.receivers.items
  desks_fit t part c r at_part at_c at_r =
      let same = is.desk_parts_ t part at_part in
      let thread : part.thread ≡ t + 1 = ap (λ x. x.thread) same in
      let managers : length part.use_async ≡ p.managers = ap (λ x. length x.use_async) same in
      let senders = request_senders t c at_c in
      let receiver = is.completions.receivers t r at_r in
      let opening : r.lane.opening ≡ p.numbers.opening = ap (λ x. x.lane.opening) receiver in (
        record {
          number = is.requests.deep t c at_c ∙ sym managers;
          to = search (arith, rules);
          lane = ap (λ x. x.lane.index) receiver ∙ sym thread;
          senders = ap (λ x. x.senders) receiver ∙ sym managers;
        },
        record {
          sent = all_from (λ s. s.sent ≡ []) c (λ m s at_s. ap (λ x. x.sent) (senders m s at_s));
          taken = ap (λ x. x.taken) receiver;
        },
      )

  -- a worker with its manager, the lane of its requests and its senders of completions
  pub workers_fit : WorkersFit l.worker_parts.items xs l.requests.receivers.items answers
  workers_fit = record {
    memory = search (arith, new_at);
    requests = search (arith, new_at);
    completions = λ m x c at_x at_c. (
      is.completions.deep m c at_c ∙ sym (ap (λ (y : Managed). y.threads) (new_at m x at_x)),
      all_from (λ s. s.sent ≡ []) c (λ t s at_s. ap (λ y. y.sent) (completion_senders m c at_c t s at_s)),
    );
  }

  new_desk_is : (t : ℕ) (d : DeskView) → IsDeskOf l.desk_parts.items asks l.completions.receivers.items t d
      → IsNewDesk p t d
  new_desk_is t d of = search (arith, request_senders, of.requests, of.part, of.completions)

  new_worker_is : (m : ℕ) (w : WorkerView) → IsWorkerOf l.worker_parts.items xs l.requests.receivers.items answers m w
      → IsNewWorker p m w
  new_worker_is m w of =
      rw of.made (record {
        first = of.manager.tables;
        begins = got_map (λ (x : Managed). x.tables) xs m of.manager of.manager_at;
        made = search (arith, new_at, of.manager, of.requests, of.part);
        threads = is.completions.deep m of.senders of.senders_at;
        requests = is.requests.receivers m of.requests of.requests_at;
        completions = completion_senders m of.senders of.senders_at;
      })

  together_are : (t m : ℕ) (d : DeskView) (w : WorkerView)
      → IsDeskOf l.desk_parts.items asks l.completions.receivers.items t d
      → IsWorkerOf l.worker_parts.items xs l.requests.receivers.items answers m w
      → ShareNewLanes t m d w
  together_are t m d w of_d of_w =
      let t_low = slice_get_within l.desk_parts.items t of_d.part of_d.part_at in
      let m_low = slice_get_within l.worker_parts.items m of_w.part of_w.part_at in
      let asks_deep = is.requests.deep t of_d.requests of_d.requests_at in
      let answers_deep = is.completions.deep m of_w.senders of_w.senders_at in
      let s = got of_d.requests m (omega (arith, m_low, is.managers, asks_deep)) in
      let a = got of_w.senders t (omega (arith, t_low, is.threads, answers_deep)) in
      search (
        arith,
        of_d.part,
        of_d.requests,
        s.0,
        of_w.requests,
        of_d.requests_at,
        s.1,
        of_w.senders,
        a.0,
        of_d.completions,
        of_w.senders_at,
        a.1,
      )

  pub one_opening : (ds : List DeskView) (ws : List WorkerView) → length ds ≡ length l.desk_parts.items
      → length ws ≡ length l.worker_parts.items
      → Each (IsDeskOf l.desk_parts.items asks l.completions.receivers.items) ds
      → Each (IsWorkerOf l.worker_parts.items xs l.requests.receivers.items answers) ws → AreOfOneOpening p ds ws
  one_opening ds ws many_d many_w desks workers =
      search (arith, length-map, new_desk_is, new_worker_is, together_are, All-map)
