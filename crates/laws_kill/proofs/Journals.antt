-- The journal of a manager that was shut where its store ends: it follows its tables, leaves what is found in the
-- store, and has of each thread all that the thread sent.
use Rattle.xa_base.proofs.{◌≡◌, ◌≢◌, ℕ, zero, suc, ◌<◌, true, cond, ◌==◌, List, [], ◌∷◌, ◌++◌, Some, map, filter, drop}
use Rattle.xa_base.proofs.{length, slice_get, sym, refl, ap, ◌∙◌, arith, append-nil, All, All-weaker, map-append}
use Rattle.xa_base.proofs.{filter-append, drop_at, ne_eqb, eq-eqb, cases_eq, inl, inr, got_on, by_bool}
use Rattle.xa_base.specs.{Begins}
use Rattle.xa_words.specs.{Code, Op, Request, RmFail, Shut}
use Rattle.xa_tables.specs.{History, Tables, TablesAndCode, next, codes, tables_after, of_thread, parted, reopened}
use Rattle.laws_fates.proofs.ShutLaw.{next-Shut, next-shut}
use Rattle.laws_tables.proofs.CrashLaw.{crash_law}
use Rattle.laws_tables.specs.{shut_by}
use Rattle.xa_desk.specs.{numbered, sent_to}
use Rattle.xa_desk.proofs.Ledgers.{nobody_sent}
use Rattle.xa_worker.specs.{Entry, codes_in, requests}
use Rattle.xa_switch.specs.{FollowsTables, ThreadPart, answers, find_thread, ledgers_in}
use Rattle.laws_kill.specs.{CrashedManager, IsCrashedManager, journal_shut, lost, lost_of, shut_entry, shut_off}
use Rattle.laws_kill.specs.{tables_kept}
use Rattle.laws_kill.proofs.Numbered.{AreNumberedFrom}

-- ---- codes

-- a Shut leaves the tables shut
shut_then : (v : ℕ) (T : Tables) → (next v Shut T).0.shut ≡ true
shut_then v T =
    by_bool (λ _. (next v Shut T).0.shut ≡ true) T.shut
    (λ s. ap (λ (a : TablesAndCode). a.0.shut) (next-shut v Shut T s) ∙ s)
    (λ s. ap (λ (a : TablesAndCode). a.0.shut) (next-Shut v T s))

codes-append : (h g : History) (T : Tables) → codes (h ++ g) T ≡ codes h T ++ codes g (tables_after h T)
codes-append [] g T = refl
codes-append (r ∷ h) g T = ap (λ cs. (next r.thread r.op T).1 ∷ cs) (codes-append h g (next r.thread r.op T).0)

-- each of these entries was refused
abbrev AreRefused : List Entry → Type 0
AreRefused es = codes_in es ≡ map (λ (r : Request). RmFail) (requests es)

refused : (rs : List Request) → AreRefused (map (λ r. (r, RmFail)) rs)
refused [] = refl
refused (r ∷ rs) = ap (λ cs. RmFail ∷ cs) (refused rs)

both_refused : (es fs : List Entry) → AreRefused es → AreRefused fs → AreRefused (es ++ fs)
both_refused [] fs e f = f
both_refused (x ∷ es) fs e f =
    let first : x.1 ≡ RmFail = heads x.1 (codes_in es) (map (λ (r : Request). RmFail) (requests es)) e in
    let rest = both_refused es fs (tails x.1 (codes_in es) (map (λ (r : Request). RmFail) (requests es)) e) f in
    λ i. first i ∷ rest i
  where
    heads : (c : Code) (cs ds : List Code) → ◌≡◌ {A = List Code} (c ∷ cs) (RmFail ∷ ds) → c ≡ RmFail
    heads c cs ds e = cc

    tails : (c : Code) (cs ds : List Code) → ◌≡◌ {A = List Code} (c ∷ cs) (RmFail ∷ ds) → cs ≡ ds
    tails c cs ds e = cc

module _ (p : CrashedManager) where
  abbrev had : ℕ → ℕ
  had t = length (of_thread t (requests p.kept))

  -- what thread q had sent to the manager
  abbrev sent_of : ThreadPart → List Op
  sent_of q = sent_to q.ledgers p.number

  -- what the store lacks of it
  abbrev lacked : ThreadPart → History
  lacked q = drop (had q.thread) (numbered q.thread 0 (sent_of q))

  lost_refused : (qs : List ThreadPart) → AreRefused (lost qs p)
  lost_refused [] = refl
  lost_refused (q ∷ qs) =
      both_refused (lost_of q.thread (sent_of q) p.kept) (lost qs p) (refused (lacked q)) (lost_refused qs)

  module _ (v : ℕ) (qs : List ThreadPart) where
    all_requests : requests (journal_shut v qs p) ≡ requests p.kept ++ shut_by v ∷ requests (lost qs p)
    all_requests = map-append (λ (e : Entry). e.0) p.kept (shut_entry v p ∷ lost qs p)

    all_codes : codes_in p.kept ≡ codes (requests p.kept) p.first
        → codes_in (journal_shut v qs p) ≡ codes (requests (journal_shut v qs p)) p.first
    all_codes coded =
        map-append (λ (e : Entry). e.1) p.kept (shut_entry v p ∷ lost qs p)
        ∙ ap (λ cs. cs ++ codes_in (shut_entry v p ∷ lost qs p)) coded
        ∙ ap (λ cs. codes (requests p.kept) p.first ++ (next v Shut (tables_kept p)).1 ∷ cs)
        (lost_refused qs
        ∙ sym (late (requests (lost qs p)) (next v Shut (tables_kept p)).0 (shut_then v (tables_kept p))))
        ∙ sym (codes-append (requests p.kept) (shut_by v ∷ requests (lost qs p)) p.first)
        ∙ ap (λ (h : History). codes h p.first) (sym all_requests)
      where
        late : (h : History) (T : Tables) → T.shut ≡ true → codes h T ≡ map (λ (r : Request). RmFail) h
        late [] T s = refl
        late (r ∷ h) T s =
            ap (λ (a : TablesAndCode). a.1 ∷ codes h a.0) (next-shut r.thread r.op T s)
            ∙ ap (λ cs. RmFail ∷ cs) (late h T s)

    -- it follows its tables
    pub shut_follows : IsCrashedManager p → FollowsTables (shut_off v qs p)
    shut_follows left = record {
      opened = left.opened;
      coded = all_codes left.coded;
      entered = parted (requests (journal_shut v qs p));
      carried = refl;
      left = refl;
    }

    -- and leaves what is found
    pub shut_leaves : IsCrashedManager p → reopened (tables_after (requests (journal_shut v qs p)) p.first) ≡ p.found
    shut_leaves left =
        ap (λ (h : History). reopened (tables_after h p.first)) all_requests
        ∙ crash_law (requests p.kept) (requests (lost qs p)) v p.first
        ∙ sym left.found_is

  -- ---- what the journal has of a thread

  -- all numbered requests are of their thread, and none is of another
  own_kept : (t k n : ℕ) (ops : List Op) → of_thread t (drop n (numbered t k ops)) ≡ drop n (numbered t k ops)
  own_kept t k zero [] = refl
  own_kept t k zero (op ∷ ops) =
      ap (λ b. cond b (record { thread = t; number = k; op = op } ∷ of_thread t (numbered t (suc k) ops))
      (of_thread t (numbered t (suc k) ops))) (eq-eqb t t refl)
      ∙ ap (λ (h : History). record { thread = t; number = k; op = op } ∷ h) (own_kept t (suc k) zero ops)
  own_kept t k (suc n) [] = refl
  own_kept t k (suc n) (op ∷ ops) = own_kept t (suc k) n ops

  other_dropped : (t u k n : ℕ) (ops : List Op) → u ≢ t → of_thread t (drop n (numbered u k ops)) ≡ []
  other_dropped t u k zero [] e = refl
  other_dropped t u k zero (op ∷ ops) e =
      ap (λ b. cond b (record { thread = u; number = k; op = op } ∷ of_thread t (numbered u (suc k) ops))
      (of_thread t (numbered u (suc k) ops))) (ne_eqb u t e)
      ∙ other_dropped t u (suc k) zero ops e
  other_dropped t u k (suc n) [] e = refl
  other_dropped t u k (suc n) (op ∷ ops) e = other_dropped t u (suc k) n ops e

  plain : (rs : History) → requests (map (λ r. (r, RmFail)) rs) ≡ rs
  plain [] = refl
  plain (r ∷ rs) = ap (λ (h : History). r ∷ h) (plain rs)

  split : (t : ℕ) (q : ThreadPart) (qs : List ThreadPart)
      → of_thread t (requests (lost (q ∷ qs) p)) ≡ of_thread t (lacked q) ++ of_thread t (requests (lost qs p))
  split t q qs =
      ap (of_thread t) (map-append (λ (e : Entry). e.0) (lost_of q.thread (sent_of q) p.kept) (lost qs p)
      ∙ ap (λ (h : History). h ++ requests (lost qs p)) (plain (lacked q)))
      ∙ filter-append (λ (r : Request). r.thread == t) (lacked q) (requests (lost qs p))

  -- of a thread whose number is below theirs nothing was lost
  none_lost : (t k : ℕ) (qs : List ThreadPart) → AreNumberedFrom (λ (q : ThreadPart). q.thread) k qs → t < k
      → of_thread t (requests (lost qs p)) ≡ []
  none_lost t k [] from below = refl
  none_lost t k (q ∷ qs) from below =
      let first = from.0 in
      split t q qs
      ∙ ap (λ (h : History). h ++ of_thread t (requests (lost qs p)))
      (other_dropped t q.thread 0 (had q.thread) (sent_of q) (λ e. omega (arith, e, first, below)))
      ∙ none_lost t (suc k) qs from.1 (omega (arith, below))

  -- of each thread that was lost which the store lacks
  lost_alone : (t k : ℕ) (qs : List ThreadPart) → AreNumberedFrom (λ (q : ThreadPart). q.thread) k qs
      → of_thread t (requests (lost qs p))
      ≡ drop (had t) (numbered t 0 (sent_to (ledgers_in (find_thread t qs)) p.number))
  lost_alone t k [] from =
      sym (ap (λ ops. drop (had t) (numbered t 0 ops)) (nobody_sent p.number) ∙ drop_nothing (had t))
    where
      drop_nothing : (n : ℕ) → ◌≡◌ {A = History} (drop n []) []
      drop_nothing zero = refl
      drop_nothing (suc n) = refl
  lost_alone t k (q ∷ qs) from = elim (cases_eq q.thread t) [
    | inl same ↦
        let first = from.0 in
        split t q qs
        ∙ ap (λ (h : History). of_thread t (lacked q) ++ h)
        (none_lost t (suc k) qs from.1 (omega (arith, same, first)))
        ∙ append-nil (of_thread t (lacked q))
        ∙ ap (λ u. of_thread t (drop (had u) (numbered u 0 (sent_of q)))) same
        ∙ own_kept t 0 (had t) (sent_of q)
        ∙ ap (λ b. drop (had t)
        (numbered t 0 (sent_to (ledgers_in (cond b (Some q) (find_thread t qs))) p.number)))
        (sym (eq-eqb q.thread t same))
    | inr differs ↦
        split t q qs
        ∙ ap (λ (h : History). h ++ of_thread t (requests (lost qs p)))
        (other_dropped t q.thread 0 (had q.thread) (sent_of q) differs)
        ∙ lost_alone t (suc k) qs from.1
        ∙ ap (λ b. drop (had t)
        (numbered t 0 (sent_to (ledgers_in (cond b (Some q) (find_thread t qs))) p.number)))
        (sym (ne_eqb q.thread t differs))
  ]

  -- what the store has of a thread, and what it lacks, is what the thread sent
  made_whole : (t : ℕ) (ops : List Op) → Begins (of_thread t (requests p.kept)) (numbered t 0 ops)
      → of_thread t (requests p.kept) ++ drop (had t) (numbered t 0 ops) ≡ numbered t 0 ops
  made_whole t ops begun =
      ap (λ (h : History). of_thread t (requests p.kept) ++ drop (had t) h) begun.1
      ∙ ap (λ (h : History). of_thread t (requests p.kept) ++ h)
      (drop_at (of_thread t (requests p.kept)) begun.0 (had t) refl)
      ∙ sym begun.1

  module _ (v : ℕ) (qs : List ThreadPart) (from : AreNumberedFrom (λ (q : ThreadPart). q.thread) 1 qs) where
    in_parts : (t : ℕ)
        → of_thread t (requests (journal_shut v qs p))
        ≡ of_thread t (requests p.kept) ++ of_thread t (shut_by v ∷ requests (lost qs p))
    in_parts t =
        ap (of_thread t) (all_requests v qs)
        ∙ filter-append (λ (r : Request). r.thread == t) (requests p.kept) (shut_by v ∷ requests (lost qs p))

    -- so the journal has of each other thread all that it sent, in order
    pub carries_all : (t : ℕ) → t ≢ v
        → Begins (of_thread t (requests p.kept)) (numbered t 0 (sent_to (ledgers_in (find_thread t qs)) p.number))
        → of_thread t (requests (journal_shut v qs p))
        ≡ numbered t 0 (sent_to (ledgers_in (find_thread t qs)) p.number)
    carries_all t other begun =
        in_parts t
        ∙ ap (λ (h : History). of_thread t (requests p.kept) ++ h)
        (ap (λ b. cond b (shut_by v ∷ of_thread t (requests (lost qs p))) (of_thread t (requests (lost qs p))))
        (ne_eqb v t (λ e. other (sym e)))
        ∙ lost_alone t 1 qs from)
        ∙ made_whole t (sent_to (ledgers_in (find_thread t qs)) p.number) begun

    -- and of thread v the Shut, where it sent nothing
    pub carries_shut : ledgers_in (find_thread v qs) ≡ [] → of_thread v (requests p.kept) ≡ []
        → of_thread v (requests (journal_shut v qs p)) ≡ numbered v 0 (Shut ∷ [])
    carries_shut nobody none =
        in_parts v
        ∙ ap (λ (h : History). h ++ of_thread v (shut_by v ∷ requests (lost qs p))) none
        ∙ ap (λ b. cond b (shut_by v ∷ of_thread v (requests (lost qs p))) (of_thread v (requests (lost qs p))))
        (eq-eqb v v refl)
        ∙ ap (λ (h : History). shut_by v ∷ h)
        (lost_alone v 1 qs from
        ∙ ap (λ at. drop (had v) (numbered v 0 (sent_to at p.number))) nobody
        ∙ sym (lost_alone v 1 [] tt))

  -- ---- what it owes a thread

  answers_split : (v t : ℕ) (qs : List ThreadPart)
      → answers t (journal_shut v qs p) ≡ answers t p.kept ++ answers t (shut_entry v p ∷ lost qs p)
  answers_split v t qs =
      ap (map (λ (e : Entry). (e.0.number, e.1)))
      (filter-append (λ (e : Entry). e.0.thread == t) p.kept (shut_entry v p ∷ lost qs p))
      ∙ map-append (λ (e : Entry). (e.0.number, e.1)) (filter (λ (e : Entry). e.0.thread == t) p.kept)
      (filter (λ (e : Entry). e.0.thread == t) (shut_entry v p ∷ lost qs p))

  -- an answer of the store stands at its place
  pub told_still : (v t : ℕ) (qs : List ThreadPart) (pairs : List (ℕ × Code))
      → All (λ q. slice_get (answers t p.kept) q.0 ≡ Some q) pairs
      → All (λ q. slice_get (answers t (journal_shut v qs p)) q.0 ≡ Some q) pairs
  told_still v t qs pairs told =
      All-weaker (λ q. slice_get (answers t p.kept) q.0 ≡ Some q)
      (λ q. slice_get (answers t (journal_shut v qs p)) q.0 ≡ Some q)
      (λ q at. rw (answers_split v t qs)
      (got_on (answers t p.kept) (answers t (shut_entry v p ∷ lost qs p)) q.0 q at)) pairs told

  -- and the Shut is answered with its code
  pub shut_answered : (v : ℕ) (qs : List ThreadPart) → AreNumberedFrom (λ (q : ThreadPart). q.thread) 1 qs
      → of_thread v (requests p.kept) ≡ [] → slice_get (answers v (journal_shut v qs p)) 0
      ≡ Some (0, (shut_entry v p).1)
  shut_answered v qs from none =
      rw (answers_split v v qs, no_answers p.kept none)
      (ap (λ b. slice_get (map (λ (e : Entry). (e.0.number, e.1))
      (cond b (shut_entry v p ∷ filter (λ (e : Entry). e.0.thread == v) (lost qs p))
      (filter (λ (e : Entry). e.0.thread == v) (lost qs p)))) 0) (eq-eqb v v refl))
    where
      no_answers : (es : List Entry) → of_thread v (requests es) ≡ [] → answers v es ≡ []
      no_answers [] e = refl
      no_answers (x ∷ es) e = elim (cases_eq x.0.thread v) [
        | inl same ↦ absurd
            (let shown : x.0 ∷ of_thread v (requests es) ≡ [] =
            sym (ap (λ b. cond b (x.0 ∷ of_thread v (requests es)) (of_thread v (requests es)))
            (eq-eqb x.0.thread v same)) ∙ e in cc)
        | inr differs ↦
            let skip = ne_eqb x.0.thread v differs in
            ap (λ b. map (λ (e : Entry). (e.0.number, e.1))
            (cond b (x ∷ filter (λ (e : Entry). e.0.thread == v) es) (filter (λ (e : Entry). e.0.thread == v) es)))
            skip
            ∙ no_answers es
            (sym (ap (λ b. cond b (x.0 ∷ of_thread v (requests es)) (of_thread v (requests es))) skip) ∙ e)
      ]
