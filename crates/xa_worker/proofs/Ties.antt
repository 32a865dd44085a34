-- What each kind of step keeps of a worker: its journal, its lanes, its seat and its pace.
use Rattle.xa_base.proofs.{map-alike, arith, ◌≡◌, ℕ, ◌==◌, true, false, cond, List, [], ◌∷◌, ◌++◌, map, refl, sym, ap}
use Rattle.xa_base.proofs.{◌∙◌, map-append, filter-append, ◌+◌, ◌<◌, Bool, ◌||◌, length, get_or, Option, Some, None}
use Rattle.xa_base.proofs.{set, or-false, or-true, append-nil, get_or-set_same, get_or-set_other, eqb_tells}
use Rattle.xa_base.proofs.{append_assoc, rules, ◌-◌, length-map, inl, inr}
use Rattle.xa_lane.proofs.Parcels.{sent_at-but_full, of_sender-append, items_in-append, nothing_sent}
use Rattle.xa_words.specs.{Request, Completion}
use Rattle.xa_tables.specs.{Tables, next, codes, tables_after, History, Managed}
use Rattle.xa_worker.specs.{Entry, entry_next, tables_next, Follows, completion_of, owed, requests_taken}
use Rattle.xa_worker.specs.{of_sender_thread, IsTiedWorker, working_of, IsWorker, Inside, Answering, WorkerView}
use Rattle.xa_worker.specs.{SameWorker, Served, SameServed, seat_of_worker, seat_of_done, IsToldInOrder, Paces}
use Rattle.xa_worker.specs.{after_request, SameLanes, AnswersOrWaits, Takes, put_to, RequestLane, IsUnfit}
use Rattle.xa_worker.specs.{IsFinishedWorker, Extends, of_own_thread, in_hand, new_worker, WorkerStep, Did, Late}
use Rattle.xa_worker.specs.{EndSeen, Empty, Blocked, EntersOne, Stepped, step_of, served, IsServed}
use Rattle.xa_lane.specs.{Parcel, Receiving, Took, taken_of, parcel, has_mark, has_ended, items_in, Item, EndOf}
use Rattle.xa_lane.specs.{Empty as Nothing, but_full}
use Rattle.xa_worker.specs.Outgoing.{Outgoing}
use Rattle.xa_worker.proofs.Lanes.{same_eqb, length-lanes, lanes-answers, put-answers}

-- ---- journals that grow by an entry

codes-more : (h : History) (r : Request) (T : Tables)
    → codes (h ++ r ∷ []) T ≡ codes h T ++ (entry_next r (tables_after h T)).1 ∷ []
codes-more [] r T = refl
codes-more (x ∷ h) r T = ap (λ cs. (next x.thread x.op T).1 ∷ cs) (codes-more h r (next x.thread x.op T).0)

tables-more : (h : History) (r : Request) (T : Tables) → tables_after (h ++ r ∷ []) T ≡ tables_next r (tables_after h T)
tables-more [] r T = refl
tables-more (x ∷ h) r T = tables-more h r (next x.thread x.op T).0

-- one more request, with the code and the tables that come next
pub follows_more : (first : Tables) (journal after : List Entry) (now then : Tables) (r : Request)
    → after ≡ journal ++ entry_next r now ∷ []
    → then ≡ tables_next r now → Follows first journal now → Follows first after then
follows_more first journal after now then r e n f = search (arith, map-append, codes-more, tables-more)

-- one more answer
pub owed-more : (m t : ℕ) (journal : List Entry) (e : Entry)
    → owed m t (journal ++ e ∷ []) ≡ owed m t journal ++ cond (e.0.thread == t) (completion_of m e ∷ []) []
owed-more m t journal e = search (arith, filter-append, map-append)

-- ---- what was taken of a lane, with one parcel more

module _ {T : Type 0} where
  -- what was taken of sender s, by what its parcel had
  pub took_as : (r r' : Receiving T) (s : ℕ) (item known : Option T) → item ≡ known → Took r (taken_of s item) r'
      → Took r (taken_of s known) r'
  took_as r r' s item known is took = rw is at took

  has_mark-append : (xs ys : List (Option T)) → has_mark (xs ++ ys) ≡ (has_mark xs || has_mark ys)
  has_mark-append [] ys = refl
  has_mark-append (Some y ∷ xs) ys = has_mark-append xs ys
  has_mark-append (None ∷ xs) ys = refl

  -- an item ends nobody
  pub ended_item : (p s : ℕ) (taken : List (Parcel T)) (x : T)
      → has_ended p (taken ++ parcel s (Some x) ∷ []) ≡ has_ended p taken
  ended_item p s taken x = search (arith, of_sender-append, has_mark-append, or-false)

  -- the flags of the senders, one more set
  pub marked_end : (marks : List Bool) (taken : List (Parcel T)) (s : ℕ) → length marks ≡ 8 → s < 8
      → ((i : ℕ) → i < 8 → get_or marks i false ≡ has_ended i taken)
      → (i : ℕ) → i < 8 → get_or (set marks s true) i false ≡ has_ended i (taken ++ parcel s None ∷ [])
  marked_end marks taken s eight below were i h =
      search (arith, get_or-set_same, of_sender-append, has_mark-append, or-true, get_or-set_other, or-false, eqb_tells)

pub asked_item : (taken : List (Parcel Request)) (s : ℕ) (r : Request)
    → requests_taken (taken ++ parcel s (Some r) ∷ []) ≡ requests_taken taken ++ (s + 1, r) ∷ []
asked_item taken s r =
    ap (map of_sender_thread) (items_in-append taken (parcel s (Some r) ∷ []))
    ∙ map-append of_sender_thread (items_in taken) ((s, r) ∷ [])

-- ---- the parts of a worker after a step

-- nothing was entered, and no end mark was taken
pub unentered : (w w' : Inside) → IsWorker w → w'.journal ≡ w.journal → w'.manager ≡ w.manager → w'.ended ≡ w.ended
    → w'.ends ≡ w.ends
    → ((s : ℕ) → has_ended s w'.receiver.taken ≡ has_ended s w.receiver.taken) → IsTiedWorker (working_of w')
    → IsWorker w'
unentered w w' i journal manager ended ends taken tied = search (arith, i.ended)

-- ---- workers keep their seats

pub stepped_keeps : (w w' : WorkerView) → SameWorker w w' → seat_of_worker w' ≡ seat_of_worker w
stepped_keeps w w' h =
    search (arith, map-alike, w'.out.senders, w.out.senders, h.lanes, h.number, h.first, h.receiver.0, h.receiver.1)

pub served_keeps : (w : WorkerView) (d : Served) → SameServed w d → seat_of_done d ≡ seat_of_worker w
served_keeps w d h =
    search (arith, map-alike, d.ends, w.out.senders, h.lanes, h.number, h.first, h.receiver.0, h.receiver.1)

-- ---- what a pace is told

module _ {P : Type 0} (by : Request → P → P → Type 0) where
  -- a journal that stays tells it of nothing
  pub unpaced : (journal journal' : List Entry) (p : P) → journal' ≡ journal → Paces by journal journal' p p
  unpaced journal journal' p same = record { entered = []; grown = same ∙ sym (append-nil journal); told = refl }

  -- the requests of two stretches one after another
  told_on : (rs ss : History) (a b c : P) → IsToldInOrder by rs a b → IsToldInOrder by ss b c
      → IsToldInOrder by (rs ++ ss) a c
  told_on [] ss a b c first then_ = rw first at then_
  told_on (r ∷ rs) ss a b c first then_ = (first.0, first.1, told_on rs ss first.0 b c first.2 then_)

  pub paces_on : (i j k : List Entry) (a b c : P) → Paces by i j a b → Paces by j k b c → Paces by i k a c
  paces_on i j k a b c first then_ = search (arith, append_assoc, map-append, told_on, first.entered, first.told)

-- ---- what each kind of step keeps of a worker

pub tied_new : (number : ℕ) (manager : Managed) (receiver : RequestLane) (senders : List Answering)
    → receiver.senders ≡ manager.threads
    → length senders ≡ manager.threads → receiver.taken ≡ []
    → ((i : ℕ) (d : Answering) → i < length senders → (get_or senders i d).sent ≡ [])
    → IsTiedWorker (new_worker number manager receiver senders)
tied_new number manager receiver senders threads lanes taken none = search (arith, append-nil, nothing_sent)

module _ (w : WorkerView) (o : Outgoing) (same : SameLanes w.out.senders o.senders)
    (put : (k : ℕ) → put_to k o ≡ put_to k w.out) (t : IsTiedWorker w) where
  -- an earlier completion was sent, or still waits
  pub tied_out : IsTiedWorker (record w { out = o })
  tied_out = search (arith, length-lanes)

  module _ (r' : RequestLane) where
    pub tied_nothing : Took w.receiver Nothing r' → IsTiedWorker (record w { receiver = r'; out = o })
    tied_nothing took = search (arith, length-lanes)

    pub tied_end : (s : ℕ) → Took w.receiver (EndOf s) r' → IsTiedWorker (record w { receiver = r'; out = o })
    tied_end s took = search (arith, items_in-append, append-nil, length-lanes)

    module _ (s : ℕ) (r : Request) (none : w.held ≡ None) (took : Took w.receiver (Item s r) r') where
      before : requests_taken w.receiver.taken ≡ map of_own_thread w.journal
      before =
          t.taken ∙ ap (λ h. map of_own_thread w.journal ++ in_hand h) none ∙ append-nil (map of_own_thread w.journal)

      after : requests_taken r'.taken ≡ map of_own_thread w.journal ++ (s + 1, r) ∷ []
      after =
          ap (λ (x : RequestLane). requests_taken x.taken) took.1 ∙ asked_item w.receiver.taken s r
          ∙ ap (λ xs. xs ++ (s + 1, r) ∷ []) before

      pub tied_hold : IsUnfit s r w.manager.room
          → IsTiedWorker (record w { receiver = r'; out = o; held = Some (s, r) })
      tied_hold unfit = search (arith, after, length-lanes)

      pub tied_enter : (m : Managed) (p : Outgoing) (journal : List Entry) → r.thread ≡ s + 1
          → m ≡ after_request r w.manager
          → journal ≡ w.journal ++ entry_next r w.manager.tables ∷ [] → SameLanes o.senders p.senders
          → ((k : ℕ)
          → put_to k p ≡ put_to k o ++ cond ((r.thread - 1) == k)
          (completion_of w.number (entry_next r w.manager.tables) ∷ []) [])
          → IsTiedWorker (record w { manager = m; receiver = r'; out = p; journal = journal })
      tied_enter m p journal thread carried entered lanes more =
          let e : Entry = entry_next r w.manager.tables in
          let c : Completion = completion_of w.number e in
          let threads : m.threads ≡ w.manager.threads = ap (λ (x : Managed). x.threads) carried in
          record {
            follows = follows_more w.first w.journal journal w.manager.tables m.tables r entered
                (ap (λ (x : Managed). x.tables) carried) t.follows;
            taken =
                after ∙ ap (λ n. map of_own_thread w.journal ++ (n, r) ∷ []) (sym thread)
                ∙ sym (map-append of_own_thread w.journal (e ∷ []))
                ∙ ap (map of_own_thread) (sym entered)
                ∙ sym (append-nil (map of_own_thread journal))
                ∙ ap (λ h. map of_own_thread journal ++ in_hand h) (sym none);
            sent = λ k. more k ∙ ap (λ xs. xs ++ cond ((r.thread - 1) == k) (c ∷ []) []) (put k ∙ t.sent k)
                ∙ ap (λ b. owed w.number (k + 1) w.journal ++ cond b (c ∷ []) [])
                (same_eqb (r.thread - 1) k r.thread (k + 1) (λ q. omega (arith, thread)) (λ q. omega (arith, thread)))
                ∙ sym (owed-more w.number (k + 1) w.journal e) ∙ ap (owed w.number (k + 1)) (sym entered);
            held = rw none tt;
            senders = ap (λ (x : RequestLane). x.senders) took.1 ∙ t.senders ∙ sym threads;
            lanes = length-lanes o.senders p.senders lanes ∙ length-lanes w.out.senders o.senders same ∙ t.lanes
                ∙ sym threads;
          }

-- a request was taken and carried out
pub tied_carried : (b : Bool) (w : WorkerView) (r' : RequestLane) (s : ℕ) (r : Request) (m : Managed) (p : Outgoing)
    (journal : List Entry)
    → IsTiedWorker w
    → w.held ≡ None → Took w.receiver (Item s r) r' → r.thread ≡ s + 1 → m ≡ after_request r w.manager
    → journal ≡ w.journal ++ entry_next r w.manager.tables ∷ []
    → AnswersOrWaits b w.out (r.thread - 1) (completion_of w.number (entry_next r w.manager.tables)) p
    → IsTiedWorker (record w { manager = m; receiver = r'; out = p; journal = journal })
tied_carried b w r' s r m p journal t none took thread carried entered answers =
    let place : r.thread - 1 < length w.out.senders = omega (arith, t.lanes, t.senders, took.0, thread) in
    tied_enter w w.out refl (λ k. refl) t r' s r none took m p journal thread carried entered
    (lanes-answers b _ _ _ p answers) (put-answers b _ _ _ p place answers)

-- a worker that has finished, and has put its end marks
pub served_by : (w : WorkerView) (ends : List Answering) → IsTiedWorker w → IsFinishedWorker w
    → map but_full ends ≡ map but_full w.out.senders
    → IsServed (served w.number w.first w.manager w.receiver ends w.journal)
served_by w ends t f e = search (arith, append-nil, sent_at-but_full, length-map, w.out.senders, t.sent)

-- a request is late where the manager was shut before it
pub takes_one : (owing : Bool) (w w' : WorkerView) (b : Bool) → w.manager.tables.shut ≡ b → EntersOne owing w w'
    → Takes owing w (step_of b) w'
takes_one owing w w' true e n = (n, e)
takes_one owing w w' false e n = (n, e)

-- steps follow one another
pub same-chain : (u v w : WorkerView) → SameWorker u v → SameWorker v w → SameWorker u w
same-chain u v w a b = search (arith, rules)

pub extends-chain : (i j k : List Entry) → Extends i j → Extends j k → Extends i k
extends-chain i j k a b = (a.0 ++ b.0, b.1 ∙ ap (λ es. es ++ b.0) a.1 ∙ append_assoc i a.0 b.0)

stays : (w w' : WorkerView) → w'.journal ≡ w.journal → Extends w.journal w'.journal
stays w w' e = ([], e ∙ sym (append-nil w.journal))

-- each step leaves the journal or adds to it
pub takes-extends : (owing : Bool) (w : WorkerView) (s : WorkerStep) (w' : WorkerView) → Takes owing w s w'
    → Extends w.journal w'.journal
takes-extends owing w Did w' h = (entry_next h.0.1 w.manager.tables ∷ [], h.0.2.journal)
takes-extends owing w Late w' h = (entry_next h.0.1 w.manager.tables ∷ [], h.0.2.journal)
takes-extends owing w EndSeen w' h = stays w w' (ap (λ (x : WorkerView). x.journal) h.3)
takes-extends owing w Empty w' h = stays w w' (ap (λ (x : WorkerView). x.journal) h.3)
takes-extends owing w Blocked w' h = stays w w' (ap (λ (x : WorkerView). x.journal) h.5)

pub stepped-extends : (owed_before owing : Bool) (w : WorkerView) (s : WorkerStep) (w' : WorkerView)
    → Stepped owed_before owing w s w' → Extends w.journal w'.journal
stepped-extends owed_before owing w s w' (inl (blocked, i)) = stays w w' (ap (λ (x : WorkerView). x.journal) i.rest)
stepped-extends owed_before owing w s w' (inr (o, offers, takes)) =
    takes-extends owing (record w { out = o }) s w' takes
