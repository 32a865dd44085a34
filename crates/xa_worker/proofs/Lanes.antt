-- Lanes of completions, place by place, and what was taken of each sender.
use Rattle.xa_base.proofs.{map-alike, arith, ◌≡◌, ℕ, ◌<◌, ◌==◌, Bool, cond, List, [], ◌∷◌, ◌++◌, length, map, refl, sym}
use Rattle.xa_base.proofs.{ap, ◌∙◌, eq-eqb, ne_eqb, append-nil, append_assoc, length-map, eqb_tells, ◌+◌, inl, inr}
use Rattle.xa_words.specs.{Completion, Request}
use Rattle.xa_lane.specs.{at_place, with_item, with_full, but_full, bare, sent_at, left_of}
use Rattle.xa_lane.proofs.Parcels.{map-at_place, sent_at-item, sent_at-other, sent_at-full, left_is}
use Rattle.xa_worker.specs.{Addressed, Answering, AnswersOrWaits, FindsFull, Flushes, SameLanes, SendsFirst}
use Rattle.xa_worker.specs.{first_found_full, put_to, sent_each, waiting_at, with_waiting, Entry, requests}
use Rattle.xa_worker.specs.{of_sender_thread, of_own_thread, Served, IsServed, IsOrdered}
use Rattle.xa_worker.specs.Outgoing.{Outgoing}
use Rattle.xa_tables.specs.{of_thread}

-- ---- lanes of completions, place by place

-- numbers that are equal together are tested alike
pub same_eqb : (a b c d : ℕ) → (a ≡ b → c ≡ d) → (c ≡ d → a ≡ b) → (a == b) ≡ (c == d)
same_eqb a b c d f g = search (arith, eq-eqb, ne_eqb, eqb_tells)

-- what was sent on each lane
abbrev nothing : List Completion
nothing = []

-- the lanes are the same
lanes-item : (ss : List Answering) (i : ℕ) (c : Completion) → SameLanes ss (at_place i (with_item c) ss)
lanes-item ss i c = map-at_place (with_item c) bare (λ s. refl) i ss

lanes-full : (ss : List Answering) (i : ℕ) → SameLanes ss (at_place i with_full ss)
lanes-full ss i = map-at_place with_full bare (λ s. refl) i ss

pub length-lanes : (ss ts : List Answering) → SameLanes ss ts → length ts ≡ length ss
length-lanes ss ts e = sym (length-map ts bare) ∙ ap length e ∙ length-map ss bare

-- ---- those that wait

waiting_at-append : (k : ℕ) (xs ys : List Addressed) → waiting_at k (xs ++ ys) ≡ waiting_at k xs ++ waiting_at k ys
waiting_at-append k [] ys = refl
waiting_at-append k (p ∷ xs) ys = search (arith, waiting_at-append k xs ys)

-- one more waits
put-waits : (o : Outgoing) (i : ℕ) (c : Completion) (k : ℕ)
    → put_to k (with_waiting i c o) ≡ put_to k o ++ cond (i == k) (c ∷ []) nothing
put-waits o i c k =
    ap (λ xs. sent_at k o.senders ++ xs) (waiting_at-append k o.waiting ((i, c) ∷ []))
    ∙ sym (append_assoc (sent_at k o.senders) (waiting_at k o.waiting) (cond (i == k) (c ∷ []) nothing))

-- the first was sent
sent-first : (k : ℕ) (ss : List Answering) (p : Addressed) (rest : List Completion) → p.0 < length ss
    → sent_at k (at_place p.0 (with_item p.1) ss) ++ rest ≡ sent_at k ss ++ cond (p.0 == k) (p.1 ∷ rest) rest
sent-first k ss p rest h = search (arith, append_assoc, sent_at-item, sent_at-other, eqb_tells)

pub put-first : (k : ℕ) (o o' : Outgoing) (f : SendsFirst o o') → f.first.0 < length o.senders
    → put_to k o' ≡ put_to k o
put-first k o o' f h =
    ap (λ ss. sent_at k ss ++ waiting_at k o'.waiting) f.senders
    ∙ sent-first k o.senders f.first (waiting_at k o'.waiting) h
    ∙ ap (λ ps. sent_at k o.senders ++ waiting_at k ps) (sym f.waits)

-- ---- a flush

-- so far these were sent, and no lane was full
pub record HasSent (o o' : Outgoing) : Type 0 where
  pub sent : List Addressed
  pub waits : o.waiting ≡ sent ++ o'.waiting
  pub senders : o'.senders ≡ sent_each sent o.senders

each-more : (ps : List Addressed) (p : Addressed) (ss : List Answering)
    → sent_each (ps ++ p ∷ []) ss ≡ at_place p.0 (with_item p.1) (sent_each ps ss)
each-more [] p ss = refl
each-more (q ∷ ps) p ss = each-more ps p (at_place q.0 (with_item q.1) ss)

pub sent_more : (o m o' : Outgoing) → HasSent o m → SendsFirst m o' → HasSent o o'
sent_more o m o' s f = record {
  sent = s.sent ++ f.first ∷ [];
  waits = s.waits ∙ ap (λ ps. s.sent ++ ps) f.waits ∙ sym (append_assoc s.sent (f.first ∷ []) o'.waiting);
  senders = f.senders ∙ ap (at_place f.first.0 (with_item f.first.1)) s.senders
      ∙ sym (each-more s.sent f.first o.senders);
}

-- the lanes stay the same
lanes-each : (ps : List Addressed) (ss : List Answering) → SameLanes ss (sent_each ps ss)
lanes-each [] ss = refl
lanes-each (p ∷ ps) ss = lanes-each ps (at_place p.0 (with_item p.1) ss) ∙ lanes-item ss p.0 p.1

lanes-found : (ps : List Addressed) (ss : List Answering) → SameLanes ss (first_found_full ps ss)
lanes-found [] ss = refl
lanes-found (p ∷ ps) ss = lanes-full ss p.0

pub lanes-flushes : (o o' : Outgoing) → Flushes o o' → SameLanes o.senders o'.senders
lanes-flushes o o' f =
    ap (map bare) f.senders ∙ lanes-found o'.waiting (sent_each f.sent o.senders) ∙ lanes-each f.sent o.senders

-- ---- an answer

put-sent : (o : Outgoing) (i : ℕ) (c : Completion) (k : ℕ) → o.waiting ≡ [] → i < length o.senders
    → put_to k (record o { senders = at_place i (with_item c) o.senders }) ≡ put_to k o ++ cond (i == k) (c ∷ [])
    nothing
put-sent o i c k none h =
    ap (λ ps. sent_at k (at_place i (with_item c) o.senders) ++ waiting_at k ps) none
    ∙ sent-first k o.senders (i, c) nothing h
    ∙ ap (λ xs. xs ++ cond (i == k) (c ∷ []) nothing)
    (sym (append-nil (sent_at k o.senders)) ∙ ap (λ ps. sent_at k o.senders ++ waiting_at k ps) (sym none))

pub put-answers : (b : Bool) (o : Outgoing) (i : ℕ) (c : Completion) (o' : Outgoing) → i < length o.senders
    → AnswersOrWaits b o i c o' → (k : ℕ)
    → put_to k o' ≡ put_to k o ++ cond (i == k) (c ∷ []) nothing
put-answers b o i c o' h (inl (free, none, inl sent)) k = ap (put_to k) sent ∙ put-sent o i c k none h
put-answers b o i c o' h (inl (free, none, inr full)) k =
    ap (put_to k) full ∙ put-waits (record o { senders = at_place i with_full o.senders }) i c k
    ∙ ap (λ xs. (xs ++ waiting_at k o.waiting) ++ cond (i == k) (c ∷ []) nothing) (sent_at-full k i o.senders)
put-answers b o i c o' h (inr (why, waits)) k = ap (put_to k) waits ∙ put-waits o i c k

pub lanes-answers : (b : Bool) (o : Outgoing) (i : ℕ) (c : Completion) (o' : Outgoing) → AnswersOrWaits b o i c o'
    → SameLanes o.senders o'.senders
lanes-answers b o i c o' (inl (free, none, inl sent)) =
    ap (λ (x : Outgoing). map bare x.senders) sent ∙ lanes-item o.senders i c
lanes-answers b o i c o' (inl (free, none, inr full)) =
    ap (λ (x : Outgoing). map bare x.senders) full ∙ lanes-full o.senders i
lanes-answers b o i c o' (inr (why, waits)) = ap (λ (x : Outgoing). map bare x.senders) waits

-- ---- lanes whose ends were put

pub lanes_alike : (ss ts : List Answering) → map but_full ts ≡ map but_full ss → SameLanes ss ts
lanes_alike ss ts e = map-alike but_full bare (λ s. refl) ts ss e

-- ---- of each thread: what the journal has, and what was taken of its sender

left_numbered : (s : ℕ) (xs : List (ℕ × Request)) → left_of (s + 1) (map of_sender_thread xs) ≡ left_of s xs
left_numbered s [] = refl
left_numbered s (x ∷ xs) = search (arith, left_numbered s xs, same_eqb, x.0)

left_threaded : (t : ℕ) (journal : List Entry) → left_of t (map of_own_thread journal) ≡ of_thread t (requests journal)
left_threaded t [] = refl
left_threaded t (e ∷ journal) = ap (λ l. cond (e.0.thread == t) (e.0 ∷ l) l) (left_threaded t journal)

pub ordered : (d : Served) → IsServed d → IsOrdered d
ordered d h s = search (arith, left_threaded, left_numbered, left_is)
