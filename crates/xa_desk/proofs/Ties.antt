-- A desk's ledgers go on saying what its ends of lanes do, and which calls it doesn't refuse.
use Rattle.xa_desk.specs.{after_sent, Operation, new_ledger, with_sent, with_collected, IsKnown, ledger}
use Rattle.xa_desk.specs.{after_collected, drained_code, next_request, submitted, after_full, after_fulls, numbered}
use Rattle.xa_desk.specs.{arrived, nothing, IsEndTo, AreEnds, WasDrained, IsTied, IsDesk, PartsView, AreUnused}
use Rattle.xa_desk.specs.{new_desk, LedgerView, DeskView, outstanding, reach_refusal, spent_refusal, room_refusal}
use Rattle.xa_desk.specs.{call_refusal}
use Rattle.xa_desk.proofs.Looks.{looks_move}
use Rattle.xa_desk.proofs.Books.{drained_on, fresh_sent, fresh_collected}
use Rattle.xa_base.proofs.{◌≡◌, ◌≢◌, ℕ, zero, suc, ◌+◌, ◌-◌, ◌<◌, List, [], ◌∷◌, ◌++◌, length, map, Option, Some, None}
use Rattle.xa_base.proofs.{sym, refl, ap, ◌∙◌, inl, inr, arith, All, slice_get, length-map, All-append, All-cons}
use Rattle.xa_base.proofs.{All-nil, cases_eq, ◌≤◌, Bool, false, cond, option_or, not-false, and_parts, leb-true}
use Rattle.xa_base.proofs.{leb-false}
use Rattle.xa_words.specs.{Op, Request, Completion, Code}
use Rattle.xa_lane.specs.{Sending, Receiving, at_place, with_item, with_full, but_full, sent_at}
use Rattle.xa_desk.specs.Looks.{Looks}
use Rattle.xa_desk.proofs.Ledgers.{same_operation, ledger-sent_same, ledger-sent_other, ledger-collected_same}
use Rattle.xa_desk.proofs.Ledgers.{ledger-collected_other, known_before, collected_known, collected_sends}
use Rattle.xa_desk.proofs.Ledgers.{length-put_ledger, put_same}
use Rattle.xa_lane.proofs.Parcels.{length-at_place, at_place_cases, sent_at-full, sent_at-item, sent_at-other}
use Rattle.xa_lane.proofs.Parcels.{sent_at-but_full, nothing_sent}

-- ---- what was taken

pub tied_looks : (old new : DeskView) → Looks old new → IsDesk old → IsDesk new
tied_looks old new l b =
    let m = looks_move old new l in
    rw l.rest (record {
      ends = record { number = b.ends.number; to = b.ends.to; lane = b.ends.lane; senders = b.ends.senders };
      sent = b.sent;
      drained_ = m.part b.drained_;
      collected = λ k known p d below. drained_on old.drained new.drained m.drained _ _ (b.collected k known p d below);
    })

-- ---- what was collected

pub tied_collected : (d : DeskView) (o : Operation) (code : Code) → IsKnown d.ledgers o.manager
    → drained_code o d.drained ≡ Some code → IsDesk d
    → IsTied d.thread (after_collected d.ledgers o code) d.drained d.requests d.completions
tied_collected d o code known was b = let at = d.ledgers in record {
  ends = record {
    number = b.ends.number ∙ sym same;
    to = b.ends.to;
    lane = b.ends.lane;
    senders = b.ends.senders
        ∙ sym same;
  };
  sent = λ m is. b.sent m (collected_known at o code known m is)
      ∙ ap (numbered d.thread 0) (sym (collected_sends at o code known m));
  drained_ = b.drained_;
  collected = λ m is. let before = collected_known at o code known m is in elim (cases_eq m o.manager) [
    | inl here ↦
        let more : All (WasDrained d.drained m) ((ledger at m).collected ++ (o.number, code) ∷ []) =
        All-append (WasDrained d.drained m) (ledger at m).collected ((o.number, code) ∷ []) (b.collected m before)
        (All-cons (WasDrained d.drained m) (o.number, code) []
        (ap (λ p. drained_code p d.drained) (same_operation (record { manager = m; number = o.number }) o here refl)
        ∙ was) (All-nil (WasDrained d.drained m))) in
        rw (ledger-collected_same at o code known m here) more
    | inr apart ↦ rw (ledger-collected_other at o code known m before.positive apart) (b.collected m before)
  ];
}
  where
    same : length (after_collected d.ledgers o code) ≡ length d.ledgers
    same = length-put_ledger d.ledgers o.manager (with_collected (ledger d.ledgers o.manager) o.number code)

-- ---- what was sent

abbrev request_at : ℕ → ℕ → Op → Request
request_at t k op = record { thread = t; number = k; op = op }

numbered-append : (t n : ℕ) (ops : List Op) (op : Op)
    → numbered t n (ops ++ op ∷ []) ≡ numbered t n ops ++ request_at t (n + length ops) op ∷ []
numbered-append t n [] op = ap (λ k. request_at t k op ∷ []) (let from : n ≡ n + 0 = omega arith in from)
numbered-append t n (o ∷ ops) op =
    ap (λ l. request_at t n o ∷ l)
    (numbered-append t (suc n) ops op
    ∙ ap (λ k. numbered t (suc n) ops ++ request_at t k op ∷ [])
    (let from : suc n + length ops ≡ n + suc (length ops) = omega arith in from))

-- the end of the lane to a manager is one of the ends
pub lane_within : {at : List LedgerView} {m n : ℕ} → IsKnown at m → n ≡ length at → m - 1 < n
lane_within known e = omega (arith, known.positive, known.within)

pub ends_changed : (t n k : ℕ) (f : Sending Request → Sending Request) (requests : List (Sending Request))
    (r : Receiving Completion)
    → ((opening m : ℕ) (s : Sending Request) → IsEndTo t opening m s → IsEndTo t opening m (f s))
    → AreEnds t n requests r
    → AreEnds t n (at_place k f requests) r
ends_changed t n k f requests r keeps b = search (arith, length-at_place, at_place_cases, r.lane.opening, b.to)

item_keeps : (t : ℕ) (x : Request) (opening m : ℕ) (s : Sending Request) → IsEndTo t opening m s
    → IsEndTo t opening m (with_item x s)
item_keeps t x opening m s e = record { sender = e.sender; opening_ = e.opening_; lane = e.lane }

full_keeps : (t opening m : ℕ) (s : Sending Request) → IsEndTo t opening m s → IsEndTo t opening m (with_full s)
full_keeps t opening m s e = record { sender = e.sender; opening_ = e.opening_; lane = e.lane }

pub tied_submitted : (d : DeskView) (m : ℕ) (op : Op) → IsKnown d.ledgers m → IsDesk d → IsDesk (submitted d m op)
tied_submitted d m op known b = let at = d.ledgers in let x = next_request d m op in record {
  ends = rw (length-put_ledger at m (with_sent (ledger at m) op))
      (ends_changed d.thread (length at) (m - 1) (with_item x) d.requests d.completions (item_keeps d.thread x) b.ends);
  sent = λ q is. each_sent q (known_before at m q (with_sent (ledger at m) op) is);
  drained_ = b.drained_;
  collected = λ q is. rw (put_same (λ a. a.collected) at m (with_sent (ledger at m) op) refl q)
      (b.collected q (known_before at m q (with_sent (ledger at m) op) is));
}
  where
    not_here : (q : ℕ) → IsKnown d.ledgers q → q ≢ m → q - 1 ≢ m - 1
    not_here q was differs e = let p = known.positive in let w = was.positive in differs (omega arith)

    each_sent : (q : ℕ) → IsKnown d.ledgers q
        → sent_at (q - 1) (at_place (m - 1) (with_item (next_request d m op)) d.requests) ≡ numbered d.thread 0
        (ledger (after_sent d.ledgers m op) q).sent
    each_sent q was =
        grind (
          arith,
          cases_eq,
          (sent_at-item (m - 1) (next_request d m op) d.requests (lane_within known b.ends.number)),
          (sent_at-other (q - 1) (m - 1) (next_request d m op) d.requests),
          (not_here q was),
          (b.sent q was),
          (b.sent m known),
          (numbered-append d.thread 0 (ledger d.ledgers m).sent op),
          (ledger-sent_same d.ledgers m op known q),
          (ledger-sent_other d.ledgers m op known q was.positive),
        )

pub tied_full : (d : DeskView) (m : ℕ) → IsDesk d → IsDesk (after_full d m)
tied_full d m b = search (arith, ends_changed, full_keeps, sent_at-full, d.completions, b.sent)

pub tied_fulls : (n : ℕ) (d : DeskView) (m : ℕ) → IsDesk d → IsDesk (after_fulls n d m)
tied_fulls zero d m b = b
tied_fulls (suc n) d m b = tied_full (after_fulls n d m) m (tied_fulls n d m b)

-- full lanes leave the rest of a desk
pub record AreAlike (d d' : DeskView) : Type 0 where
  pub ledgers : d'.ledgers ≡ d.ledgers
  pub handles : d'.handles ≡ d.handles
  pub requests : length d'.requests ≡ length d.requests

fulls_are_alike : (n : ℕ) (d : DeskView) (m : ℕ) → AreAlike d (after_fulls n d m)
fulls_are_alike zero d m = record { ledgers = refl; handles = refl; requests = refl }
fulls_are_alike (suc n) d m = search (arith, fulls_are_alike n d m, length-at_place)

pub fulls_alike : (n : ℕ) (d d' : DeskView) (m : ℕ) → d' ≡ after_fulls n d m → AreAlike d d'
fulls_alike n d d' m e = rw e (fulls_are_alike n d m)

-- ---- the end, and the beginning

abbrev bared : Option (Sending Request) → Option (Sending Request)
bared None = None
bared (Some s) = Some (but_full s)

-- ends that differ in their full moments alone are tied alike
pub tied_ended : (t : ℕ) (at : List LedgerView) (drained : List Completion) (es ds : List (Sending Request))
    (r : Receiving Completion)
    → map but_full es ≡ map but_full ds → IsTied t at drained ds r → IsTied t at drained es r
tied_ended t at drained es ds r same b = record {
  ends = record {
    number = sym (length-map es but_full) ∙ ap length same ∙ length-map ds but_full ∙ b.ends.number;
    to = λ k e found. from k e (slice_get ds k) refl found;
    lane = b.ends.lane;
    senders = b.ends.senders;
  };
  sent = λ m known. sym (sent_at-but_full (m - 1) es) ∙ ap (sent_at (m - 1)) same ∙ sent_at-but_full (m - 1) ds
      ∙ b.sent m known;
  drained_ = b.drained_;
  collected = b.collected;
}
  where
    bared-get : (xs : List (Sending Request)) (k : ℕ) → slice_get (map but_full xs) k ≡ bared (slice_get xs k)
    bared-get [] k = refl
    bared-get (x ∷ xs) zero = refl
    bared-get (x ∷ xs) (suc k) = bared-get xs k

    alike : (k : ℕ) → bared (slice_get es k) ≡ bared (slice_get ds k)
    alike k = sym (bared-get es k) ∙ ap (λ l. slice_get l k) same ∙ bared-get ds k

    from : (k : ℕ) (e : Sending Request) (d : Option (Sending Request)) → slice_get ds k ≡ d → slice_get es k ≡ Some e
        → IsEndTo t r.lane.opening (k + 1) e
    from k e None there found =
        absurd (let no : Some (but_full e) ≡ None = sym (ap bared found) ∙ alike k ∙ ap bared there in cc)
    from k e (Some d) there found = search (arith, alike)

pub tied_new : (p : PartsView) (requests : List (Sending Request)) (r : Receiving Completion)
    → AreEnds p.thread (length p.use_async) requests r
    → AreUnused requests r → IsDesk (new_desk p requests r)
tied_new p requests r ends new = record {
  ends = rw (length-map p.use_async (λ carries. new_ledger carries p.plan)) ends;
  sent = λ m known. nothing_sent (m - 1) requests new.sent
      ∙ ap (numbered p.thread 0) (sym (fresh_sent p.plan p.use_async (m - 1)));
  drained_ = rw (ap arrived new.taken) nothing;
  collected = λ m known. rw (fresh_collected p.plan p.use_async (m - 1)) (All-nil (WasDrained [] m));
}

-- ---- which calls a desk doesn't refuse, and that a desk stays one

unless : {A : Type 0} (b : Bool) (x : A) (r : Option A) → None ≡ cond b (Some x) r → (b ≡ false) × (None ≡ r)
unless b x r e = grind arith

neither : {A : Type 0} (a b : Option A) → None ≡ option_or a b → (None ≡ a) × (None ≡ b)
neither a b e = grind arith

reaches : (d : DeskView) (m : ℕ) → None ≡ reach_refusal d m → IsKnown d.ledgers m
reaches d m e = grind (arith, unless, and_parts, not-false, leb-true)

pub call_known : (d : DeskView) (m : ℕ) → None ≡ call_refusal d m → IsKnown d.ledgers m
call_known d m e = reaches d m (neither (reach_refusal d m) (spent_refusal d m) e).0

-- what holds of every desk
abbrev pub Fits : DeskView → Type 0
Fits d = (outstanding d.ledgers ≤ d.handles) × IsDesk d

pub full_desk : (d d' : DeskView) (m : ℕ) → d' ≡ after_full d m → Fits d → Fits d'
full_desk d d' m e fits = rw e (fits.0, tied_full d m fits.1)

pub submitted_desk : (d d' : DeskView) (m : ℕ) (op : Op) → reach_refusal d m ≡ None → None ≡ room_refusal d m
    → outstanding d'.ledgers ≡ outstanding d.ledgers + 1 → d' ≡ submitted d m op → Fits d → Fits d'
submitted_desk d d' m op reached allowed more e fits =
    let free : outstanding d.ledgers < d.handles = grind (arith, neither, leb-false, unless) in (
      omega (arith, free, more, ap (λ (x : DeskView). x.handles) e),
      rw e
          (tied_submitted d m op (reaches d m (sym reached)) fits.1),
    )

-- the desk between a call's request and its completion
pub called_desk : (d d' : DeskView) (n m : ℕ) (op : Op) → None ≡ call_refusal d m
    → d' ≡ submitted (after_fulls n d m) m op → IsDesk d
    → IsDesk d' × (d'.handles ≡ d.handles)
called_desk d d' n m op allowed e tied =
    let alike = fulls_alike n d (after_fulls n d m) m refl in (
      rw e (tied_submitted (after_fulls n d m) m op (rw alike.ledgers (call_known d m allowed))
          (tied_fulls n d m tied)),
      ap (λ (x : DeskView). x.handles) e ∙ alike.handles,
    )
