-- Which requests were sent since, and what comes of a call and of collecting by a handle.
use Rattle.xa_base.proofs.{arith, ◌≡◌, ℕ, suc, Bool, false, ℤ, pos, List, [], ◌∷◌, ◌++◌, append_assoc, sym, refl, ap}
use Rattle.xa_base.proofs.{◌∙◌, Option, None, Some, append-nil, All-nil, All-cons, All-append, All-weaker, same_begins}
use Rattle.xa_base.proofs.{begins_on, ◌≢◌, ◌<◌, true, option_map, if◌then◌else◌, Result, Err, IfOk, w32, of_z, ◌==◌}
use Rattle.xa_base.proofs.{option_or, nat_cmp}
use Rattle.xa_words.specs.{Code, Op, Done, Async, Inval}
use Rattle.xa_desk.specs.{Operation, with_sent, with_collected, ledger, after_sent, after_collected, next_operation}
use Rattle.xa_desk.specs.{submitted, after_fulls, Collects, LedgerView, DeskView, Refused, NoSuchManager, IsHandle}
use Rattle.xa_desk.specs.{reach_refusal, submit_refusal, call_refusal}
use Rattle.xa_desk.proofs.Ledgers.{put_each}
use Rattle.xa_calls.specs.{Puts, code_of, async_refusal, put_refusal, CompletesAt, CompletesOne, HasCompleted}
use Rattle.xa_calls.specs.{WritesHandle, CollectsRedeemed, may_complete, number_in}
use Rattle.xa_calls.specs.Putting.Puts.{refused, full, kept, answered}
use Rattle.xa_calls.proofs.Kept.{fulls_ledgers}
use Rattle.xa_driver.specs.{asked}
use Rattle.xa_work.specs.{StaysSo, PutsOp, IsCollected, CollectsOp, done, nothing, after_called, HasSent, HaveSent}
use Rattle.xa_work.specs.{IsTurnedAway, IsNoHandle, CallsOp, called, failed, uncalled}
use Rattle.xa_work.specs.Requests.{undone}
use Rattle.xa_words.specs.CodeNumbers.{number_of}
use Rattle.xa_calls.specs.Completing.CompletesOne.{unknown, retry, ready, waited}

-- ---- one ledger

pub none_sent : (P : Op → Type 0) (a : LedgerView) → HasSent P a a
none_sent P a =
    record { more = []; sent = sym (append-nil a.sent); each = All-nil P; collected = same_begins a.collected }

pub sent_on : {P : Op → Type 0} {a b c : LedgerView} → HasSent P a b → HasSent P b c → HasSent P a c
sent_on {P} {a} {b} {c} p q = record {
  more = p.more ++ q.more;
  sent = q.sent ∙ ap (λ l. l ++ q.more) p.sent ∙ append_assoc a.sent p.more q.more;
  each = All-append P p.more q.more p.each q.each;
  collected = begins_on a.collected b.collected c.collected p.collected q.collected;
}

pub sent_as : {P Q : Op → Type 0} {a a' : LedgerView} → ((op : Op) → P op → Q op) → HasSent P a a' → HasSent Q a a'
sent_as {P} {Q} also h =
    record { more = h.more; sent = h.sent; each = All-weaker P Q also h.more h.each; collected = h.collected }

-- a request that was asked and answered, if there was one
pub asked_sent : (P : Op → Type 0) (a : LedgerView) (op : Option Op) (code : Option Code)
    → ((o : Op) → op ≡ Some o → P o) → HasSent P a (asked a op code)
asked_sent P a None code so = none_sent P a
asked_sent P a (Some op) None so = none_sent P a
asked_sent P a (Some op) (Some code) so = search (arith, none_sent, All-cons, All-nil)

-- ---- all ledgers

pub have_none : {P : Op → Type 0} (old new : List LedgerView) → new ≡ old → HaveSent P old new
have_none {P} old new same = rw same (λ m _. none_sent P (ledger old m))

pub have_on : {P : Op → Type 0} (old mid new : List LedgerView) → HaveSent P old mid → HaveSent P mid new
    → HaveSent P old new
have_on old mid new p q = λ m positive. sent_on (p m positive) (q m positive)

pub have_as : {P Q : Op → Type 0} → ((op : Op) → P op → Q op) → (old new : List LedgerView) → HaveSent P old new
    → HaveSent Q old new
have_as also old new h = λ m positive. sent_as also (h m positive)

pub one_sent : (P : Op → Type 0) (at : List LedgerView) (m : ℕ) (op : Op) → P op → HaveSent P at (after_sent at m op)
one_sent P at m op so = λ n _.
    put_each (HasSent P) (none_sent P) at m (with_sent (ledger at m) op)
    (record {
      more = op ∷ [];
      sent = refl;
      each = All-cons P op [] so (All-nil P);
      collected = same_begins (ledger at m).collected;
    }) n

pub one_collected : (P : Op → Type 0) (at : List LedgerView) (o : Operation) (c : Code)
    → HaveSent P at (after_collected at o c)
one_collected P at o c = λ n _.
    put_each (HasSent P) (none_sent P) at o.manager (with_collected (ledger at o.manager) o.number c)
    (record {
      more = [];
      sent = sym (append-nil (ledger at o.manager).sent);
      each = All-nil P;
      collected = ((o.number, c) ∷ [], refl);
    }) n

-- ---- calls

pub stayed : (P : Op → Type 0) (old new : DeskView) → StaysSo old new → HaveSent P old.ledgers new.ledgers
stayed P old new s = have_none old.ledgers new.ledgers s.ledgers

pub put_sent : (P : Op → Type 0) (m : ℕ) (op : Op) (z : ℤ) (old new : DeskView) → P op → PutsOp m op z old new
    → HaveSent P old.ledgers new.ledgers
put_sent P m op (pos (suc k)) old new so p = rw p.ledgers (one_sent P old.ledgers m op so)
put_sent P m op z old new so away = stayed P old new away.stays

pub got_sent : (P : Op → Type 0) (k : ℕ) (c : Code) (old new : DeskView) → IsCollected k c old new
    → HaveSent P old.ledgers new.ledgers
got_sent P k c old new i = rw i.ledgers (one_collected P old.ledgers i.operation c)

pub collect_sent : (P : Op → Type 0) (m : ℕ) (handle : ℤ) (ok : Bool) (old new : DeskView)
    → CollectsOp m handle ok old new → HaveSent P old.ledgers new.ledgers
collect_sent P m handle ok old new (done k is positive said i) = got_sent P k _ old new i
collect_sent P m handle ok old new (undone k c other is unsaid i) = got_sent P k c old new i
collect_sent P m handle ok old new (nothing unsaid none s) = stayed P old new s

-- what a synchronous call that was answered did to the ledgers
pub answered_ledgers : (m : ℕ) (op : Op) (n : ℕ) (c : Code) (old new : DeskView)
    → Collects (submitted (after_fulls n old m) m op) new (next_operation old.ledgers m) c
    → new.ledgers ≡ after_called old.ledgers m op c
answered_ledgers m op n c old new collects = grind (arith, fulls_ledgers)

pub call_adds : (P : Op → Type 0) (m : ℕ) (op : Op) (c : Code) (at : List LedgerView) → P op
    → HaveSent P at (after_called at m op c)
call_adds P m op c at so =
    have_on at (after_sent at m op) (after_called at m op c) (one_sent P at m op so)
    (one_collected P (after_sent at m op) (next_operation at m) c)

-- a synchronous call
pub call_sent : (P : Op → Type 0) (m : ℕ) (op : Op) (answer : ℤ) (old new : DeskView) → P op
    → Puts old m (record { op = op; asynchronous = false }) new answer
    → HaveSent P old.ledgers new.ledgers
call_sent P m op answer old new so (refused c why is same) =
    have_none old.ledgers new.ledgers (ap (λ (d : DeskView). d.ledgers) same)
call_sent P m op answer old new so (full none now is same) = cc
call_sent P m op answer old new so (kept none now k is free same) = cc
call_sent P m op answer old new so (answered none now n c is collects) =
    rw (answered_ledgers m op n c old new collects) (call_adds P m op c old.ledgers so)

-- ---- what comes of a call that its flags make asynchronous, and of collecting by its handle

stays : (old new : DeskView) → new ≡ old → StaysSo old new
stays old new same =
    record { ledgers = ap (λ (d : DeskView). d.ledgers) same; kept = ap (λ (d : DeskView). d.kept) same }

pub same_stays : (d : DeskView) → StaysSo d d
same_stays d = record { ledgers = refl; kept = refl }

-- an answer that is no handle
abbrev IsCode : ℤ → Type 0
IsCode z = (m : ℕ) (op : Op) (old new : DeskView) → IsTurnedAway m op z old new → PutsOp m op z old new

-- a reason of a desk is none
reason_is : (why : Refused) → IsCode (number_of (code_of why))
reason_is NoSuchManager = λ m op old new same. same
reason_is why = λ m op old new same. same

reason_of : (o : Option Refused) (c : Code) → option_map code_of o ≡ Some c → IsCode (number_of c)
reason_of None c e = cc
reason_of (Some why) c e = let same : code_of why ≡ c = cc in rw same at (reason_is why)

either : (a b : Option Code) (c : Code) → (a ≡ Some c → IsCode (number_of c)) → (b ≡ Some c → IsCode (number_of c))
    → option_or a b ≡ Some c
    → IsCode (number_of c)
either None b c one two e = two e
either (Some d) b c one two e = one e

refusal_is : (d : DeskView) (m : ℕ) (c : Code) → put_refusal d m true ≡ Some c → IsCode (number_of c)
refusal_is d m c =
    either (option_map code_of (reach_refusal d m))
    (option_or (async_refusal d m) (option_map code_of (submit_refusal d m))) c (reason_of (reach_refusal d m) c)
    (either (async_refusal d m) (option_map code_of (submit_refusal d m)) c
    (takes_none ((ledger d.ledgers m).carries_async)) (reason_of (submit_refusal d m) c))
  where
    takes_none : (b : Bool) → (if b then None else Some Async) ≡ Some c → IsCode (number_of c)
    takes_none true e = cc
    takes_none false e = let same : Async ≡ c = cc in rw (← same) (λ m op old new stay. stay)

no_handle : (m : ℕ) (op : Op) (answer : ℤ) (c : Code) (old new : DeskView) → answer ≡ number_of c → IsCode (number_of c)
    → StaysSo old new
    → Puts old m (record { op = op; asynchronous = true }) new answer → PutsOp m op answer old new
no_handle m op answer c old new is none same answered_ =
    let away : IsTurnedAway m op answer old new =
    record { last = old; waited = same_stays old; answered = answered_; stays = same } in
    rw is (none m op old new (rw is at away))

pub put_by : (m : ℕ) (op : Op) (answer : ℤ) (old new : DeskView)
    → Puts old m (record { op = op; asynchronous = true }) new answer → PutsOp m op answer old new
put_by m op answer old new (refused c why is same) =
    no_handle m op answer c old new is (refusal_is old m c why) (stays old new same) (refused c why is same)
put_by m op answer old new (full none now is same) =
    no_handle m op answer Async old new is (λ _ _ _ _ stay. stay)
    (record { ledgers = ap (λ (d : DeskView). d.ledgers) same; kept = ap (λ (d : DeskView). d.kept) same })
    (full none now is same)
put_by m op answer old new (kept none now k is free same) = search (arith, free.positive)
put_by m op answer old new (answered none now n c is collects) = cc

-- a call that answers XAER_ASYNC did nothing
pub full_stays : (m : ℕ) (op : Op) (answer : ℤ) (old new : DeskView) → answer ≡ number_of Async
    → PutsOp m op answer old new → StaysSo old new
full_stays m op answer old new is p = search (arith, stays)

pub stays_on : (old mid new : DeskView) → StaysSo old mid → StaysSo mid new → StaysSo old new
stays_on old mid new p q = record { ledgers = q.ledgers ∙ p.ledgers; kept = q.kept ∙ p.kept }

turned_later : (m : ℕ) (op : Op) (answer : ℤ) (old mid new : DeskView) → StaysSo old mid
    → IsTurnedAway m op answer mid new → IsTurnedAway m op answer old new
turned_later m op answer old mid new s p =
    record {
      last = p.last;
      waited = stays_on old mid p.last s p.waited;
      answered = p.answered;
      stays = stays_on old mid new s p.stays;
    }

-- so what it did later it did at first
pub put_later : (m : ℕ) (op : Op) (answer : ℤ) (old mid new : DeskView) → StaysSo old mid → PutsOp m op answer mid new
    → PutsOp m op answer old new
put_later m op (pos (suc k)) old mid new s p = search (arith, nat_cmp, s.kept, s.ledgers)
put_later m op answer old mid new s p = turned_later m op answer old mid new s p

-- ---- its completion

-- what was redeemed and collected
redeemed : (old new : DeskView) (k : ℕ) (c : Code) → CollectsRedeemed old new k c → IsCollected k c old new
redeemed old new k c r = search (arith, r.collects.looks.rest, r.operation)

-- what an xa_complete that waits does: where it answers XA_OK what the handle stood for was collected, and else nothing
pub record Completed (m : ℕ) (handle : ℤ) (old new : DeskView) (retval answer : ℤ) : Type 0 where
  pub yes : answer ≡ pos 0
      → (k : ℕ) × (c : Code) × (handle ≡ pos k) × (0 < k) × (retval ≡ number_of c) × IsCollected k c old new
  pub never : answer ≢ pos 0 → IsNoHandle m handle old × StaysSo old new

number_is : (z : ℤ) (k : ℕ) → number_in z ≡ Some k → z ≡ pos k
number_is z k e = grind arith

refuses : (m : ℕ) (handle : ℤ) (old new : DeskView) (handle' retval retval' answer : ℤ)
    (result : Result (ℕ × Code) Code)
    → IsNoHandle m handle old
    → result ≡ Err Inval → new ≡ old → WritesHandle result handle retval handle' retval' answer
    → Completed m handle old new retval' answer
refuses m handle old new handle' retval retval' answer result none is same tells = search (arith, stays)

by_one : (handle : ℤ) (m : ℕ) (old new : DeskView) (handle' retval retval' answer : ℤ) (result : Result (ℕ × Code) Code)
    → CompletesOne old (number_in handle) m false new result → IfOk result (λ r. IsHandle r.0)
    → WritesHandle result handle retval handle' retval' answer
    → Completed m handle old new retval' answer
by_one handle m old new handle' retval retval' answer result (unknown none is same) numbered tells =
    search (arith, refuses)
by_one handle m old new handle' retval retval' answer result (retry k number keeps nowait is quiet unready) numbered
    tells =
    cc
by_one handle m old new handle' retval retval' answer result (ready k c number keeps nowait is collects) numbered
    tells =
    cc
by_one handle m old new handle' retval retval' answer result (waited k c number keeps wait is collects) numbered tells =
    search (arith, number_is, redeemed)

by_manager : (there : Bool) (handle : ℤ) (m : ℕ) (old new : DeskView) (handle' retval retval' answer : ℤ)
    (result : Result (ℕ × Code) Code)
    → may_complete old m false ≡ there → CompletesAt there false false old (number_in handle) m new result
    → IfOk result (λ r. IsHandle r.0)
    → WritesHandle result handle retval handle' retval' answer → Completed m handle old new retval' answer
by_manager false handle m old new handle' retval retval' answer result none (is, same) numbered tells =
    search (arith, refuses)
by_manager true handle m old new handle' retval retval' answer result known one numbered tells = search (arith, by_one)

pub completed : (handle retval : ℤ) (m : ℕ) (old new : DeskView) (handle' retval' answer : ℤ)
    → HasCompleted old handle retval m 0 new handle' retval' answer
    → Completed m handle old new retval' answer
completed handle retval m old new handle' retval' answer h =
    search (arith, by_manager, h.collected, h.completes, h.numbered)

-- only XA_OK is 0
pub only_done : (c : Code) → (of_z w32 (number_of c) == 0) ≡ true → c ≡ Done
only_done c e = grind arith

pub not_done : (c : Code) → (of_z w32 (number_of c) == 0) ≡ false → c ≢ Done
not_done c e = λ same. let z : true ≡ false = rw same at e in cc

-- what was collected, by whether its code was 0
pub by_code : (m : ℕ) (handle retval : ℤ) (k : ℕ) (c : Code) (old new : DeskView) → handle ≡ pos k → 0 < k
    → retval ≡ number_of c → IsCollected k c old new
    → CollectsOp m handle (of_z w32 retval == 0) old new
by_code m handle retval k c old new is positive told got =
    rw told
    (elim (of_z w32 (number_of c) == 0) as (λ b. (of_z w32 (number_of c) == 0) ≡ b → CollectsOp m handle b old new) [
      | true ↦ λ e. done k is positive refl (rw (only_done c e) at got)
      | false ↦ λ e. undone k c (not_done c e) is refl got
    ] refl)

-- ---- what comes of a synchronous call

-- the reason of a desk isn't XA_OK
reason_no : (why : Refused) → (of_z w32 (number_of (code_of why)) == 0) ≡ false
reason_no why = grind arith

refusal_no : (o : Option Refused) (c : Code) → option_map code_of o ≡ Some c → (of_z w32 (number_of c) == 0) ≡ false
refusal_no o c e = grind (arith, of_z, reason_no)

-- what comes of a call, by whether its answer was 0
pub call_by : (m : ℕ) (op : Op) (answer : ℤ) (old new : DeskView)
    → Puts old m (record { op = op; asynchronous = false }) new answer
    → CallsOp m op (of_z w32 answer == 0) old new
call_by m op answer old new (refused c why is same) =
    uncalled c why (ap (λ z. of_z w32 z == 0) is ∙ refusal_no (call_refusal old m) c why)
    (ap (λ (d : DeskView). d.ledgers) same)
call_by m op answer old new (full none now is same) = cc
call_by m op answer old new (kept none now k is free same) = cc
call_by m op answer old new (answered none now n c is collects) =
    let ledgers : new.ledgers ≡ after_called old.ledgers m op c = answered_ledgers m op n c old new collects in
    rw is (elim (of_z w32 (number_of c) == 0) as (λ b. (of_z w32 (number_of c) == 0) ≡ b → CallsOp m op b old new) [
      | true ↦ λ e. called refl (rw (only_done c e) at ledgers)
      | false ↦ λ e. failed c (not_done c e) refl ledgers
    ] refl)

-- ---- what was sent

pub op_sent : (P : Op → Type 0) (m : ℕ) (op : Op) (ok : Bool) (old new : DeskView) → P op → CallsOp m op ok old new
    → HaveSent P old.ledgers new.ledgers
op_sent P m op ok old new so (called said is) = rw is (call_adds P m op Done old.ledgers so)
op_sent P m op ok old new so (failed c other unsaid is) = rw is (call_adds P m op c old.ledgers so)
op_sent P m op ok old new so (uncalled c why unsaid is) = have_none old.ledgers new.ledgers is

-- ---- a call that was answered XA_OK

pub is_called : (m : ℕ) (op : Op) (ok : Bool) (old new : DeskView) → CallsOp m op ok old new → ok ≡ true
    → new.ledgers ≡ after_called old.ledgers m op Done
is_called m op ok old new h e = grind arith
