-- How a round goes on: in which order its requests go, how many of the first are collected, and for which managers it
-- idles.
use Rattle.xa_base.proofs.{rules, none_of, ◌≡◌, ◌≤◌, ℕ, Bool, true, false, List, [], ◌∷◌, ◌++◌, length, drop, Option}
use Rattle.xa_base.proofs.{None, Some, refl, sym, ap, ◌∙◌, append_assoc, append-nil, arith, not, if◌then◌else◌}
use Rattle.xa_base.proofs.{MatchOption, map-append, length-append, ◌⊎◌, ◌≢◌, zero, suc, ◌+◌, length-set, take}
use Rattle.xa_base.proofs.{slice_get, at_false, at_true, drop-append_seam, is_none, min, slice_get_within}
use Rattle.xa_base.proofs.{take-append-drop, take_all, ◌<◌, get_or, slice_get-get_or, ◌==◌, map, eq-eqb, ◌-◌, IfNone}
use Rattle.xa_base.proofs.{OnSome, any_at, slice_get_cases}
use Rattle.std.proofs.lemmas.List.{take_more_set}
use Rattle.xa_words.specs.{Op, Code}
use Rattle.xa_desk.specs.{Sent, Collected, Operation, TicketView, ledger, LedgerView, DeskView, submitted, after_fulls}
use Rattle.xa_desk.specs.{Idles, begins, idles}
use Rattle.xa_driver.specs.{Round, Ask, BeginsAsk, EachBegan, EndsAsk, IsUnsent, SameAsks, CollectsAsk, AllAreSent}
use Rattle.xa_driver.specs.{IsUnderWay, SendsAsk, Stays, sent_count, round_of, goes_out, sent_of, operations_of}
use Rattle.xa_driver.specs.{SendsMore, CollectsFirst, SendsThenCollects, GoesAsFar, GoesAsRound, asked_first}
use Rattle.xa_driver.specs.{count_asked, is_passed, next_collected, with_code, HasBegun, IdlesToCollect, IdlesToSend}
use Rattle.xa_driver.specs.{unsent, CollectsNothing, Passes, SendsNothing, passes, starts, next_ask, among_asks}
use Rattle.xa_driver.specs.{IdlesAt, again, never, first_ask, HasDecided, HasPrepared, HasTold, has_branch_at, Branch}
use Rattle.xa_driver.specs.{Prepared, Decided, Told}
use Rattle.xa_driver.proofs.Stepping.{as_many, first_one, place_is, place_within}
use Rattle.xa_driver.specs.Idling.{sent}
use Rattle.xa_desk.specs.Waits.{Waits}
use Rattle.xa_log.specs.{LogState}
use Rattle.xa_driver.proofs.Calls.{among_first, among_second}
use Rattle.xa_driver.proofs.Requests.{same_alike, same_itself}

-- ---- what has a ticket

operations-append : (ts us : List (Option TicketView)) → operations_of (ts ++ us) ≡ operations_of ts ++ operations_of us
operations-append [] us = refl
operations-append (None ∷ ts) us = operations-append ts us
operations-append (Some t ∷ ts) us = ap (λ l. t.operation ∷ l) (operations-append ts us)

-- ---- one more sent

sends_ticket : (k : Ask) (ts ts' : List (Option TicketView)) (old new : DeskView) (r : Option TicketView)
    → BeginsAsk k old new r → ts' ≡ ts ++ r ∷ []
    → SendsMore ts ts' old new
sends_ticket k ts ts' old new None began is = search (arith, append-nil, operations-append)
sends_ticket k ts ts' old new (Some t) began is = record {
  more = t.operation ∷ [];
  events = began.event ∙ ap (λ (u : TicketView). old.events ++ Sent u.operation ∷ []) (sym began.ticket);
  tickets = ap operations_of is ∙ operations-append ts (Some t ∷ []);
}

-- nothing is sent
pub sends_stay : (ts : List (Option TicketView)) (d : DeskView) → SendsMore ts ts d d
sends_stay ts d =
    record { more = []; events = sym (append-nil d.events); tickets = sym (append-nil (operations_of ts)) }

-- a step that sends, whether there was a request to send or not
pub step_sends : (next : Option Ask) (result : Bool) (old new : Round) (desk now : DeskView)
    → MatchOption next ((result ≡ false) × Stays old new desk now) (λ k. (result ≡ true) × SendsAsk k old new desk now)
    → SendsMore old.tickets.items new.tickets.items desk now
step_sends None result old new desk now (is, stays) = search (arith, sends_stay, old.tickets.items)
step_sends (Some k) result old new desk now (is, sends) =
    sends_ticket k old.tickets.items new.tickets.items desk now sends.ticket sends.began sends.tickets

-- and it leaves what was collected, and what is asked
pub step_sends_keeps : (next : Option Ask) (result : Bool) (old new : Round) (desk now : DeskView)
    → MatchOption next ((result ≡ false) × Stays old new desk now) (λ k. (result ≡ true) × SendsAsk k old new desk now)
    → (new.asks ≡ old.asks) × (new.collected ≡ old.collected)
step_sends_keeps next result old new desk now h = grind arith

pub sends_on : (ts us vs : List (Option TicketView)) (a b c : DeskView) → SendsMore ts us a b → SendsMore us vs b c
    → SendsMore ts vs a c
sends_on ts us vs a b c first later = search (arith, append_assoc, map-append, a.events, first.more)

-- ---- one more collected

collects_ticket : (k : Ask) (ts ts' : List (Option TicketView)) (old new : DeskView) (r : Option TicketView)
    (code : Option Code)
    → EndsAsk k old new r code
    → ts ≡ r ∷ ts' → CollectsFirst ts ts' old new
collects_ticket k ts ts' old new None code ended is = search (arith, append-nil)
collects_ticket k ts ts' old new (Some t) code (c, (with_code, one)) is =
    let events =
    ap (λ (d : DeskView). d.events) one.collected
    ∙ ap (λ (d : DeskView). d.events ++ Collected t.operation ∷ []) one.looks.rest in
    record { first = t.operation ∷ []; events = events; tickets = ap operations_of is }

pub collects_nothing : (ts : List (Option TicketView)) (d : DeskView) → CollectsFirst ts ts d d
collects_nothing ts d = record { first = []; events = sym (append-nil d.events); tickets = refl }

pub step_collects : (next : Option (Option TicketView)) (result : Bool) (old new : Round) (desk now : DeskView)
    → MatchOption next ((result ≡ false) × Stays old new desk now)
    (λ t. (result ≡ true) × CollectsAsk t old new desk now)
    → CollectsFirst old.tickets.items new.tickets.items desk now
step_collects None result old new desk now (is, stays) = search (arith, collects_nothing, old.tickets.items)
step_collects (Some t) result old new desk now (is, collects) =
    collects_ticket collects.ask old.tickets.items new.tickets.items desk now t collects.code collects.ended
    collects.tickets

pub collects_on : (ts us vs : List (Option TicketView)) (a b c : DeskView) → CollectsFirst ts us a b
    → CollectsFirst us vs b c → CollectsFirst ts vs a c
collects_on ts us vs a b c before later = record {
  first = before.first ++ later.first;
  events = search (arith, append_assoc, map-append, a.events, before.first);
  tickets = before.tickets ∙ ap (λ l. before.first ++ l) later.tickets
      ∙ sym (append_assoc before.first later.first (operations_of vs));
}

-- ---- what is in flight

-- what has a ticket is what went out
stays_in : (op : Option Op) (a : LedgerView) → IsUnsent a op → goes_out op a ≡ false
stays_in op a h = grind arith

in_flight_sent : (ks : List Ask) (rs : List (Option TicketView)) (at : List LedgerView) (d : DeskView)
    → EachBegan ks rs at d → operations_of rs ≡ sent_of ks at
in_flight_sent [] [] at d each = refl
in_flight_sent (k ∷ ks) (None ∷ rs) at d (begun, each) =
    in_flight_sent ks rs at d each ∙ sym (at_false _ _ _ (stays_in k.op (ledger at k.manager) begun.0))
in_flight_sent (k ∷ ks) (Some t ∷ rs) at d (begun, each) =
    (λ i. begun.operation i ∷ in_flight_sent ks rs at d each i)
    ∙ sym (at_true _ _ _ (ap (λ op. goes_out op (ledger at k.manager)) begun.wanted ∙ ap not begun.open_))
in_flight_sent _ _ at d each = absurd each

-- ---- the same requests

-- what goes out hangs on the managers and what they are asked
pub same_sent : (js ks : List Ask) (at : List LedgerView) → SameAsks js ks → sent_of ks at ≡ sent_of js at
same_sent [] [] at same = refl
same_sent (j ∷ js) (k ∷ ks) at (one, same) = grind (arith, same_sent js ks at same)
same_sent _ _ at same = absurd same

-- ---- a round that is finished

-- a round that was sent whole
module _ (first sent last : Round) (old mid new : DeskView)
    (sends : SendsMore first.tickets.items sent.tickets.items old mid)
    (same : (sent.asks ≡ first.asks) × (sent.collected ≡ first.collected)) (before : sent.before ≡ first.before)
    (u : IsUnderWay sent mid) (whole : AllAreSent sent)
    (collects : CollectsFirst sent.tickets.items last.tickets.items mid new) where
  all_gone : operations_of sent.tickets.items ≡ sent_of (drop first.collected first.asks.items)
      first.before.value.ledgers
  all_gone = search (arith, as_many, none_of, length-append, drop-append_seam, append-nil, in_flight_sent)

  -- and collected whole
  pub finished_in_order : IsUnderWay last new → length last.asks.items ≤ last.collected
      → SendsThenCollects first old new
  finished_in_order ended none =
      let gone : operations_of first.tickets.items ++ sends.more ≡ collects.first =
      search (arith, append-nil, none_of, length-append, in_flight_sent) in
      record {
        more = sends.more;
        events = search (arith, append_assoc, old.events);
        all = sym sends.tickets
            ∙ all_gone;
      }

  -- nothing was sent before, and the first were collected
  pub far_in_order : sent_count first ≡ 0 → GoesAsFar first.asks.items first.before.value.ledgers old new
  far_in_order none =
      let no_tickets : first.tickets.items ≡ [] = none_of first.tickets.items (omega (arith, none)) in
      let none_collected : first.collected ≡ 0 = omega (arith, none) in
      let more : sends.more ≡ operations_of sent.tickets.items = search (arith, rules) in
      record {
        first = collects.first;
        rest = operations_of last.tickets.items;
        all = sym (all_gone ∙ ap (λ n. sent_of (drop n first.asks.items) first.before.value.ledgers) none_collected)
            ∙ collects.tickets;
        events = search (arith, append_assoc, old.events);
      }

-- of a round of which nothing was sent, that is all of it
pub whole_in_order : (r : Round) (js : List Ask) (old new : DeskView) → SendsThenCollects r old new → sent_count r ≡ 0
    → r.before.value ≡ old
    → SameAsks js r.asks.items → GoesAsRound js old new
whole_in_order r js old new is none before same =
    search (arith, none_of, same_sent, r.tickets.items, r.asks.items, old.ledgers)

-- and of the same requests, whatever they were answered
pub same_in_order : (js ks : List Ask) (old new : DeskView) → SameAsks js ks → GoesAsRound js old new
    → GoesAsRound ks old new
same_in_order js ks old new same is = is ∙ ap (λ l. old.events ++ round_of l) (sym (same_sent js ks old.ledgers same))

-- ---- a round of which the first requests are collected: how many of those were asked anything

abbrev one_if : Bool → ℕ
one_if passed = if passed then 0 else 1

asked-append : (ks js : List Ask) → count_asked (ks ++ js) ≡ count_asked ks + count_asked js
asked-append [] js = omega arith
asked-append (k ∷ ks) js = grind (arith, asked-append ks js)

-- ---- one more is collected

pub record OneCollected (r new : Round) : Type 0 where
  pub taken : count_asked (take new.collected new.asks.items) ≡ count_asked (take r.collected r.asks.items) + one_if
      (is_passed (next_collected r))
  pub all : AllAreSent new
  pub fewer : suc (length new.tickets.items) ≡ length r.tickets.items

pub one_collected : (r new : Round) (desk now : DeskView) (b : Bool) (l : List (Option TicketView))
    → r.tickets.items ≡ l
    → MatchOption (slice_get l 0) ((b ≡ false) × Stays r new desk now) (λ t. (b ≡ true) × CollectsAsk t r new desk now)
    → AllAreSent r → length l ≢ 0
    → OneCollected r new
one_collected r new desk now b [] e step all some = absurd (some refl)
one_collected r new desk now b (t ∷ ts) e (_, one) all some =
    let passed : is_passed (next_collected r) ≡ is_none one.ask.op =
    ap (λ l. is_passed (asked_first l r)) e ∙ ap is_passed one.place in
    let x = ap (λ l. length l) one.tickets in
    let long = ap (λ l. length l) one.asks ∙ length-set r.asks.items r.collected (with_code one.ask one.code) in
    record {
      taken = (λ i. count_asked (take (one.collected i) (one.asks i)))
          ∙ ap count_asked
          (take_more_set r.asks.items r.collected (with_code one.ask one.code)
          (slice_get_within r.asks.items r.collected one.ask one.place))
          ∙ asked-append (take r.collected r.asks.items) (with_code one.ask one.code ∷ [])
          ∙ ap (λ p. count_asked (take r.collected r.asks.items) + one_if p) (sym passed);
      all = omega (arith, x, one.collected, long, all);
      fewer = sym x;
    }

-- once so many were collected, or all
pub first_so_many : (r : Round) (count left : ℕ) → AllAreSent r
    → count_asked (take r.collected r.asks.items) + left ≡ count
    → (left ≡ 0) ⊎ (length r.tickets.items ≡ 0)
    → count_asked (take r.collected r.asks.items) ≡ min count (count_asked r.asks.items)
first_so_many r count left all counted h =
    let parts =
    ap count_asked (sym (take-append-drop r.collected r.asks.items))
    ∙ asked-append (take r.collected r.asks.items) (drop r.collected r.asks.items) in
    grind (arith, take_all)

-- ---- branches that are asked nothing, and for which managers a commit idles

none_asked : (o : Option Op) → is_none o ≡ true → o ≡ None
none_asked o e = search (arith, rules)

-- what is asked nothing sends nothing, without an idle
begins_nothing : (k : Ask) (t : Option TicketView) (desk now : DeskView) → k.op ≡ None → BeginsAsk k desk now t
    → now ≡ desk
begins_nothing k t desk now none b = search (arith, rules)

idles_nothing : {I : Type 0} (by : ℕ → I → I → Type 0) (k : Ask) (desk now : DeskView) (x y : I) → k.op ≡ None
    → IdlesToSend by k desk now x y → y ≡ x
idles_nothing by k desk now x y none h = search (arith, rules)

-- Those that came next were passed over, each by this step, since the round, its desk and the idler were as at first.
pub record Passed {I : Type 0} (step : Ask → Round → Round → Type 0) (old new : Round) (desk now : DeskView)
    (x y : I) : Type 0 where
  pub under_way : IsUnderWay new now
  pub passed : Passes step old new
  pub desk_is : now ≡ desk
  pub idle_is : y ≡ x
  pub before : new.before ≡ old.before
  pub same : (js : List Ask) → SameAsks js old.asks.items → SameAsks js new.asks.items

pub none_passed : {I : Type 0} (step : Ask → Round → Round → Type 0) (r : Round) (desk : DeskView) (x : I)
    → IsUnderWay r desk → Passed step r r desk desk x x
none_passed step r desk x u =
    record { under_way = u; passed = starts r refl; desk_is = refl; idle_is = refl; before = refl; same = λ js s. s }

-- one more
passed_on : {I : Type 0} {step : Ask → Round → Round → Type 0} {old r new : Round} {first desk now : DeskView}
    {x y z : I}
    → Passed step old r first desk x y
    → IsUnderWay new now → Passes step old new → now ≡ desk → z ≡ y → new.before ≡ r.before
    → ((js : List Ask) → SameAsks js r.asks.items → SameAsks js new.asks.items) → Passed step old new first now x z
passed_on i u more desk_is idle_is before same = search (arith, i.same)

pub send_passes : {I : Type 0} (by : ℕ → I → I → Type 0) {first desk now : DeskView} {old r new : Round} {w x : I}
    (y : I) (b : Bool) (o : Option Ask)
    → Passed (SendsNothing first) old r first desk w x → next_ask r ≡ o → is_passed o ≡ true
    → MatchOption o ((b ≡ false) × Stays r new desk now) (λ k. (b ≡ true) × SendsAsk k r new desk now)
    → MatchOption o (y ≡ x) (λ k. IdlesToSend by k desk now x y)
    → IsUnderWay new now → new.before ≡ r.before
    → ((js : List Ask) → SameAsks js r.asks.items → SameAsks js new.asks.items)
    → Passed (SendsNothing first) old new first now w y
    × (length new.asks.items - sent_count new < length r.asks.items - sent_count r)
send_passes by y b None i e unasked step idly u before same = cc
send_passes by {first = first} {desk = desk} {now = now} {r = r} {new = new} {x = x} y b (Some k) i e unasked (_, one)
    idly u before same =
    let none = none_asked k.op unasked in
    let here : SendsAsk k r new first first = search (arith, i.desk_is, begins_nothing) in
    let below = slice_get_within r.asks.items (sent_count r) k e in (
      passed_on i u (passes k r new i.passed none (e, here)) (begins_nothing k one.ticket desk now none one.began)
          (idles_nothing by k desk now x y none idly) before same,
      omega (
        arith,
        ap (λ l. length l) one.tickets,
        length-append r.tickets.items (one.ticket ∷ []),
        ap
            (λ v. length v.items) one.asks,
        one.collected,
        below,
      ),
    )

-- what is longest in flight stands where it is collected
collected_place : (r : Round) (d : DeskView) (u : IsUnderWay r d) (t : Option TicketView)
    (ts : List (Option TicketView)) (e : r.tickets.items ≡ t ∷ ts)
    → slice_get r.asks.items r.collected ≡ Some (first_one r d u t ts e).0
collected_place r d u t ts e =
    let k = (first_one r d u t ts e).0 in
    slice_get-get_or r.asks.items r.collected k (place_within r d u t ts e) ∙ ap Some (place_is r d u t ts e k)

pub collect_passes : {I : Type 0} (by : ℕ → I → I → Type 0) {first desk now : DeskView} {old r new : Round} {w x : I}
    (y : I) (b : Bool)
    (l : List (Option TicketView)) → Passed (CollectsNothing first) old r first desk w x → r.tickets.items ≡ l
    → is_passed (asked_first l r) ≡ true
    → MatchOption (slice_get l 0) ((b ≡ false) × Stays r new desk now) (λ t. (b ≡ true) × CollectsAsk t r new desk now)
    → MatchOption (slice_get l 0) (y ≡ x) (λ t. IdlesToCollect by t desk now x y)
    → IsUnderWay new now → new.before ≡ r.before
    → ((js : List Ask) → SameAsks js r.asks.items → SameAsks js new.asks.items)
    → Passed (CollectsNothing first) old new first now w y × (length new.tickets.items < length r.tickets.items)
collect_passes by y b [] i e unasked step idly u before same = cc
collect_passes by {first = first} {desk = desk} {now = now} {r = r} {new = new} {x = x} y b (t ∷ ts) i e unasked
    (_, collects) idly u before same =
    let (k, (js, (flies, (begun, others)))) = first_one r desk i.under_way t ts e in
    let there = collected_place r desk i.under_way t ts e in
    let none = none_asked k.op (sym (ap is_passed there) ∙ unasked) in
    let nothing : t ≡ None = search (arith, r.before.value.ledgers) in
    let one : CollectsAsk None r new desk now = rw nothing at collects in
    let idle_is : y ≡ x = rw nothing at idly in
    let here : CollectsAsk None r new first first = search (arith, rules) in
    let long = ap (λ l. length l) one.tickets in (
      passed_on i u (passes k r new i.passed none (ap (λ l. asked_first l r) e ∙ there, here)) one.ended.0 idle_is
          before
          same,
      omega (arith, long),
    )

-- whether what is collected next was asked nothing
pub unasked_is : (r : Round) (d : DeskView) (b : Bool) (k : Ask) (l : List (Option TicketView)) → IsUnderWay r d
    → r.tickets.items ≡ l → length l ≢ 0
    → k ≡ get_or r.asks.items r.collected k → b ≡ is_none k.op → b ≡ is_passed (asked_first l r)
unasked_is r d b k [] u e some at is = absurd (some refl)
unasked_is r d b k (t ∷ ts) u e some at is =
    is ∙ sym (ap is_passed (slice_get-get_or r.asks.items r.collected k (place_within r d u t ts e) ∙ ap Some (sym at)))

-- one that stands among the requests is to one of their managers
among_at : (ks : List Ask) (n : ℕ) (k : Ask) → slice_get ks n ≡ Some k → among_asks ks k.manager ≡ true
among_at ks n k e = any_at (λ j. j.manager == k.manager) ks n k e (eq-eqb k.manager k.manager refl)

module _ {I : Type 0} {by : ℕ → I → I → Type 0} where
  pub idles_start : (these : ℕ → Bool) (x : I) → IdlesAt by these x x
  idles_start these x = never x refl

  -- one after another
  pub idles_chain : {these : ℕ → Bool} {x y z : I} → IdlesAt by these x y → IdlesAt by these y z → IdlesAt by these x z
  idles_chain p (never w e) = rw e p
  idles_chain p (again m mid w q there one) = again m mid w (idles_chain p q) there one

  -- for the same managers
  pub idles_same : {these those : ℕ → Bool} {x y : I} → IdlesAt by those x y → ((m : ℕ) → those m ≡ these m)
      → IdlesAt by these x y
  idles_same (never w e) same = never w e
  idles_same (again m mid w q there one) same = again m mid w (idles_same q same) (sym (same m) ∙ there) one

  -- at one of them
  idles_here : (these : ℕ → Bool) (m n : ℕ) (x y : I) → these m ≡ true → Idles (by m) n x y → IdlesAt by these x y
  idles_here these m zero x y there e = never y e
  idles_here these m (suc n) x y there (mid, q, one) = again m mid y (idles_here these m n x mid there q) there one

  waits_here : {missing : DeskView → Type 0} (these : ℕ → Bool) (m : ℕ) {old : DeskView} {x : I} {new : DeskView}
      {y : I}
      → these m ≡ true
      → Waits missing (by m) old x new y
      → IdlesAt by these x y
  waits_here these m there (begins d w e f) = never w f
  waits_here these m there (idles now d mid w q look none one) = again m mid w (waits_here these m there q) there one

  -- ---- a step of a round

  -- the request was sent, or it wasn't
  pub sends_so : (k : Ask) (op : Op) (r : Option TicketView) (old new : DeskView) (x y : I) → k.op ≡ Some op
      → IfNone r (new ≡ old)
      → OnSome r
      ((fulls : ℕ)
      × ((new ≡ submitted (after_fulls fulls old k.manager) k.manager op) × Idles (by k.manager) fulls x y))
      → IfNone r (y ≡ x)
      → IdlesToSend by k old new x y
  sends_so k op None old new x y is same waited still = unsent same still
  sends_so k op (Some t) old new x y is same (n, (put, idly)) still = sent op n is put idly

  sends_here : (these : ℕ → Bool) (k : Ask) (old new : DeskView) (x y : I) → these k.manager ≡ true
      → IdlesToSend by k old new x y → IdlesAt by these x y
  sends_here these k old new x y there (unsent same e) = never y e
  sends_here these k old new x y there (sent op fulls is put idly) = idles_here these k.manager fulls x y there idly

  collects_here : (these : ℕ → Bool) (t : Option TicketView) (k : Ask) (from : List LedgerView) (now old new : DeskView)
      (x y : I)
      → these k.manager ≡ true
      → HasBegun k t from now → IdlesToCollect by t old new x y → IdlesAt by these x y
  collects_here these None k from now old new x y there begun e = never y e
  collects_here these (Some t) k from now old new x y there begun (code, w) =
      waits_here these t.operation.manager (ap (λ (o : Operation). these o.manager) begun.operation ∙ there) w.waits

  -- one more is sent of the requests of a round
  pub send_on : (first : List Ask) (r : Round) (old new : DeskView) (x y z : I) (o : Option Ask) → next_ask r ≡ o
      → SameAsks first r.asks.items
      → IdlesAt by (among_asks first) x y → MatchOption o (z ≡ y) (λ k. IdlesToSend by k old new y z)
      → IdlesAt by (among_asks first) x z
  send_on first r old new x y z None e same before still = rw still before
  send_on first r old new x y z (Some k) e same before one =
      let there =
      sym ((same_alike first r.asks.items same).among k.manager) ∙ among_at r.asks.items (sent_count r) k e in
      idles_chain before (sends_here (among_asks first) k old new y z there one)

  -- and one more collected
  pub collect_on : (first : List Ask) (r : Round) (old new : DeskView) (x y z : I) (l : List (Option TicketView))
      → r.tickets.items ≡ l → IsUnderWay r old
      → SameAsks first r.asks.items → IdlesAt by (among_asks first) x y
      → MatchOption (slice_get l 0) (z ≡ y) (λ t. IdlesToCollect by t old new y z)
      → IdlesAt by (among_asks first) x z
  collect_on first r old new x y z [] e u same before still = rw still before
  collect_on first r old new x y z (t ∷ ts) e u same before one =
      let (k, (js, (flies, (begun, others)))) = first_one r old u t ts e in
      let there =
      sym ((same_alike first r.asks.items same).among k.manager)
      ∙ among_at r.asks.items r.collected k (collected_place r old u t ts e) in
      idles_chain before (collects_here (among_asks first) t k r.before.value.ledgers old old new y z there begun one)

  -- ---- rounds of a commit

  -- what is sent and then collected
  pub round_idles : {first now : List Ask} {x y z : I} → ((js : List Ask) → SameAsks js first → SameAsks js now)
      → IdlesAt by (among_asks first) x y
      → IdlesAt by (among_asks now) y z → IdlesAt by (among_asks first) x z
  round_idles {first = first} {now = now} same a b =
      idles_chain a (idles_same b (same_alike first now (same first (same_itself first))).among)

  -- those of a round are at the managers of the branches
  pub first_idles : (bs : List Branch) (ks : List Ask) (x y : I) → SameAsks (map first_ask bs) ks
      → IdlesAt by (among_asks ks) x y
      → IdlesAt by (has_branch_at bs) x y
  first_idles bs ks x y same idly = idles_same idly (λ m. among_first bs ks m same)

  -- and so are those of all rounds
  pub all_idle : {bs : List Branch} {old mid late : List LedgerView} {log later : LogState} {p : Prepared} {d : Decided}
      {t : Told} {w x y z : I}
      → HasPrepared bs old mid p → HasDecided p log later d → HasTold d mid late t
      → IdlesAt by (has_branch_at bs) w x → IdlesAt by (among_asks d.round.asks.items) x y
      → IdlesAt by (among_asks t.round.asks.items) y z
      → IdlesAt by (has_branch_at bs) w z
  all_idle {bs = bs} {p = p} {d = d} {t = t} first second third a b c =
      let on =
      idles_chain b
      (idles_same c (λ m. among_second d.decision.commit d.round.asks.items t.round.asks.items m third.same)) in
      idles_chain a (first_idles bs p.round.asks.items _ _ first.same (rw second.round at on))

-- ---- how far a step comes

-- where fewer than all were sent one more is
pub send_reaches : (r new : Round) (desk now : DeskView) (b : Bool) (n : ℕ)
    → MatchOption (next_ask r) ((b ≡ false) × Stays r new desk now) (λ k. (b ≡ true) × SendsAsk k r new desk now)
    → n ≤ sent_count r → n < length r.asks.items
    → n + 1 ≤ sent_count new
send_reaches r new desk now b n step so_far below = grind (arith, slice_get_cases, length-append)

-- where all were sent, and fewer than all were collected, one more is
pub collect_reaches : (r new : Round) (desk now : DeskView) (b : Bool) (n : ℕ) (l : List (Option TicketView))
    → r.tickets.items ≡ l
    → MatchOption (slice_get l 0) ((b ≡ false) × Stays r new desk now) (λ t. (b ≡ true) × CollectsAsk t r new desk now)
    → AllAreSent r → n ≤ r.collected
    → n < length r.asks.items
    → (n + 1 ≤ new.collected) × AllAreSent new × (length new.asks.items ≡ length r.asks.items)
collect_reaches r new desk now b n [] e step all so_far below = search (arith, rules)
collect_reaches r new desk now b n (t ∷ ts) e step all so_far below =
    search (arith, length-set, r.asks.items, r.collected)
