-- A desk goes on by its calls, and which tickets are still owned.
use Rattle.xa_base.proofs.{map-alike, ◌≡◌, ◌≢◌, ℕ, zero, suc, ◌-◌, ◌≤◌, List, map, Option, Some, None, IfSome, sym}
use Rattle.xa_base.proofs.{refl, ap, ◌∙◌, arith, nat_cmp, same_begins, begins_on, cases_eq, inserted_there}
use Rattle.xa_base.proofs.{inserted_other, map-set_same}
use Rattle.xa_desk.specs.{seat_of_desk, Operation, with_collected, ledger, no_ledger, put_ledger, completed, Event}
use Rattle.xa_desk.specs.{EndedView, Ends, submitted, after_full, after_fulls, EndsQuiet, Collects, CollectsKept}
use Rattle.xa_desk.specs.{CollectsLeast, TakesKept, GoesOut, plan_of, plans, HaveGrown, TicketView, Owns, IsOut, IsDesk}
use Rattle.xa_desk.specs.{outstanding, drained_code, LedgerView, DeskView, GoesOn, IsKnown, next_operation}
use Rattle.xa_desk.specs.{LeavesTickets, LeavesOthers}
use Rattle.xa_desk.proofs.Looks.{looks_move, same_count, counts_on, looks_outstanding, looking_leaves, quiet_looks}
use Rattle.xa_desk.proofs.Looks.{freed_loose}
use Rattle.std.proofs.Common.{IsNone}
use Rattle.xa_words.specs.{Code, Op, Request}
use Rattle.xa_lane.specs.{Sending, end_seat}
use Rattle.xa_lane.proofs.Parcels.{map-at_place}
use Rattle.xa_desk.specs.Looks.{Looks}
use Rattle.xa_desk.proofs.Ledgers.{same_lists, growing_on, sending_grows, collecting_grows, collected_keeps_out}
use Rattle.xa_desk.proofs.Ledgers.{sent_keeps_out, unsent}
use Rattle.xa_desk.proofs.Ties.{tied_looks, tied_collected, fulls_alike}
use Rattle.std.specs.FinMap as finmap

-- ---- any steps

-- the lane of completions and what was drained stay, and so do the seats and the plans
goes_with : (d : DeskView) (requests : List (Sending Request)) (at : List LedgerView) (events : List Event)
    (kept : finmap.FinMap nat_cmp Operation)
    → map end_seat requests ≡ map end_seat d.requests → plans at ≡ plans d.ledgers → HaveGrown d.ledgers at
    → GoesOn d (record d { requests = requests; ledgers = at; events = events; kept = kept })
goes_with d requests at events kept ends plan lists = search (arith, same_begins, same_count)

pub goes_same : (d : DeskView) → GoesOn d d
goes_same d = goes_with d d.requests d.ledgers d.events d.kept refl refl (same_lists d.ledgers d.ledgers refl)

pub goes_further : (a b c : DeskView) → GoesOn a b → GoesOn b c → GoesOn a c
goes_further a b c p q = record {
  seat = q.seat ∙ p.seat;
  handles = q.handles ∙ p.handles;
  plan = q.plan ∙ p.plan;
  lists = growing_on a.ledgers b.ledgers c.ledgers p.lists q.lists;
  taken = begins_on a.completions.taken b.completions.taken c.completions.taken p.taken q.taken;
  drained = begins_on a.drained b.drained c.drained p.drained q.drained;
  quiet = counts_on a.completions.quiet b.completions.quiet c.completions.quiet p.quiet q.quiet;
}

-- ---- sending

-- the ledger that is put has the plan of the one that stood there
put_plans : (at : List LedgerView) (m : ℕ) (a : LedgerView) → plan_of a ≡ plan_of (ledger at m)
    → plans (put_ledger at m a) ≡ plans at
put_plans at m a same = map-set_same plan_of at (m - 1) a no_ledger same

pub goes_sent : (d : DeskView) (m : ℕ) (op : Op) → GoesOn d (submitted d m op)
goes_sent d m op = search (arith, goes_with, map-at_place, put_plans, sending_grows)

pub goes_full : (d : DeskView) (m : ℕ) → GoesOn d (after_full d m)
goes_full d m = search (arith, goes_with, map-at_place, same_lists, d.kept)

pub goes_submitted : (d d' : DeskView) (m : ℕ) (op : Op) → d' ≡ submitted d m op → GoesOn d d'
goes_submitted d d' m op e = rw e (goes_sent d m op)

pub goes_fuller : (d d' : DeskView) (m : ℕ) → d' ≡ after_full d m → GoesOn d d'
goes_fuller d d' m e = rw e (goes_full d m)

pub goes_fulls : (n : ℕ) (d : DeskView) (m : ℕ) → GoesOn d (after_fulls n d m)
goes_fulls zero d m = goes_same d
goes_fulls (suc n) d m =
    goes_further d (after_fulls n d m) (after_fulls (suc n) d m) (goes_fulls n d m) (goes_full (after_fulls n d m) m)

-- ---- looking

pub goes_looking : (old new : DeskView) → Looks old new → GoesOn old new
goes_looking old new l = let m = looks_move old new l in record {
  seat = ap seat_of_desk l.rest;
  handles = ap (λ (d : DeskView). d.handles) l.rest;
  plan = ap (λ (d : DeskView). plans d.ledgers) l.rest;
  lists = same_lists old.ledgers new.ledgers (ap (λ (d : DeskView). d.ledgers) l.rest);
  taken = m.taken;
  drained = m.drained;
  quiet = m.quiet;
}

pub goes_quiet : (old new : DeskView) → EndsQuiet old new → GoesOn old new
goes_quiet old new q = goes_looking old new (quiet_looks old new q)

-- ---- looking and collecting

-- the desk goes on, no more is outstanding than was, the ledgers go on saying what the lanes do, and each of these
-- tickets
-- that was owned still is
pub record Stays (old new : DeskView) (left : TicketView → Type 0) : Type 0 where
  pub goes_on : GoesOn old new
  pub fewer : outstanding new.ledgers ≤ outstanding old.ledgers
  pub tied : IsDesk old → IsDesk new
  pub tickets : (t : TicketView) → Owns old t → left t → Owns new t

-- any ticket, and each that isn't of the operation
abbrev pub any_one : TicketView → Type 0
any_one t = Unit

abbrev pub not_of : Operation → TicketView → Type 0
not_of o t = t.operation ≢ o

-- so it stays a desk
pub desk_stays : (old new : DeskView) (left : TicketView → Type 0) → Stays old new left
    → (outstanding old.ledgers ≤ old.handles) × IsDesk old
    → (outstanding new.ledgers ≤ new.handles) × IsDesk new
desk_stays old new left s was =
    (let h = s.goes_on.handles in let f = s.fewer in let w = was.0 in omega arith, s.tied was.1)

pub looks_stays : (old new : DeskView) (left : TicketView → Type 0) → Looks old new → Stays old new left
looks_stays old new left l = search (arith, goes_looking, looks_outstanding, tied_looks, looking_leaves)

stays_chain : (a b c : DeskView) (left : TicketView → Type 0) → Stays a b any_one → Stays b c left → Stays a c left
stays_chain a b c left x y =
    search (arith, goes_further, x.goes_on, x.fewer, y.fewer, y.tied, x.tied, y.tickets, x.tickets)

-- an outstanding operation is collected, and perhaps its number is free
completed_stays : (d new : DeskView) (o : Operation) (code : Code) (kept : finmap.FinMap nat_cmp Operation)
    (left : TicketView → Type 0)
    → IsOut d.ledgers o → drained_code o d.drained ≡ Some code → new ≡ record (completed d o code) { kept = kept }
    → outstanding new.ledgers ≤ outstanding d.ledgers
    → ((t : TicketView) → Owns d t → left t → (t.operation ≢ o) × ((k : ℕ) → finmap.get kept k ≢ Some t.operation))
    → Stays d new left
completed_stays d new o code kept left out drained is fewer each = rw is (record {
  goes_on = goes_with d d.requests (completed d o code).ledgers (completed d o code).events kept refl
      (put_plans d.ledgers o.manager (with_collected (ledger d.ledgers o.manager) o.number code) refl)
      (collecting_grows d.ledgers o code);
  fewer = rw is at fewer;
  tied = tied_collected d o code out.known drained;
  tickets = λ t owned l. record {
    opening = owned.opening;
    thread = owned.thread;
    out = collected_keeps_out d.ledgers o code out.known t.operation owned.out (each t owned l).0;
    loose = (each t owned l).1;
  };
})

pub collects_stays : (old new : DeskView) (o : Operation) (code : Code) → Collects old new o code
    → Stays old new (not_of o)
collects_stays old new o code x =
    stays_chain old x.before new (not_of o) (looks_stays old x.before any_one x.looks)
    (completed_stays x.before new o code x.before.kept (not_of o) x.out x.drained x.collected
    (omega (arith, looks_outstanding old x.before x.looks, x.fewer)) (λ t owned differs. (differs, owned.loose)))

-- an operation that was kept has no ticket
takes_stays : (old new : DeskView) (number : ℕ) (code : Code) → TakesKept old new number code → Stays old new any_one
takes_stays old new number code x =
    completed_stays old new x.operation code (finmap.remove old.kept number) any_one x.out x.drained x.taken
    (omega (arith, x.fewer))
    (λ t owned _.
    (λ same. owned.loose number (x.kept ∙ ap Some (sym same)), freed_loose old number t.operation owned.loose))

pub kept_stays : (old new : DeskView) (number : ℕ) (code : Code) → CollectsKept old new number code
    → Stays old new any_one
kept_stays old new number code x =
    stays_chain old x.before new any_one (looks_stays old x.before any_one x.looks)
    (takes_stays x.before new number code x.takes)

pub least_stays : (old new : DeskView) (m number : ℕ) (code : Code) → CollectsLeast old new m number code
    → Stays old new any_one
least_stays old new m number code x =
    stays_chain old x.before new any_one (looks_stays old x.before any_one (quiet_looks old x.before x.quiet))
    (takes_stays x.before new number code x.takes)

-- a call may find nothing
either_stays : {A : Type 0} (old new : DeskView) (left : TicketView → Type 0) (P : A → Type 0)
    → ((a : A) → P a → Stays old new left)
    → (r : Option A) → IfSome r P → (IsNone r → EndsQuiet old new) → Stays old new left
either_stays old new left P each None some none = looks_stays old new left (quiet_looks old new (none refl))
either_stays old new left P each (Some a) some none = each a some

pub tried_stays : (old new : DeskView) (o : Operation) (r : Option Code) → IfSome r (Collects old new o)
    → (IsNone r → EndsQuiet old new)
    → Stays old new (not_of o)
tried_stays old new o = either_stays old new (not_of o) (Collects old new o) (collects_stays old new o)

pub tried_kept_stays : (old new : DeskView) (k : ℕ) (r : Option Code) → IfSome r (CollectsKept old new k)
    → (IsNone r → EndsQuiet old new)
    → Stays old new any_one
tried_kept_stays old new k = either_stays old new any_one (CollectsKept old new k) (kept_stays old new k)

pub tried_any_stays : (old new : DeskView) (m : ℕ) (r : Option (ℕ × Code))
    → IfSome r (λ p. CollectsLeast old new m p.0 p.1)
    → (IsNone r → EndsQuiet old new) → Stays old new any_one
tried_any_stays old new m =
    either_stays old new any_one (λ p. CollectsLeast old new m p.0 p.1) (λ p. least_stays old new m p.0 p.1)

pub goes_collecting : (old new : DeskView) (o : Operation) (code : Code) → Collects old new o code → GoesOn old new
goes_collecting old new o code x = (collects_stays old new o code x).goes_on

-- what a call sent, where lanes may have been full before, was collected
pub goes_called : (n : ℕ) (old sent new : DeskView) (m : ℕ) (op : Op) (o : Operation) (code : Code)
    → sent ≡ submitted (after_fulls n old m) m op
    → Collects sent new o code → GoesOn old new
goes_called n old sent new m op o code e x = search (arith, goes_further, goes_fulls, goes_submitted, goes_collecting)

-- ---- ending

pub goes_out : (d : DeskView) (e : EndedView) → Ends d e → GoesOut d e
goes_out d e h =
    search (
      arith,
      map-alike,
      same_lists,
      e.requests,
      d.requests,
      h.requests,
      h.thread,
      h.completions,
      d.ledgers,
      e.ledgers,
    )

-- ---- which tickets are still owned as a desk goes on

pub sent_leaves : (old : DeskView) (m : ℕ) (op : Op) → IsKnown old.ledgers m → LeavesTickets old (submitted old m op)
sent_leaves old m op known t owned = search (arith, sent_keeps_out, t.operation)

pub sent_fresh : (old : DeskView) (m : ℕ) (op : Op) → IsKnown old.ledgers m → (t : TicketView) → Owns old t
    → t.operation ≢ next_operation old.ledgers m
sent_fresh old m op known t owned =
    unsent old.ledgers m op known t.operation (record { known = owned.out.known; sent = owned.out.sent })

pub kept_leaves : (old : DeskView) (o : Operation) (number : ℕ)
    → LeavesOthers old (record old { kept = finmap.insert old.kept number o }) o
kept_leaves old o number t owned differs =
    search (arith, cases_eq, inserted_there, inserted_other, old.kept, owned.loose)

pub freed_leaves : (old : DeskView) (number : ℕ)
    → LeavesTickets old (record old { kept = finmap.remove old.kept number })
freed_leaves old number t owned = search (arith, freed_loose, t.operation)

pub full_leaves : (old : DeskView) (m : ℕ) → LeavesTickets old (after_full old m)
full_leaves old m t owned =
    record { opening = owned.opening; thread = owned.thread; out = owned.out; loose = owned.loose }

-- a call collects what it sent itself, which had no ticket before
pub called_leaves : (n : ℕ) (old sent new : DeskView) (m : ℕ) (op : Op) (o : Operation) (code : Code)
    → IsKnown old.ledgers m
    → sent ≡ submitted (after_fulls n old m) m op → o ≡ next_operation old.ledgers m → Collects sent new o code
    → LeavesTickets old new
called_leaves n old sent new m op o code known e named x t owned =
    let full : DeskView = after_fulls n old m in
    let same : full.ledgers ≡ old.ledgers = (fulls_alike n old full m refl).ledgers in
    let known_still : IsKnown full.ledgers m = rw same known in
    let still : Owns full t = fulls_leave n old m t owned in
    let fresh : t.operation ≢ next_operation old.ledgers m = sent_fresh old m op known t owned in
    let here : Owns sent t = rw e (sent_leaves full m op known_still t still) in
    (collects_stays sent new o code x).tickets t here (λ same. fresh (same ∙ named))
  where
    fulls_leave : (n : ℕ) (old : DeskView) (m : ℕ) → LeavesTickets old (after_fulls n old m)
    fulls_leave zero old m t owned = owned
    fulls_leave (suc n) old m t owned = full_leaves (after_fulls n old m) m t (fulls_leave n old m t owned)

pub kept_leaves_by : (old new : DeskView) (o : Operation) (number : ℕ)
    → new ≡ record old { kept = finmap.insert old.kept number o } → LeavesOthers old new o
kept_leaves_by old new o number e t owned differs = rw e (kept_leaves old o number t owned differs)

pub released_leaves : (old new : DeskView) (number : ℕ) (r : Option Operation) (o : Operation) → r ≡ Some o
    → IfSome r (λ _. new ≡ record old { kept = finmap.remove old.kept number }) → LeavesTickets old new
released_leaves old new number None o is e t owned = absurd (let no : None ≡ Some o = is in cc)
released_leaves old new number (Some p) o is e t owned = rw e (freed_leaves old number t owned)

-- the same of a desk and an operation that are named otherwise
pub leaves_seen : (a b new : DeskView) → a ≡ b → LeavesTickets a new → LeavesTickets b new
leaves_seen a b new e h = rw e at h

pub others_seen : (a b new : DeskView) (p o : Operation) → a ≡ b → p ≡ o → LeavesOthers a new p → LeavesOthers b new o
others_seen a b new p o e named h t owned differs = h t (rw e owned) (λ same. differs (same ∙ named))

-- what a sending leaves
pub ruleset sent_rules = (sent_leaves, sent_fresh, full_leaves)
