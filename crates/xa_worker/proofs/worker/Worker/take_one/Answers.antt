use Rattle.xa_base.proofs.{◌≡◌, ◌∷◌, ℕ, Some, None, inl, inr, ◌<◌, ◌∙◌, sym, ap, refl, arith, length, length-append}
use Rattle.xa_base.proofs.{length-set, append-nil, []}
use Rattle.xa_lane.specs.{has_ended, Took, EndOf, Item}
use Rattle.xa_words.specs.{Request}
use Rattle.xa_tables.specs.{Managed}
use Rattle.xa_worker.specs.{Inside, IsWorker, RequestLane, IsTiedWorker, IsUnfit, entry_next, working_of}
use Rattle.xa_worker.proofs.Ties.{unentered, marked_end, ended_item, took_as, takes_one, tied_nothing, tied_end}
use Rattle.xa_worker.proofs.Ties.{tied_hold, tied_carried}
use Rattle.xa_worker.proofs.Lanes.{lanes-flushes, lanes-answers}
use Rattle.xa_worker.proofs.Storing.{all_durable, still_stored, answered_stored}
use Rattle.xa_worker.proofs.worker.Worker.take_one.Given.{Over}
use Rattle.xa_worker.proofs.worker.Worker.take_one.Goals as goal
use Rattle.xa_worker.proofs.worker.Worker.take_one.Goals.{After-send_settled, After-carry_out}
use Rattle.xa_worker.proofs.worker.Worker.take_one.Goals.{then-request-parcel-via-then-request-parcel}
use Rattle.xa_worker.proofs.worker.Worker.take_one.Goals.{then-request-parcel-via-else-request-parcel+then-room-eq0}

-- nothing was there, and those that waited were offered

nothing : (g : Over) (c : After-send_settled g)
    → IsTiedWorker
    (record (working_of c.self.inside) { receiver = c.take_parcel.new.self; out = c.send_settled.new.out })
nothing g c =
    tied_nothing (working_of c.self.inside) c.send_settled.new.out
    (lanes-flushes c.self.inside.out c.send_settled.new.out c.send_settled.ensures.flushed)
    c.send_settled.ensures.put c.self.invariant.tied c.take_parcel.new.self c.in-None.ensures.took

pub invariant_of-self : goal.invariant_of-self
invariant_of-self g c =
    unentered _ _ c.self.invariant refl refl refl refl
    (λ s. ap (λ (r : RequestLane). has_ended s r.taken) c.in-None.ensures.took) (nothing g c)

pub returns-then-owes-clause-same : goal.returns-then-owes-clause-same
returns-then-owes-clause-same g c =
    rw (← c.self.view_is)
    (record {
      number = refl;
      first = refl;
      threads = refl;
      receiver = c.take_parcel.ensures.same;
      lanes = lanes-flushes c.self.inside.out c.send_settled.new.out c.send_settled.ensures.flushed;
    })

pub returns-then-owes-clause-stored : goal.returns-then-owes-clause-stored
returns-then-owes-clause-stored g c stored =
    let known = rw (← c.self.view_is) at stored.known in
    all_durable _ _ _ (nothing g c) (c.send_settled.ensures.known known) (c.send_settled.ensures.settled known)

-- an end mark was taken

end_seen : (w : Inside) (r' : RequestLane) (s : ℕ) → IsWorker w → Took w.receiver (EndOf s) r'
    → IsTiedWorker (record (working_of w) { receiver = r' })
end_seen w r' s i took = tied_end (working_of w) w.out refl (λ k. refl) i.tied r' s took

pub invariant_of-self-in-None-item : goal.invariant_of-self-in-None-item
invariant_of-self-in-None-item g c =
    let i = c.self.invariant in
    let took = took_as _ _ _ _ _ c.in-None-item.is c.in-Some.ensures.took in
    let below : c.in-Some.parcel.from < 8 = omega (arith, took.0, i.tied.senders, i.few) in
    record {
      tied = end_seen c.self.inside c.take_parcel.new.self c.in-Some.parcel.from i took;
      room = i.room;
      marks = simp length-set i.marks;
      ended = λ s low.
          marked_end c.self.inside.ended c.self.inside.receiver.taken c.in-Some.parcel.from i.marks below i.ended s low
          ∙ sym (ap (λ (r : RequestLane). has_ended s r.taken) took.1);
      few = i.few;
      none = i.none;
      enough = i.enough;
    }

pub returns-in-None-item-clause-takes : goal.returns-in-None-item-clause-takes
returns-in-None-item-clause-takes g c =
    let none = rw (← c.self.view_is) at c.requires.free in
    rw (← c.self.view_is)
    (c.in-Some.parcel.from, none, took_as _ _ _ _ _ c.in-None-item.is c.in-Some.ensures.took, refl)

pub returns-in-None-item-clause-stored : goal.returns-in-None-item-clause-stored
returns-in-None-item-clause-stored g c stored =
    let s = rw (← c.self.view_is) at stored in
    still_stored _ _ _ _ (working_of c.self.inside) _ s s.known (λ K may. may) refl refl ([], sym (append-nil _))
    (λ k. refl)

-- a request can't be carried out

holds : (w : Inside) (r' : RequestLane) (s : ℕ) (r : Request) → IsWorker w → w.held ≡ None
    → Took w.receiver (Item s r) r'
    → IsUnfit s r w.manager.room → IsTiedWorker (record (working_of w) { receiver = r'; held = Some (s, r) })
holds w r' s r i none took unfit = tied_hold (working_of w) w.out refl (λ k. refl) i.tied r' s r none took unfit

pub invariant_of-self-then-request-parcel : goal.invariant_of-self-then-request-parcel
invariant_of-self-then-request-parcel g c =
    let unfit : IsUnfit c.in-Some.parcel.from c.in-Some-item.request c.self.inside.manager.room =
    elim c.then-request-parcel.branch [
      | then-request-parcel-via-then-request-parcel w ↦ inl w.if-request-parcel.true
      | then-request-parcel-via-else-request-parcel+then-room-eq0 w ↦ inr (sym w.room.ensures ∙ w.if-room-eq0.true)
    ] in
    let none = rw (← c.self.view_is) at c.requires.free in
    let took = took_as _ _ _ _ _ c.in-Some-item.is c.in-Some.ensures.took in
    unentered _ _ c.self.invariant refl refl refl refl
    (λ s. ap (λ (r : RequestLane). has_ended s r.taken) took.1
    ∙ ended_item s c.in-Some.parcel.from c.self.inside.receiver.taken c.in-Some-item.request)
    (holds c.self.inside c.take_parcel.new.self c.in-Some.parcel.from c.in-Some-item.request c.self.invariant
    none took unfit)

pub returns-then-request-parcel-clause-takes : goal.returns-then-request-parcel-clause-takes
returns-then-request-parcel-clause-takes g c =
    let unfit : IsUnfit c.in-Some.parcel.from c.in-Some-item.request c.self.inside.manager.room =
    elim c.then-request-parcel.branch [
      | then-request-parcel-via-then-request-parcel w ↦ inl w.if-request-parcel.true
      | then-request-parcel-via-else-request-parcel+then-room-eq0 w ↦ inr (sym w.room.ensures ∙ w.if-room-eq0.true)
    ] in
    let none = rw (← c.self.view_is) at c.requires.free in
    rw (← c.self.view_is) (
      c.in-Some.parcel.from,
      c.in-Some-item.request,
      none,
      took_as _ _ _ _ _ c.in-Some-item.is
          c.in-Some.ensures.took,
      unfit,
      refl,
    )

pub returns-then-request-parcel-clause-stored : goal.returns-then-request-parcel-clause-stored
returns-then-request-parcel-clause-stored g c stored =
    let s = rw (← c.self.view_is) at stored in
    still_stored _ _ _ _ (working_of c.self.inside) _ s s.known (λ K may. may) refl refl ([], sym (append-nil _))
    (λ k. refl)

-- a request is carried out

carried : (g : Over) (c : After-carry_out g)
    → IsTiedWorker
    (record (working_of c.self.inside) {
      manager = c.carry_out.new.manager;
      receiver = c.take_parcel.new.self;
      out = c.carry_out.new.out;
      journal = c.carry_out.new.journal.items;
    })
carried g c =
    let none = rw (← c.self.view_is) at c.requires.free in
    let d = c.carry_out.ensures in
    tied_carried _ (working_of c.self.inside) c.take_parcel.new.self c.in-Some.parcel.from c.in-Some-item.request
    c.carry_out.new.manager c.carry_out.new.out c.carry_out.new.journal.items c.self.invariant.tied none
    (took_as _ _ _ _ _ c.in-Some-item.is c.in-Some.ensures.took) c.if-request-parcel.false d.manager d.journal
    d.out

pub invariant_of-self-in-Some-item : goal.invariant_of-self-in-Some-item
invariant_of-self-in-Some-item g c =
    let i = c.self.invariant in
    let d = c.carry_out.ensures in
    let more = simp length-append at (ap length d.journal) in
    let room = ap (λ (x : Managed). x.room) d.manager in
    let threads = ap (λ (x : Managed). x.threads) d.manager in
    let took = took_as _ _ _ _ _ c.in-Some-item.is c.in-Some.ensures.took in
    record {
      tied = carried g c;
      room = omega (arith, more, room, d.space, i.room);
      marks = i.marks;
      ended = λ s low.
          i.ended s low
          ∙ sym
          (ap (λ (r : RequestLane). has_ended s r.taken) took.1
          ∙ ended_item s c.in-Some.parcel.from c.self.inside.receiver.taken c.in-Some-item.request);
      few = omega (arith, threads, i.few);
      none = i.none;
      enough = i.enough;
    }

pub returns-else-room-eq0-clause-takes : goal.returns-else-room-eq0-clause-takes
returns-else-room-eq0-clause-takes g c =
    let d = c.carry_out.ensures in
    let none = rw (← c.self.view_is) at c.requires.free in
    let room : 0 < c.self.inside.manager.room = omega (arith, c.room.ensures, c.if-room-eq0.false) in
    rw (← c.self.view_is, d.late)
    (takes_one _ (working_of c.self.inside) _ c.self.inside.manager.tables.shut refl (
      c.in-Some.parcel.from,
      c.in-Some-item.request,
      record {
        free = none;
        took = took_as _ _ _ _ _ c.in-Some-item.is c.in-Some.ensures.took;
        thread =
            c.if-request-parcel.false;
        room =
            room;
        manager = d.manager;
        journal = d.journal;
        out = d.out;
        rest = refl;
      },
    ))

pub returns-else-room-eq0-clause-same : goal.returns-else-room-eq0-clause-same
returns-else-room-eq0-clause-same g c =
    let threads = ap (λ (x : Managed). x.threads) c.carry_out.ensures.manager in
    rw (← c.self.view_is)
    (record {
      number = refl;
      first = refl;
      threads = threads;
      receiver = c.take_parcel.ensures.same;
      lanes = lanes-answers _ _ _ _ _ c.carry_out.ensures.out;
    })

pub returns-else-room-eq0-clause-stored : goal.returns-else-room-eq0-clause-stored
returns-else-room-eq0-clause-stored g c stored =
    let s = rw (← c.self.view_is) at stored in
    let d = c.carry_out.ensures in
    answered_stored _ _ _ _ (working_of c.self.inside) _ _ _ _ d.out (carried g c) s (d.known s.known)
    (d.settled s.known) d.crash refl refl
    (entry_next c.in-Some-item.request c.self.inside.manager.tables ∷ [], d.journal)
