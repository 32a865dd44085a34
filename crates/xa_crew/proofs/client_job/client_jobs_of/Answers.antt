use Rattle.xa_base.proofs.{arith, refl, sym, ◌∙◌, all_at, all_beside, all_handled, beside_at, each_part, fewer_made}
use Rattle.xa_base.proofs.{fits_next, next_beside, next_handled, some_beside, pushed_all}
use Rattle.xa_desk.specs.{AllKept}
use Rattle.xa_crew.specs.{ClientJob, CanTell, IsReady}
use Rattle.xa_crew.proofs.client_job.client_jobs_of.Goals as goal

pub loop-client-preserved : goal.loop-client-preserved
loop-client-preserved g c =
    let i = c.loop-client.invariant in
    let job : ClientJob g.row.C.Denot =
    record { client = c.in-Some.client; desk = c.in-Some-next.desk; outstanding = c.in-Some-next-2.outstanding } in
    let pushed = c.push_reserved.ensures.items in
    let desk = c.in-Some-next.ensures.cases in
    let room = c.in-Some-next-2.ensures.cases in
    record {
      clients =
          next_handled i.clients job.client job c.next.new.self c.push_reserved.new.self c.in-Some.ensures.steps pushed
          c.push_reserved.ensures.capacity refl;
      desks = next_beside i.desks job c.push_reserved.new.self.items c.next-in-loop-client.new.self desk pushed;
      rooms = next_beside i.rooms job c.push_reserved.new.self.items c.next-in-loop-client-2.new.self room pushed;
      ready = pushed_all IsReady c.loop-client.jobs.items c.push_reserved.new.self.items job pushed i.ready (record {
        kept = all_at AllKept c.args.desks.items _ job.desk c.requires.kept
            (beside_at i.desks job.desk c.next-in-loop-client.new.self desk.0);
        tell = all_at CanTell c.args.outstanding.items _ job.outstanding c.requires.rooms
            (beside_at i.rooms job.outstanding c.next-in-loop-client-2.new.self room.0);
      });
    }

pub push_reserved-requires : goal.push_reserved-requires
push_reserved-requires g c =
    omega (
      arith,
      fits_next c.loop-client.invariant.clients c.in-Some.client c.next.new.self c.in-Some.ensures.steps.0
          c.requires.room,
    )

-- a client is left, so a desk is, and a room
pub unreachable-requires : goal.unreachable-requires
unreachable-requires g c =
    let fewer = fewer_made c.loop-client.invariant.clients c.in-Some.client c.next.new.self c.in-Some.ensures.steps.0 in
    some_beside c.loop-client.invariant.desks (omega (arith, fewer, c.requires.as_many)) c.in_default.ensures.cases.0

pub unreachable-requires-in_default-next : goal.unreachable-requires-in_default-next
unreachable-requires-in_default-next g c =
    let fewer = fewer_made c.loop-client.invariant.clients c.in-Some.client c.next.new.self c.in-Some.ensures.steps.0 in
    some_beside c.loop-client.invariant.rooms (omega (arith, fewer, c.requires.as_many_rooms))
    c.in_default-next.ensures.cases.0

pub returns-clause-clients : goal.returns-clause-clients
returns-clause-clients g c =
    each_part (λ a. a.client) _ _ (all_handled c.loop-client.invariant.clients c.in-None.ensures.steps.0)

pub returns-clause-desks : goal.returns-clause-desks
returns-clause-desks g c =
    let clients = all_handled c.loop-client.invariant.clients c.in-None.ensures.steps.0 in
    all_beside c.loop-client.invariant.desks (clients.as_many ∙ sym c.requires.as_many)

pub returns-clause-ready : goal.returns-clause-ready
returns-clause-ready g c = c.loop-client.invariant.ready
