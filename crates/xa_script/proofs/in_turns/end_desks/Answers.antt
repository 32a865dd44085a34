use Rattle.xa_base.proofs.{◌++◌, ◌∷◌, [], List, length, append-nil, length-append, map, sym, ap, ◌∙◌, refl, arith}
use Rattle.xa_base.proofs.{rules, into_iter_items, next_there, next_place, none_of, all_at, taken_next, length-map}
use Rattle.xa_base.proofs.{map-append}
use Rattle.xa_desk.specs.{EndedView, AllKept}
use Rattle.xa_base.specs.Lists.Chain.{none, more}
use Rattle.script_session.specs.{Session, ThreadLog}
use Rattle.xa_script.specs.{HasEndedDesk, closing_of}
use Rattle.xa_script.proofs.in_turns.end_desks.Goals as goal

pub loop-session-init : goal.loop-session-init
loop-session-init g c =
    record {
      so_far = search rules;
      logs_are = c.in_ok-logs.ensures.items;
      ends = none [] (closing_of c.in_ok-ended.ended.items c.args.turns.now c.args.transcript.now) refl
          (ap (λ (l : List EndedView). closing_of l c.args.turns.now c.args.transcript.now)
          c.in_ok-ended.ensures.items);
      many = ap length c.in_ok-ended.ensures.items;
      room = let len = c.len.ensures in let is = c.args.sessions.ok in let room = c.in_ok-ended.ensures.capacity in
          omega arith;
      room_for_logs = let len = c.len-2.ensures in let is = c.args.sessions.ok in let
          room = c.in_ok-logs.ensures.capacity in omega arith;
    }

pub end_session-requires : goal.end_session-requires
end_session-requires g c =
    all_at (λ x. AllKept x.desk) c.args.sessions.items (length c.loop-session.yielded) c.in-Some.session c.requires
    (next_there c.args.sessions.items c.loop-session.yielded (into_iter_items c.next.new.self) c.in-Some.session
    (ap (λ l. c.loop-session.yielded ++ l) (sym c.in-Some.ensures.steps.0) ∙ c.loop-session.invariant.so_far))

pub push_reserved-requires : goal.push_reserved-requires
push_reserved-requires g c =
    let i = c.loop-session.invariant in
    let here =
    (next_place c.loop-session.yielded _ (into_iter_items c.next.new.self) c.args.sessions.items c.in-Some.session
    c.in-Some.ensures.steps.0 i.so_far).0 in
    let many = i.many in
    let room = i.room in
    omega (arith, here, many, room, c.loop-session.ended.ok)

pub push_reserved-requires-in-loop-session : goal.push_reserved-requires-in-loop-session
push_reserved-requires-in-loop-session g c =
    let i = c.loop-session.invariant in
    let here =
    (next_place c.loop-session.yielded _ (into_iter_items c.next.new.self) c.args.sessions.items c.in-Some.session
    c.in-Some.ensures.steps.0 i.so_far).0 in
    let many = ap length i.logs_are ∙ length-map c.loop-session.yielded (λ (x : Session). x.log) in
    let room = i.room_for_logs in
    omega (arith, here, many, room, c.loop-session.logs.ok)

pub loop-session-preserved : goal.loop-session-preserved
loop-session-preserved g c =
    let i = c.loop-session.invariant in
    let d = c.in-Some.session in
    let old = closing_of c.loop-session.ended.items c.loop-session.turns c.loop-session.transcript in
    let ended : HasEndedDesk d old
    (closing_of c.push_reserved.new.self.items c.end_session.new.turns c.end_session.new.transcript) =
    rw c.push_reserved.ensures.items (c.in_ok-end.ensures.ended c.loop-session.ended.items) in
    let logs =
    c.push_reserved-in-loop-session.ensures.items
    ∙ ap (λ (x : ThreadLog). c.loop-session.logs.items ++ x ∷ []) c.in_ok-end.ensures.log in
    let longer = ap length c.push_reserved.ensures.items in
    let many = i.many in
    record {
      so_far = taken_next c.loop-session.yielded _ (into_iter_items c.next.new.self) _ d c.in-Some.ensures.steps.0
          i.so_far;
      logs_are = logs ∙ ap (λ l. l ++ d.log ∷ []) i.logs_are
          ∙ sym (map-append (λ (x : Session). x.log) c.loop-session.yielded (d ∷ []));
      ends = more c.loop-session.yielded d old _ i.ends ended;
      many = omega (
        arith,
        length-append c.loop-session.ended.items (c.in_ok-end.end ∷ []),
        length-append c.loop-session.yielded
            (d ∷ []),
      );
      room = rw c.push_reserved.ensures.capacity i.room;
      room_for_logs = rw c.push_reserved-in-loop-session.ensures.capacity i.room_for_logs;
    }

-- once none is left, those whose desks have ended are all
pub returns-clause-ended : goal.returns-clause-ended
returns-clause-ended g c =
    let i = c.loop-session.invariant in
    let rest = c.loop-session.session-iterator.rest in
    let left = none_of rest.items (omega (arith, rest.ok, c.in-None.ensures.steps.0)) in
    let all = rw (left, append-nil c.loop-session.yielded) at i.so_far in
    rw all at i.ends

pub returns-clause-logs : goal.returns-clause-logs
returns-clause-logs g c =
    let i = c.loop-session.invariant in
    let rest = c.loop-session.session-iterator.rest in
    let left = none_of rest.items (omega (arith, rest.ok, c.in-None.ensures.steps.0)) in
    let all = rw (left, append-nil c.loop-session.yielded) at i.so_far in
    i.logs_are ∙ ap (map _) all
