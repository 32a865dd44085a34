use Rattle.xa_base.proofs.{◌≡◌, ◌≤◌, ◌++◌, [], length, map, vec_capacity, into_iter_items}
use Rattle.xa_script.specs.{closing_of, HaveEnded}
use Rattle.xa_script.proofs.in_turns.end_desks.Given as goal

-- the first desks have ended, and their threads' logs were given; the others are still to come, and there is room for
-- each
abbrev pub invariant-loop-session : goal.invariant-loop-session
invariant-loop-session g l = record {
  so_far : l.yielded ++ into_iter_items l.session-iterator ≡ l.fn.sessions.items;
  logs_are : l.logs.items ≡ map (λ x. x.log) l.yielded;
  ends : HaveEnded (closing_of [] l.fn.turns l.fn.transcript) l.yielded (closing_of l.ended.items l.turns l.transcript);
  many : length l.ended.items ≡ length l.yielded;
  room : length l.fn.sessions.items ≤ vec_capacity l.ended;
  room_for_logs : length l.fn.sessions.items ≤ vec_capacity l.logs;
}
