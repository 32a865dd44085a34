use Rattle.xa_base.proofs.{◌≡◌, ◌++◌, map, length, vec_capacity, into_iter_items, into_iter_len}
use Rattle.demo_bank.specs.{ReadsBack}
use Rattle.demo_bank_days.specs.{ForEach}
use Rattle.demo_bank_days.proofs.day.all_off_work.Given as goal

-- the first tellers are off work
abbrev pub invariant-loop-attended : goal.invariant-loop-attended
invariant-loop-attended g l = record {
  so_far : l.yielded ++ into_iter_items l.attended-iterator ≡ l.fn.clients.items;
  logs : ForEach (ReadsBack g.L.DecisionLog.state g.L.DecisionRecords.knows g.L.DecisionLog.loses g.L.ReopenLog.reopens)
      1 (map (λ a. a.client.client) l.yielded) (map (λ t. t.log) l.evening.tellers.items)
      l.evening.found.items;
  counted : l.thread ≡ length l.yielded;
  all_counted : into_iter_len l.attended-iterator ≡ length (into_iter_items l.attended-iterator);
  as_many_found : length l.evening.found.items ≡ length l.yielded;
  room_left : vec_capacity l.evening.found ≡ vec_capacity l.fn.evening.found;
  outcomes : l.evening.outcomes.items ≡ map (λ a. a.client.client.outcomes) l.yielded;
  as_many : length l.evening.tellers.items ≡ length l.yielded;
  room : vec_capacity l.evening.tellers ≡ vec_capacity l.fn.evening.tellers;
  room_too : vec_capacity l.evening.outcomes ≡ vec_capacity l.fn.evening.outcomes;
}
