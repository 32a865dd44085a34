use Rattle.xa_base.proofs.{◌≡◌, ◌≤◌, ◌++◌, [], true, length, map, All, spare, into_iter_items, into_iter_len}
use Rattle.xa_log.specs.{no_records}
use Rattle.xa_log_shared.specs.{own_records}
use Rattle.xa_log_shared.proofs.opening.open_parts.Given as goal

abbrev pub invariant-loop-sender : goal.invariant-loop-sender
invariant-loop-sender g l = record {
  so_far : l.yielded ++ into_iter_items l.sender-iterator ≡ into_iter_items l.initial.sender-iterator;
  counted : into_iter_len l.sender-iterator ≡ length (into_iter_items l.sender-iterator);
  count : length l.answers.items ≡ length l.yielded;
  clients : length l.clients.items ≡ length l.yielded;
  all : length (into_iter_items l.initial.sender-iterator) ≡ l.coordinators;
  asks : map (λ c. c.asks) l.clients.items ≡ l.yielded;
  lines : map (λ c. c.answers.line) l.clients.items ≡ map (λ s. s.line) l.answers.items;
  sent : All (λ s. s.sent ≡ []) l.answers.items;
  new : All
      (λ c. (own_records c.records ≡ no_records.records) × (c.is_known ≡ true) × (c.room ≡ l.room)
      × (l.room ≤ spare c.records) ×
      (c.answers.taken ≡ [])) l.clients.items;
}
