use Rattle.xa_base.proofs.{◌≡◌, ◌++◌, map, length, vec_capacity, into_iter_items, into_iter_len}
use Rattle.xa_crew_again.proofs.again.with_scans.Given as goal

-- the first clients have the first scans
abbrev pub invariant-loop-client : goal.invariant-loop-client
invariant-loop-client g l = record {
  so_far : l.yielded ++ into_iter_items l.client-iterator ≡ l.fn.clients.items;
  clients : map (λ w. w.client) l.given.items ≡ l.yielded;
  scans : map (λ w. w.scan) l.given.items ++ into_iter_items l.scans ≡ l.fn.scans.items;
  room : vec_capacity l.given ≡ vec_capacity l.fn.given;
  counted : into_iter_len l.scans ≡ length (into_iter_items l.scans);
}
