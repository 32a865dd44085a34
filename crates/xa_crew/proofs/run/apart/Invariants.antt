use Rattle.xa_base.proofs.{◌≡◌, vec_capacity, Handled}
use Rattle.xa_crew.proofs.run.apart.Given as goal

-- the clients and the desks of the first threads
abbrev pub invariant-loop-worked : goal.invariant-loop-worked
invariant-loop-worked g l = record {
  clients : Handled (λ w a. a ≡ w.attended) l.fn.threads.items l.yielded l.worked-iterator l.clients
      (vec_capacity l.fn.clients);
  desks : Handled (λ w d. d ≡ w.desk) l.fn.threads.items l.yielded l.worked-iterator l.desks (vec_capacity l.fn.desks);
}
