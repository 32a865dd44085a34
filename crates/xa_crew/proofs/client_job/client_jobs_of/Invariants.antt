use Rattle.xa_base.proofs.{◌≡◌, vec_capacity, All, Handled, TakenBeside}
use Rattle.xa_crew.specs.{IsReady}
use Rattle.xa_crew.proofs.client_job.client_jobs_of.Given as goal

-- the first clients have the first desks, and room to tell
abbrev pub invariant-loop-client : goal.invariant-loop-client
invariant-loop-client g l = record {
  clients : Handled (λ c a. a.client ≡ c) l.fn.clients.items l.yielded l.client-iterator l.jobs
      (vec_capacity l.fn.jobs);
  desks : TakenBeside (λ a. a.desk) l.fn.desks.items l.jobs.items l.desks;
  rooms : TakenBeside (λ a. a.outstanding) l.fn.outstanding.items l.jobs.items l.rooms;
  ready : All IsReady l.jobs.items;
}
