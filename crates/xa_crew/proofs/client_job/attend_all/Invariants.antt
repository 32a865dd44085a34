use Rattle.xa_base.proofs.{vec_capacity, Handled}
use Rattle.xa_crew.specs.{HasWorked}
use Rattle.xa_crew.proofs.client_job.attend_all.Given as goal

-- the first clients have worked
abbrev pub invariant-loop-job : goal.invariant-loop-job
invariant-loop-job g l = record {
  worked : Handled (HasWorked g.C.Client.works) l.fn.jobs.items l.yielded l.job-iterator l.done
      (vec_capacity l.fn.done);
  idled : g.I.Idle.leads l.fn.idle l.idle;
}
