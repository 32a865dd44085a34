use Rattle.xa_crew.proofs.client_job.attend.Goals as goal

pub returns-clause-worked : goal.returns-clause-worked
returns-clause-worked g c = record {
  left = c.work.new.desk;
  worked = c.work.ensures.works;
  goes_on = c.work.ensures.goes_on;
  ends = rw c.requires.tell.none at c.end_desk-desk.ensures.ends;
}
