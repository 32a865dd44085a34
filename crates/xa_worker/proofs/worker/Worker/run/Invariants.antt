use Rattle.xa_worker.specs.{Paces, SameWorker, Extends, IsStored}
use Rattle.xa_worker.proofs.worker.Worker.run.Given as goal

abbrev pub invariant-loop : goal.invariant-loop
invariant-loop g l = record {
  same : SameWorker l.fn.self l.worker;
  journal : Extends l.fn.self.journal l.worker.journal;
  stored : IsStored (g.S.Store.knows l.initial.store) (g.S.Store.may_leave l.initial.store) l.fn.self
      → IsStored (g.S.Store.knows l.store) (g.S.Store.may_leave l.store) l.worker;
  paced : Paces g.P.Pace.told l.fn.self.journal l.worker.journal l.initial.pace l.pace;
}
