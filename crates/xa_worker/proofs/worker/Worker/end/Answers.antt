use Rattle.xa_base.proofs.{map, sym, ap, ◌∙◌, refl, append-nil, []}
use Rattle.xa_lane.specs.{but_full}
use Rattle.xa_worker.specs.{working_of}
use Rattle.xa_worker.proofs.Lanes.{lanes_alike}
use Rattle.xa_worker.proofs.Ties.{served_keeps, served_by}
use Rattle.xa_worker.proofs.worker.Worker.end.Goals as goal

pub new-requires-clause-served : goal.new-requires-clause-served
new-requires-clause-served g c =
    let f = rw (← c.self.view_is) at c.requires in
    served_by (working_of c.self.inside) _ c.self.invariant.tied f
    (c.end_all-ends.ensures ∙ ap (map but_full) c.into_senders.ensures)

pub returns-clause-same : goal.returns-clause-same
returns-clause-same g c =
    let e = lanes_alike _ _ (c.end_all-ends.ensures ∙ ap (map but_full) c.into_senders.ensures) in
    rw (c.new.ensures, ← c.self.view_is)
    (record {
      number = refl;
      first = refl;
      threads = refl;
      receiver = (refl, refl, refl, refl);
      lanes = e;
      journal = ([], sym (append-nil _));
    })

pub returns-clause-seat : goal.returns-clause-seat
returns-clause-seat g c = served_keeps _ _ (returns-clause-same g c)
