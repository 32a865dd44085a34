use Rattle.xa_base.proofs.{refl}
use Rattle.xa_desk.specs.{logged, ready_with}
use Rattle.xa_desk.proofs.KeyRows.{marked_least, marked_nowhere}
use Rattle.xa_desk.proofs.book.Book.first_ready.Goals as goal

pub returns-clause-found : goal.returns-clause-found
returns-clause-found c =
    let b = c.self.inside in
    rw (← c.self.view_is)
    (marked_least (ready_with (logged b.drained.items) 0) refl b.ready_marks b.kept.items
    c.self.invariant.ready_marks c.in_ok-place.place c.in_ok-place.ensures.found)

pub returns-in_err-place-clause-absent : goal.returns-in_err-place-clause-absent
returns-in_err-place-clause-absent c =
    let b = c.self.inside in
    rw (c.from_residual.ensures, ← c.self.view_is)
    (marked_nowhere (ready_with (logged b.drained.items) 0) refl b.ready_marks b.kept.items
    c.self.invariant.ready_marks c.in_err-place.ensures.absent)
