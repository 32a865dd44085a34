use Rattle.xa_desk.proofs.Books.{get-kept_of_zero}
use Rattle.xa_desk.proofs.book.Book.handles.Goals as goal

pub returns-clause-limit : goal.returns-clause-limit
returns-clause-limit c = c.self.invariant.limits.handles.1

pub returns-clause-zero : goal.returns-clause-zero
returns-clause-zero c = rw (← c.self.view_is) (get-kept_of_zero c.self.inside.kept.items)
