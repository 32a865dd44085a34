use Rattle.xa_base.proofs.{sym, ◌∙◌}
use Rattle.xa_desk.proofs.KeyRows.{any_kept}
use Rattle.xa_desk.proofs.book.Book.keeps.Goals as goal

pub returns-clause-some : goal.returns-clause-some
returns-clause-some c = λ t.
    let b = c.self.inside in
    rw (← c.self.view_is)
    (any_kept b.kept_marks b.kept.items c.first.result c.self.invariant.kept_marks c.first.ensures.found
    (sym c.is_some.ensures ∙ t))
