use Rattle.xa_base.proofs.{IfSome_from, ◌-◌, None, sym, ◌∙◌, arith, get_or_read}
use Rattle.xa_desk.specs.{IsOut}
use Rattle.xa_desk.proofs.Books.{get-kept_of_zero}
use Rattle.xa_desk.proofs.book.Book.kept_at.Goals as goal

pub returns-then-number-eq0-clause-kept : goal.returns-then-number-eq0-clause-kept
returns-then-number-eq0-clause-kept c =
    rw (← c.self.view_is, c.if-number-eq0.true) (sym (get-kept_of_zero c.self.inside.kept.items))

pub returns-clause-out : goal.returns-clause-out
returns-clause-out c = IfSome_from c.index.result.now (λ o. IsOut c.args.self.now.ledgers o) (λ o e.
    let there =
    get_or_read c.self.inside.kept.items (c.args.number - 1) c.index.result.now
    (omega (arith, c.self.inside.kept.ok.0, c.if-number-eq0.false)) c.index.ensures None in
    let h = c.self.invariant.books.tabled (c.args.number - 1) o (sym there ∙ e) in
    rw (← c.self.view_is) (rw h.names at (c.self.invariant.books.slot_out h.key h.slot h.found)))
