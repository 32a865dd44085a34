use Rattle.xa_base.proofs.{eqb-true, eq-eqb}
use Rattle.xa_desk.specs.{logged}
use Rattle.xa_desk.proofs.Books.{loose_handle, loose_from_handle}
use Rattle.xa_desk.proofs.book.Book.is_loose.Goals as goal

pub returns-in-Some : goal.returns-in-Some
returns-in-Some c =
    let at = c.self.inside.ledgers.items in
    let table = c.self.inside.kept.items in
    let b = c.self.invariant.books in
    let there = c.in-Some.ensures.found in
    let named = c.in-Some.ensures.named in
    rw (← c.self.view_is) (
      λ e. (
        rw named at (b.slot_out _ c.in-Some.slot there),
        loose_from_handle at c.self.inside.slots _ c.in-Some.slot table (logged c.self.inside.drained.items) b there _
            named (eqb-true c.in-Some.slot.handle 0 e),
      ),
      λ p. eq-eqb c.in-Some.slot.handle 0
          (loose_handle at c.self.inside.slots _ c.in-Some.slot table (logged c.self.inside.drained.items) b there _
          named p.1),
    )
