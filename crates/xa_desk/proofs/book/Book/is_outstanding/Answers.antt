use Rattle.xa_base.proofs.{◌≡◌, arith, ltb-false}
use Rattle.slab.specs.Slab.{slab_len}
use Rattle.xa_desk.specs.{logged}
use Rattle.xa_desk.proofs.Ledgers.{nothing_open}
use Rattle.xa_desk.proofs.book.Book.is_outstanding.Goals as goal

pub returns-clause-settled : goal.returns-clause-settled
returns-clause-settled c = λ e m known.
    let none : slab_len c.self.inside.slots ≡ 0 = omega (arith, c.len.ensures, ltb-false 0 c.len.result e) in
    rw (← c.self.view_is)
    (nothing_open c.self.inside.ledgers.items c.self.inside.slots c.self.inside.kept.items
    (logged c.self.inside.drained.items) c.self.invariant.books none m (rw (← c.self.view_is) at known))
