use Rattle.xa_base.proofs.{sym}
use Rattle.xa_lane.specs.{Item}
use Rattle.xa_desk.proofs.Looks.{item_drawn}
use Rattle.xa_desk.proofs.book.Book.draw_for.Goals as goal

pub returns-in-Some : goal.returns-in-Some
returns-in-Some g c =
    let t = c.in-Some.ensures in
    let d = item_drawn _ _ _ c.in-Item.field-0 c.in-Item.completion c.in-Item.ensures.took t.drains in
    rw (← c.self.view_is)
    (t.mid, Item c.in-Item.field-0 c.in-Item.completion, d.0, d.1, sym t.code_, t.rest.0, t.rest.1)
