use Rattle.xa_base.proofs.{arith, ap, map, ◌∙◌}
use Rattle.xa_log_shared.specs.{as_waiting}
use Rattle.xa_log_shared.proofs.Moves.{answered_places, moves_settled}
use Rattle.xa_log_shared.proofs.book.Book.close_group.Goals as goal

pub send_all-requires : goal.send_all-requires
send_all-requires g c =
    answered_places _ c.args.self.now.waiting.items c.deref-2.result.now
    (ap (map as_waiting) c.deref-2.ensures.value ∙ c.append_group.ensures.settles.each ∙ c.deref.ensures.value)
    c.args.self.now.places

pub returns-clause-moves : goal.returns-clause-moves
returns-clause-moves g c =
    search (arith, moves_settled, c.deref.ensures.value, c.deref-2.ensures.value, c.clear.ensures.items)
