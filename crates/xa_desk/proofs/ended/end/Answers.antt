use Rattle.xa_base.proofs.{arith}
use Rattle.xa_desk.proofs.Ties.{tied_ended}
use Rattle.xa_desk.proofs.ended.end.Goals as goal

pub invariant_of-result : goal.invariant_of-result
invariant_of-result g c =
    let i = c.book.invariant in
    let tied = rw (← c.book.view_is) at c.requires.tied in
    let settled = rw (← c.book.view_is) at c.requires.settled in
    search (arith, tied_ended, c.book.inside.completions, c.end_all-requests.ensures.ended)
