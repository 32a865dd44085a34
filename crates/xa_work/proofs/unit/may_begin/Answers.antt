use Rattle.xa_base.proofs.{arith, rules}
use Rattle.xa_work.proofs.unit.may_begin.Goals as goal

pub returns : goal.returns
returns g c =
    let may = c.may_commit.ensures.0 c.if-not-may_commit.false in (
      λ yes. (
        record { commit = may.0; few = omega arith; placed = search rules; room = c.have_room.ensures.0 yes },
        may.1,
      ),
      λ is. c.have_room.ensures.1 is.0.room,
    )
