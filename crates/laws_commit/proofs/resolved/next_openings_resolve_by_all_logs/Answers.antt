use Rattle.xa_base.proofs.{arith}
use Rattle.laws_commit.proofs.NextOpening.{found_in_all, next_resolved}
use Rattle.laws_commit.proofs.resolved.next_openings_resolve_by_all_logs.Goals as goal

pub returns : goal.returns
returns c = search (arith, next_resolved, found_in_all, c.several_logs_are_read_as_one.ensures.own)
