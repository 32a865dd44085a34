use Rattle.xa_work.specs.{HaveSent, IsOpenRm}
use Rattle.xa_work.proofs.Making.{Leaves, OpensFirst}
use Rattle.xa_work.proofs.opening.open_all.Given as goal

-- the first managers were opened
abbrev pub invariant-loop-before : goal.invariant-loop-before
invariant-loop-before g l = record {
  leaves : Leaves g.I.Idle.leads l.fn.desk l.desk l.fn.idle l.idle;
  opens : OpensFirst l.before l.all l.fn.desk l.desk;
  sent : HaveSent IsOpenRm l.fn.desk.ledgers l.desk.ledgers;
}
