use Rattle.xa_base.proofs.{◌≡◌, None}
use Rattle.xa_desk.specs.{drained_code, IsMissing}
use Rattle.xa_desk.specs.Looks.{Looks}
use Rattle.xa_desk.specs.Waits.{Waits}
use Rattle.xa_desk.proofs.pump.wait_until.Given as goal

-- the book has changed by looks alone, and the idle by an idle after each quiet moment, where what is waited for was
-- missing
abbrev pub invariant-loop : goal.invariant-loop
invariant-loop g l = record {
  looks : Looks l.initial.book l.book;
  missing : drained_code l.operation l.book.drained ≡ None;
  idled : g.I.Idle.leads l.initial.idle l.idle;
  waits : Waits (IsMissing l.operation) (g.I.Idle.leads_by l.operation.manager) l.initial.book l.initial.idle l.book
      l.idle;
}
