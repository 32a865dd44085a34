use Rattle.xa_desk.specs.Looks.{Looks}
use Rattle.xa_desk.specs.Waits.{Waits}
use Rattle.xa_desk.specs.{NothingIsReady}
use Rattle.xa_desk.proofs.pump.wait_for_any.Given as goal

-- the book has changed by looks alone, and the idle by an idle after each quiet moment, where what is waited for was
-- missing
abbrev pub invariant-loop : goal.invariant-loop
invariant-loop g l = record {
  looks : Looks l.initial.book l.book;
  idled : g.I.Idle.leads l.initial.idle l.idle;
  waits : Waits (NothingIsReady l.manager) (g.I.Idle.leads_by l.manager) l.initial.book l.initial.idle l.book l.idle;
}
