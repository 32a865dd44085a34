use Rattle.xa_base.proofs.{◌≡◌, ◌≤◌, List, length}
use Rattle.xa_words.specs.{XidName}
use Rattle.xa_desk.specs.{AllKept}
use Rattle.xa_calls.specs.{CallLeaves, AsksAndWaits, RecoverLooks, with_found}
use Rattle.xa_calls.proofs.recovering.look.Given as goal

-- the branches so far were asked of, and those that were found are written
abbrev pub invariant-loop-looked : goal.invariant-loop-looked
invariant-loop-looked g l = record {
  looks : (found : List XidName) × RecoverLooks (AsksAndWaits g.I.Idle.leads_by l.manager) l.room l.left
      (l.initial.desk, l.initial.idle) l.looked found
      (l.desk, l.idle) × (l.xids ≡ with_found found l.initial.xids) × (l.found ≡ length found);
  many : length l.xids ≡ length l.initial.xids;
  within : l.found ≤ l.room;
  leaves : CallLeaves g.I.Idle.leads l.initial.desk l.desk l.initial.idle l.idle;
  kept : AllKept l.initial.desk → AllKept l.desk;
}
