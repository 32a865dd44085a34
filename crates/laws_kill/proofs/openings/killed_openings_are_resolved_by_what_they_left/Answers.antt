use Rattle.xa_base.proofs.{ap, ◌∙◌}
use Rattle.xa_desk.proofs.Ledgers.{growing_on}
use Rattle.xa_switch.specs.{ledgers_of}
use Rattle.xa_log.specs.{Records, record_in}
use Rattle.laws_disk.proofs.Found.{unforgotten}
use Rattle.laws_kill.specs.{as_settled, ledgers_then}
use Rattle.laws_kill.proofs.InTurn.{scan_there}
use Rattle.laws_kill.proofs.Settling.{as_settled_all}
use Rattle.laws_kill.proofs.openings.killed_openings_are_resolved_by_what_they_left.Goals as goal

pub returns : goal.returns
returns c = record {
  made = λ p crash q is promised grown. record {
    made = promised;
    grown =
        growing_on q.new (ledgers_then crash q.thread) (ledgers_of (as_settled crash) q.thread) grown
        ((as_settled_all p crash is).grown q.thread);
  };
  scan = λ o next z m T is then_is over scanned first. scan_there o next z m T is then_is over scanned first;
  read = λ t has records forgotten own file was found kept none.
      ap (λ (r : Records). record_in r t) (c.files_have_one_log.ensures own was.found file found was.has)
      ∙ unforgotten records forgotten file t was none
      ∙ kept;
}
