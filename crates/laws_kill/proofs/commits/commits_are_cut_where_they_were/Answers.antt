use Rattle.xa_desk.proofs.Ledgers.{growing_on}
use Rattle.xa_switch.specs.{ledgers_of}
use Rattle.laws_kill.specs.{as_settled, ledgers_then}
use Rattle.laws_kill.proofs.commits.commits_are_cut_where_they_were.Goals as goal

pub returns : goal.returns
returns c = λ p crash k is cut grown. record {
  made = cut;
  grown =
      growing_on k.new (ledgers_then crash k.thread) (ledgers_of (as_settled crash) k.thread) grown
      ((c.crashes_are_settled.ensures p crash is).grown k.thread);
}
