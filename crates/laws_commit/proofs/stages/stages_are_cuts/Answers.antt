use Rattle.xa_base.proofs.{map}
use Rattle.xa_driver.proofs.Requests.{same_itself}
use Rattle.xa_driver.specs.{third_ask}
use Rattle.laws_commit.proofs.Staged.{decided_is_cut, forgetting_cut, none_so_far, prepared_is_cut, undecided_is_cut}
use Rattle.laws_commit.proofs.stages.stages_are_cuts.Goals as goal

pub returns : goal.returns
returns c = record {
  prepared = prepared_is_cut;
  decided = decided_is_cut;
  undecided = undecided_is_cut;
  told = λ k mid tell late p d t may first between second third after.
      forgetting_cut k mid tell p d may first between second late k.new t third after (map third_ask t.round.asks.items)
      (same_itself (map third_ask t.round.asks.items)) (none_so_far (map third_ask t.round.asks.items) k.new);
}
