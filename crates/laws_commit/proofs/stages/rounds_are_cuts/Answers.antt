use Rattle.xa_driver.proofs.Stepping.{so_far}
use Rattle.xa_driver.proofs.Calls.{seconds_are}
use Rattle.laws_commit.proofs.Staged.{asking_cut, forgetting_cut, nothing_between, telling_cut}
use Rattle.laws_commit.proofs.stages.rounds_are_cuts.Goals as goal

pub returns : goal.returns
returns c = record {
  so_far = so_far;
  asking = λ k p may first far. asking_cut k k.new p.round.asks.items may first.same far
      (nothing_between k.branches k.new);
  telling = λ k tell mid p d t may first between second third.
      telling_cut k mid tell.ledgers p d may first between second t.round.asks.items
      (seconds_are t.round.asks.items second third.same);
  forgetting = λ k start mid tell late p d t f may first between second third after last.
      forgetting_cut k mid tell p d may first between second late start.ledgers t third after f.round.asks.items
      last.same;
}
