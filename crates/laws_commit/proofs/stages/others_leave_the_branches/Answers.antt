use Rattle.laws_commit.proofs.CutSends.{commit_leaves, far_leaves, firsts_clear, forgot_clear, leaves_on}
use Rattle.laws_commit.proofs.CutSends.{resolve_leaves, told_clear, unnamed_leaves}
use Rattle.laws_commit.proofs.Staged.{asks_so_far, nothing_between}
use Rattle.laws_commit.proofs.stages.others_leave_the_branches.Goals as goal

pub returns : goal.returns
returns c = record {
  nothing = nothing_between;
  chained = leaves_on;
  unnamed = unnamed_leaves;
  resolved = resolve_leaves;
  committed = commit_leaves;
  preparing = λ bs cs desk now p rising others first far.
      far_leaves bs cs rising others p.round.asks.items desk.ledgers now
      (λ x o. firsts_clear x cs p.round.asks.items o first.same) far;
  prepared = λ bs cs old new p rising others first.
      far_leaves bs cs rising others p.round.asks.items old new
      (λ x o. firsts_clear x cs p.round.asks.items o first.same)
      (asks_so_far p.round.asks.items old new first.asked);
  telling = λ bs cs start mid desk now log later p d t rising others first second third far.
      far_leaves bs cs rising others t.round.asks.items desk.ledgers now
      (told_clear bs cs rising others start mid log later p d first second t.round.asks.items third.same) far;
  told = λ bs cs start mid old new log later p d t rising others first second third.
      far_leaves bs cs rising others t.round.asks.items old new
      (told_clear bs cs rising others start mid log later p d first second t.round.asks.items third.same)
      (asks_so_far t.round.asks.items old new third.asked);
  forgetting = λ bs cs start mid tell late desk now log later p d t f rising others first second third last far.
      far_leaves bs cs rising others f.round.asks.items desk.ledgers now
      (forgot_clear bs cs rising others start mid log later p d first second tell late t third f.round.asks.items
      last.same) far;
  forgotten = λ bs cs start mid tell late old new log later p d t done rising others first second third last.
      far_leaves bs cs rising others last.thirds old new
      (forgot_clear bs cs rising others start mid log later p d first second tell late t third last.thirds
      last.same) (asks_so_far last.thirds old new last.asked);
}
