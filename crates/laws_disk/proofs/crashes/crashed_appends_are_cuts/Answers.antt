use Rattle.xa_driver.specs.{yes_of}
use Rattle.xa_driver.specs.declared.done.CommitOutcome.TheVariants.{Undecided}
use Rattle.laws_commit.specs.{IsCut, turned_out}
use Rattle.laws_disk.proofs.Found.{found_either}
use Rattle.laws_disk.proofs.crashes.crashed_appends_are_cuts.Goals as goal

pub returns : goal.returns
returns c = record {
  called = λ k death votes tran forgotten file may of_tran managers comes unknown none either.
      found_either k.log tran (yes_of k.branches votes.items) forgotten file (λ turned. IsCut (turned_out k turned))
      (λ turned is. c.commits_are_cuts.ensures (turned_out k turned) tran k.later death (Undecided votes) may of_tran
      managers comes is unknown) none either;
  staged = λ k mid votes tran forgotten file may voted between of_tran wanted unknown none either.
      found_either k.log tran (yes_of k.branches votes) forgotten file (λ turned. IsCut (turned_out k turned))
      (λ turned is. c.stages_are_cuts.ensures.undecided (turned_out k turned) mid votes tran may voted between of_tran
      wanted is unknown) none either;
}
