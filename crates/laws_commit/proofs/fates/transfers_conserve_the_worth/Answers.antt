use Rattle.laws_commit.proofs.Conserved.{conserved_by, conserved_law, decided_law}
use Rattle.laws_commit.proofs.fates.transfers_conserve_the_worth.Goals as goal

pub returns : goal.returns
returns c = record {
  conserved = λ p s doubt settled of_plan sound transfers.
      conserved_law p s doubt (c.threads_move_the_worth.ensures p s settled of_plan sound) (λ t positive below.
      conserved_by c.tables_keep_to_their_laws.ensures c.settled_journals_follow_the_tables.ensures.some
      c.branches_hold_their_additions.ensures p s settled
      (λ m first last. c.managers_open_with_their_accounts.ensures p s m settled of_plan first last) sound t (doubt t)
      (transfers t positive below));
  decided = decided_law;
}
