use Rattle.laws_commit.proofs.Worth.{opened_with}
use Rattle.laws_commit.proofs.fates.managers_open_with_their_accounts.Goals as goal

pub returns : goal.returns
returns c = λ p s m settled of_plan positive below. opened_with p s settled of_plan m positive below
