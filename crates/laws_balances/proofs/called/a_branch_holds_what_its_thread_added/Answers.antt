use Rattle.laws_balances.proofs.AtWork.{work_held}
use Rattle.laws_balances.proofs.called.a_branch_holds_what_its_thread_added.Goals as goal

pub returns : goal.returns
returns c = work_held
