use Rattle.xa_driver.proofs.Calls.{may_decide, may_forget, may_still, may_tell}
use Rattle.laws_commit.proofs.stages.stages_follow.Goals as goal

pub returns : goal.returns
returns c = record { decide = may_decide; tell = may_tell; forget = may_forget; log = may_still }
