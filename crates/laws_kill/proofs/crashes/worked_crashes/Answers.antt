use Rattle.laws_kill.proofs.Worked.{answers_are, first_is, is_crash, second_is}
use Rattle.laws_kill.proofs.crashes.worked_crashes.Goals as goal

pub returns : goal.returns
returns c = record { crash = is_crash; first = first_is; second = second_is; answers = answers_are }
