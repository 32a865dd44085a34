use Rattle.demo_bank_days.proofs.DayLaw.{dawn_law, day_law}
use Rattle.demo_bank_days.proofs.law.a_day_applies_its_transfers.Goals as goal

pub returns-clause-applied : goal.returns-clause-applied
returns-clause-applied g c d m account many up declared =
    let logs = c.several_logs_are_read_as_one.ensures in
    day_law (record { outs = c.branches_come_out_by_the_log.ensures; none = logs.none; more = logs.more }) d many m up
    account declared

pub returns-clause-dawn : goal.returns-clause-dawn
returns-clause-dawn g c d later done counts past =
    dawn_law c.finished_outcomes_leave_no_branch.ensures d done later counts past
