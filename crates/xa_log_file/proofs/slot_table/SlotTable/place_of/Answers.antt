use Rattle.xa_base.proofs.{◌∙◌}
use Rattle.xa_log_file.proofs.Places.{if_there, if_none}
use Rattle.xa_log_file.proofs.slot_table.SlotTable.place_of.Goals as goal

pub returns-clause-there : goal.returns-clause-there
returns-clause-there c =
    if_there _ c.args.self.now.indexed c.args.tran.now c.copied.result (c.copied.ensures ∙ c.get.ensures.value)

pub returns-clause-none : goal.returns-clause-none
returns-clause-none c =
    if_none _ c.args.self.now.indexed c.args.tran.now c.copied.result (c.copied.ensures ∙ c.get.ensures.value)
