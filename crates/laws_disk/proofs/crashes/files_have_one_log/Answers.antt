use Rattle.xa_base.proofs.{sym, ap, ◌∙◌}
use Rattle.xa_log_file.specs.{records_of}
use Rattle.laws_disk.proofs.crashes.files_have_one_log.Goals as goal

pub returns : goal.returns
returns c one other file has also =
    sym has.same ∙ ap records_of (c.a_file_has_one_table.ensures has.table also.table file has.stands also.stands)
    ∙ also.same
