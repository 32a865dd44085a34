use Rattle.xa_log_file.proofs.Stands.{shows_records}
use Rattle.xa_log_file.proofs.file_log.FileLog.keeps_its_records.Goals as goal

pub returns : goal.returns
returns g c = λ f left. shows_records c.args.self.now.table.slots.items f (c.args.self.now.known c.requires f left)
