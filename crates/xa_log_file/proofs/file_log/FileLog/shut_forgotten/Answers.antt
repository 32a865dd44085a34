use Rattle.xa_log_file.proofs.Stands.{settled_shown}
use Rattle.xa_log_file.proofs.Tables.{shut_on_file}
use Rattle.xa_log_file.proofs.file_log.FileLog.shut_forgotten.Goals as goal

pub invariant_of-self-2 : goal.invariant_of-self-2
invariant_of-self-2 g c =
    let settled =
    rw (c.deref.ensures.value, ← shut_on_file c.args.self.now.table.slots.items, ← c.shut.ensures) at
    c.in-Ok.ensures.shut in
    record { ready = λ is. settled; known = λ known. settled_shown c.shut.new.self.slots.items settled }
