use Rattle.xa_base.proofs.{arith, sym, get_or_default}
use Rattle.xa_log_file.specs.{Taken}
use Rattle.xa_log_file.proofs.Places.{index_apart, one_place, slot_indexed, not_taken}
use Rattle.xa_log_file.proofs.Tables.{counted_found, not_counted}
use Rattle.xa_log_file.proofs.file_log.FileLogDecisionRecords.has.Goals as goal

pub returns-in_err-place : goal.returns-in_err-place
returns-in_err-place g c =
    search (arith, not_counted, c.args.self.now.table.slots.items, c.args.tran.now, c.in_err-place.ensures.none)

pub returns-in-Taken : goal.returns-in-Taken
returns-in-Taken g c =
    let at = c.in_ok-place.ensures.there in
    sym (counted_found c.args.self.now.table.slots.items (index_apart c.args.self.now.table.indexed)
    c.in_ok-place.place c.args.tran.now c.in-Taken.record
    (slot_indexed c.args.self.now.table.slots.items c.in_ok-place.place c.index.result.now (Taken c.in-Taken.record)
    at.0 c.index.ensures c.in-Taken.is)
    at.1)

pub returns-in_default : goal.returns-in_default
returns-in_default g c = search (arith, not_taken, get_or_default, not_counted, one_place)
