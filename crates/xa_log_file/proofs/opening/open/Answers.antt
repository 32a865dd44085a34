use Rattle.xa_base.proofs.{arith, ◌∙◌, ap, rules}
use Rattle.xa_log_file.specs.{IsDurable, StandsFor, records_of, table_of}
use Rattle.xa_log_file.proofs.Tables.{one_content, all_count}
use Rattle.xa_log_file.proofs.Stands.{settled_shown}
use Rattle.xa_log_file.proofs.opening.open.Goals as goal

pub invariant_of-result : goal.invariant_of-result
invariant_of-result g c =
    let settled : IsDurable g.D.Device.seen g.D.Device.may_leave (table_of c.in-Ok-read_table.table.slots.items)
    c.read.new.self =
    search (arith, rules) in
    record { ready = λ is. settled; known = λ known. settled_shown c.in-Ok-read_table.table.slots.items settled }

pub returns-in-Ok-read_table-clause-reads : goal.returns-in-Ok-read_table-clause-reads
returns-in-Ok-read_table-clause-reads g c = λ records there.
    let stands : StandsFor (table_of c.in-Ok-read_table.table.slots.items) (g.D.Device.seen c.args.device) =
    search rules in
    ap records_of (all_count c.in-Ok-read_table.table.slots.items c.in-Ok-read_table.ensures.none_forgotten)
    ∙ one_content (table_of c.in-Ok-read_table.table.slots.items) (g.D.Device.seen c.args.device) stands records there

pub returns-clause-not_a_log : goal.returns-clause-not_a_log
returns-clause-not_a_log g c = λ is.
    rw (c.deref.ensures.value ∙ c.in-Ok.ensures.bytes) at
    (c.in-Err-read_table.ensures.refused (λ memory. absurd (cc (is, memory))))

pub returns-clause-damaged : goal.returns-clause-damaged
returns-clause-damaged g c = λ is.
    rw (c.deref.ensures.value ∙ c.in-Ok.ensures.bytes) at
    (c.in-Err-read_table.ensures.refused (λ memory. absurd (cc (is, memory))))
