use Rattle.xa_base.proofs.{◌∙◌, ap, is_some, map, option_map, refl, err_from_is_err_and}
use Rattle.xa_slots.specs.{rows_from}
use Rattle.xa_store_sqlite.specs.{branch_cells}
use Rattle.xa_store_sqlite.proofs.Branches.{read_none, read_some}
use Rattle.xa_store_sqlite.proofs.Refused.{no_change, no_owner}
use Rattle.xa_store_sqlite.proofs.reading.known_change_in.Goals as goal

pub returns-in-Some-Some-clause-owned : goal.returns-in-Some-Some-clause-owned
returns-in-Some-Some-clause-owned c =
    let bs = c.args.branches.now in
    ap is_some
    (read_some bs bs c.in_ok-change.change.branch c.get.result c.in-Some-Some.field-0 refl c.get.ensures.lookup
    c.in-Some-Some.is ∙ c.in-Some-Some.field-0-is)

pub returns-in-None-clause-refused : goal.returns-in-None-clause-refused
returns-in-None-clause-refused c =
    let bs = c.args.branches.now in
    no_owner bs c.args.row.now c.in_ok-change.change c.in_ok-change.ensures.change
    (read_none bs bs c.in_ok-change.change.branch c.get.result refl c.get.ensures.lookup c.in-None.is)

pub returns-in-Some-None-clause-refused : goal.returns-in-Some-None-clause-refused
returns-in-Some-None-clause-refused c =
    let bs = c.args.branches.now in
    no_owner bs c.args.row.now c.in_ok-change.change c.in_ok-change.ensures.change
    (read_some bs bs c.in_ok-change.change.branch c.get.result c.in-Some-None.field-0 refl c.get.ensures.lookup
    c.in-Some-None.is ∙ c.in-Some-None.field-0-is)

pub returns-in_err-change-clause-refused : goal.returns-in_err-change-clause-refused
returns-in_err-change-clause-refused c =
    let p = err_from_is_err_and c.from_residual.result c.from_residual.ensures.1 in
    rw (p.1, p.2)
    (no_change (rows_from 1 (map (λ b. option_map branch_cells b) c.args.branches.now)) c.args.row.now
    c.in_err-change.field-0.0 c.in_err-change.ensures.refused)
