use Rattle.xa_base.proofs.{◌∙◌, List, Option, ap, arith, map, option_map, err_from_is_err_and}
use Rattle.xa_slots.specs.{rows_from}
use Rattle.xa_store_sqlite.specs.{StoredBranch, branch_cells}
use Rattle.xa_store_sqlite.proofs.ReadRows.{rows_room}
use Rattle.xa_store_sqlite.proofs.Refused.{taken_room}
use Rattle.xa_store_sqlite.proofs.reading.with_room.Goals as goal

pub returns-clause-rows : goal.returns-clause-rows
returns-clause-rows c =
    ap (λ (l : List (Option StoredBranch)). rows_from 1 (map (λ b. option_map branch_cells b) l)) c.in_ok-widen.ensures
    ∙ rows_room 1 c.in_ok-branches.branches.items c.args.room ∙ ap (rows_from 1) c.in_ok-branches.ensures.branches

pub returns-then-saturating_add-clause-refused : goal.returns-then-saturating_add-clause-refused
returns-then-saturating_add-clause-refused c = λ number trees same.
    taken_room c.args.room c.args.slots.now (trees 1) same c.requires (omega arith)

pub returns-in_err-branches-clause-refused : goal.returns-in_err-branches-clause-refused
returns-in_err-branches-clause-refused c = λ number trees same.
    let p = err_from_is_err_and c.from_residual.result c.from_residual.ensures.1 in
    rw (p.1, p.2) (c.in_err-branches.ensures.refused number c.args.room trees same)
