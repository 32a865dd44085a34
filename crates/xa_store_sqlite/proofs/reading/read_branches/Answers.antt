use Rattle.xa_base.proofs.{◌∙◌, ap, sym, IfErr-weaker, err_from_is_err_and}
use Rattle.sqlite_disk.specs.Disk.{MoreFaults}
use Rattle.xa_slots.specs.{rows_from}
use Rattle.xa_store_sqlite.specs.declared.fault.StoreOpenFault.{StoreOpenFault}
use Rattle.xa_store_sqlite.specs.declared.fault.Table.TheVariants.{Branches}
use Rattle.xa_store_sqlite.specs.declared.mirror.TheConstants.{MOST_BRANCHES}
use Rattle.xa_store_sqlite.specs.{StoreIsRefused, IsRefusedForRows}
use Rattle.xa_store_sqlite.proofs.Refused.{no_room, rows_refuse, unread_refuse}
use Rattle.xa_store_sqlite.proofs.reading.read_branches.Goals as goal

pub returns-in_err-slots-clause-refused : goal.returns-in_err-slots-clause-refused
returns-in_err-slots-clause-refused g c = λ number clean.
    let v = g.S.Store.view c.args.tables.now.trees in
    let failed = MoreFaults (g.S.Store.faults c.args.tables.now.trees) (g.S.Store.faults c.read.new.tables.trees) in
    let p = err_from_is_err_and c.from_residual.result c.from_residual.ensures.1 in
    rw (p.1, p.2)
    (unread_refuse number c.args.room v.trees v.is_broken Branches MOST_BRANCHES failed _
    (no_room c.args.room (v.trees 1)) (c.in_err-slots.ensures.refused clean))

pub returns-clause-refused : goal.returns-clause-refused
returns-clause-refused g c = λ number clean.
    let v = g.S.Store.view c.args.tables.now.trees in
    let failed = MoreFaults (g.S.Store.faults c.args.tables.now.trees) (g.S.Store.faults c.read.new.tables.trees) in
    IfErr-weaker c.with_room.result (IsRefusedForRows number c.args.room v.trees)
    (StoreIsRefused number c.args.room v failed)
    (λ (f : StoreOpenFault). rows_refuse number c.args.room v.trees v.is_broken failed f)
    (c.with_room.ensures.refused number v.trees
    (c.in_ok-slots.ensures.rows clean ∙ ap (rows_from 1) (sym c.deref.ensures.value)))
