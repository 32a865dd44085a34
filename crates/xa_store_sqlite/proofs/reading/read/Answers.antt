use Rattle.xa_base.proofs.{Err, ap, subst, sym, ◌∙◌, ℕ}
use Rattle.sqlite_disk.specs.Disk.{MoreFaults}
use Rattle.xa_slots.specs.{HasNoSlots}
use Rattle.xa_store_sqlite.specs.{IsUnreadFor, table_number}
use Rattle.xa_store_sqlite.proofs.Laid.{laid_read, table_laid}
use Rattle.xa_store_sqlite.proofs.Refused.{unread_for}
use Rattle.xa_store_sqlite.proofs.reading.read.Goals as goal

pub read-requires : goal.read-requires
read-requires g c = record {
  table = λ clean. ap (λ n. (g.S.Store.view c.args.tables.now.trees).shape n) c.number.ensures
      ∙ table_laid (g.S.Store.view c.args.tables.now.trees) c.args.table c.requires clean;
}

pub returns-in-Ok-clause-rows : goal.returns-in-Ok-clause-rows
returns-in-Ok-clause-rows g c = λ clean.
    let v = g.S.Store.view c.args.tables.now.trees in
    ap (λ n. v.trees n) (sym c.number.ensures) ∙ c.in-Ok.ensures.rows clean

pub returns-in-Ok-clause-laid : goal.returns-in-Ok-clause-laid
returns-in-Ok-clause-laid g c =
    laid_read g.S.Store.view g.S.Store.faults g.S.Store.recovers g.S.Store.is_shielded c.args.tables.now.trees
    c.read.new.self.trees c.read.ensures.quiet c.in-Ok.ensures.only c.requires

pub returns-in-Err-clause-refused : goal.returns-in-Err-clause-refused
returns-in-Err-clause-refused g c = λ clean.
    let v = g.S.Store.view c.args.tables.now.trees in
    let table = c.args.table in
    let failed = MoreFaults (g.S.Store.faults c.args.tables.now.trees) (g.S.Store.faults c.read.new.self.trees) in
    subst (IsUnreadFor table c.args.count (v.trees (table_number table)) v.is_broken failed) (sym c.unread.ensures)
    (unread_for v table c.args.count failed c.in-Err.fault (c.in-Err.ensures.cause clean)
    (λ is. subst (λ (n : ℕ). HasNoSlots c.args.count (v.trees n)) c.number.ensures
    (c.in-Err.ensures.refused (ap Err is) clean)))
