use Rattle.xa_base.proofs.{◌∙◌, ap, refl, subst, sym}
use Rattle.sqlite_store.specs.FileStore.{view}
use Rattle.xa_store_sqlite.specs.{AreTables, IsLaid, is_of_device}
use Rattle.xa_store_sqlite.proofs.Device.{not_refused, of_opening}
use Rattle.xa_store_sqlite.proofs.Laid.{is_laid}
use Rattle.xa_store_sqlite.proofs.Opened.{always, trees_at, trees_found}
use Rattle.xa_store_sqlite.proofs.database.found.Goals as goal

pub returns-in-Ok-clause-laid : goal.returns-in-Ok-clause-laid
returns-in-Ok-clause-laid g c =
    subst (λ it. IsLaid (view it)) (sym c.over-in-Ok.ensures)
    (is_laid c.in-Ok.trees c.in-Ok.ensures.ready
    (subst AreTables (sym (c.in-Ok.ensures.schema ∙ c.in_ok-over.ensures.schema)) refl))

pub returns-in-Ok-clause-has : goal.returns-in-Ok-clause-has
returns-in-Ok-clause-has g c =
    let e = c.in-Ok.ensures in
    let over = c.in_ok-over.ensures in
    trees_at _ c.in-Ok.trees _ c.over-in-Ok.ensures
    (trees_found (λ d. always) c.in_ok-over.field-0 (c.args.files.log, c.args.files.db) over.files over.size over.schema
    c.in-Ok.trees e.ready e.schema e.numbered
    e.found e.kept)

pub returns-in-Err-Refused-default-clause-device : goal.returns-in-Err-Refused-default-clause-device
returns-in-Err-Refused-default-clause-device g c = λ trees has.
    let at = c.in-Err-Refused-default in
    let over = c.in_ok-over.ensures in
    absurd
    (not_refused (λ d. always) c.in_ok-over.field-0 (c.args.files.log, c.args.files.db) over.files over.size
    over.schema at.refused at.field-0-0
    at.ensures.cause trees has at.field-0-0-is)

pub returns-in-Err-clause-device : goal.returns-in-Err-clause-device
returns-in-Err-clause-device g c = λ trees has. ap is_of_device c.unopened.ensures ∙ of_opening c.in-Err.error
