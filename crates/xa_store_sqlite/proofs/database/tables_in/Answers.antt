use Rattle.xa_base.proofs.{◌∙◌, ap, inl, inr, refl, subst, sym}
use Rattle.sqlite_store.specs.FileStore.{view}
use Rattle.xa_store_sqlite.specs.{AreTables, IsLaid, is_of_device}
use Rattle.xa_store_sqlite.specs.Files.{AreEmpty}
use Rattle.xa_store_sqlite.proofs.Device.{of_opening}
use Rattle.xa_store_sqlite.proofs.Laid.{is_laid}
use Rattle.xa_store_sqlite.proofs.Opened.{always, empty_made, not_unmade, opened_before, state_clean, trees_after}
use Rattle.xa_store_sqlite.proofs.Opened.{unstarted_in}
use Rattle.xa_store_sqlite.proofs.database.tables_in.Goals as goal

pub returns-in-Ok-clause-laid : goal.returns-in-Ok-clause-laid
returns-in-Ok-clause-laid g c =
    subst (λ it. IsLaid (view it)) (sym c.over-in-Ok.ensures)
    (is_laid c.in-Ok.trees c.in-Ok.ensures.ready
    (subst AreTables (sym (c.in-Ok.ensures.schema ∙ c.in_ok-over.ensures.schema)) refl))

pub returns-in-Ok-clause-opened : goal.returns-in-Ok-clause-opened
returns-in-Ok-clause-opened g c = λ synced.
    let made = c.in-Ok.ensures in
    let over = c.in_ok-over.ensures in
    inr (
      unstarted_in c.in_ok-over.field-0 (c.args.files.log, c.args.files.db) over.files over.size
          (made.started (state_clean (λ d. always) c.in-Ok.trees)),
      subst (λ it. AreEmpty (view it).trees) (sym c.over-in-Ok.ensures)
          (empty_made (λ d. always) c.in-Ok.trees made.ready made.empty),
    )

pub returns-in-Err-Refused-default-clause-opened : goal.returns-in-Err-Refused-default-clause-opened
returns-in-Err-Refused-default-clause-opened g c = λ synced.
    let at = c.in-Err-Refused-default in
    let over = c.in_ok-over.ensures in
    opened_before (λ d. always) (λ d. inl refl) c.in_ok-over.field-0 at.refused (c.args.files.log, c.args.files.db)
    (c.close.result.log, c.close.result.db) over.files
    (sym c.close.ensures) at.field-0-0 at.field-0-0-is over.size over.schema synced at.ensures.cause at.ensures.unharmed
    c.found.result (λ t. (view t.trees).trees)
    c.found.ensures.has

pub returns-in-Err-Refused-default-clause-device : goal.returns-in-Err-Refused-default-clause-device
returns-in-Err-Refused-default-clause-device g c = λ synced trees has.
    let at = c.in-Err-Refused-default in
    let over = c.in_ok-over.ensures in
    c.found.ensures.device trees
    (trees_after (λ d. always) (λ d. inl refl) c.in_ok-over.field-0 at.refused (c.args.files.log, c.args.files.db)
    (c.close.result.log, c.close.result.db) over.files
    (sym c.close.ensures) at.field-0-0 at.field-0-0-is over.size over.schema synced at.ensures.cause at.ensures.unharmed
    trees has)

pub returns-in-Err-clause-device : goal.returns-in-Err-clause-device
returns-in-Err-clause-device g c = λ synced trees has. ap is_of_device c.unopened.ensures ∙ of_opening c.in-Err.error

pub returns-in-Err-Refused-default-clause-made : goal.returns-in-Err-Refused-default-clause-made
returns-in-Err-Refused-default-clause-made g c = λ begun.
    let at = c.in-Err-Refused-default in
    let over = c.in_ok-over.ensures in
    absurd
    (not_unmade c.in_ok-over.field-0 (c.args.files.log, c.args.files.db) over.files over.size (λ d. always)
    over.schema at.refused at.field-0-0
    at.ensures.cause begun at.field-0-0-is)

pub returns-in-Err-clause-made : goal.returns-in-Err-clause-made
returns-in-Err-clause-made g c = λ begun. ap is_of_device c.unopened.ensures ∙ of_opening c.in-Err.error
