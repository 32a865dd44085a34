use Rattle.xa_base.proofs.{◌∙◌, sym}
use Rattle.sqlite_store.specs.Unopened.{files_of}
use Rattle.xa_store_sqlite.proofs.Laid.{are_usable}
use Rattle.xa_store_sqlite.proofs.database.over.Goals as goal

pub returns-clause-usable : goal.returns-clause-usable
returns-clause-usable g c =
    are_usable (c.args.files.log, c.args.files.db) (files_of c.in_ok-with_sums.field-0) (λ d. d.is_usable)
    (c.in_ok-with_sums.ensures.files ∙ c.in_ok-pager.ensures.files)
    (sym c.if-not-may_be_used.ensures)

pub returns-clause-files : goal.returns-clause-files
returns-clause-files g c = c.in_ok-with_sums.ensures.files ∙ c.in_ok-pager.ensures.files

pub returns-clause-schema : goal.returns-clause-schema
returns-clause-schema g c = c.in_ok-with_sums.ensures.schema ∙ c.schema.ensures
