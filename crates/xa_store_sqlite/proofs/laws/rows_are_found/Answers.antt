use Rattle.xa_store_sqlite.proofs.OfFiles.{one_found, row_found}
use Rattle.xa_store_sqlite.proofs.laws.rows_are_found.Goals as goal

pub returns-clause-row : goal.returns-clause-row
returns-clause-row c = row_found

pub returns-clause-one : goal.returns-clause-one
returns-clause-one c = one_found
