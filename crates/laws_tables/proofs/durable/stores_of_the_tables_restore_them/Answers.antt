use Rattle.laws_tables.proofs.Storing.{left_is_fine}
use Rattle.xa_tables.proofs.Restoring.{restores}
use Rattle.laws_tables.proofs.durable.stores_of_the_tables_restore_them.Goals as goal

pub returns-clause-restored : goal.returns-clause-restored
returns-clause-restored c s T of = restores s T of

pub returns-clause-faultless : goal.returns-clause-faultless
returns-clause-faultless c accounts before h s are of once = left_is_fine accounts before h s are of once
