-- Stores of one of two kinds.
use Rattle.std.specs.Prelude.{Bool}
use Rattle.xa_tables.specs.ManagerTables.{Tables}
use Rattle.test_store_sqlite.specs.declared.mixed.Either.{Either}
use Rattle.test_store_sqlite.specs.declared.mixed.Either.TheVariants.{First, Second}

-- what is said of the tables of a store of either kind, and of the store alone
abbrev pub tables_of_either : {A B : Type 0}
    → (A → Tables → Type 0) → (B → Tables → Type 0) → Either A B → Tables → Type 0
tables_of_either of_first of_second (First store) = of_first store
tables_of_either of_first of_second (Second store) = of_second store

abbrev pub of_either : {A B : Type 0} → (A → Bool) → (B → Bool) → Either A B → Bool
of_either of_first of_second (First store) = of_first store
of_either of_first of_second (Second store) = of_second store
