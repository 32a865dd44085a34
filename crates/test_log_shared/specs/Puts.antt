-- Records that are put, one after another.
use Rattle.std.specs.Prelude.{List, [], ◌∷◌}
use Rattle.std.specs.FinMap.{insert}
use Rattle.xa_log.specs.Log.{Records}
use Rattle.xa_log.specs.declared.log.CommitRecord.{CommitRecord}

abbrev pub put_records : Records → List CommitRecord → Records
put_records records [] = records
put_records records (r ∷ rs) = put_records (insert records r.tran r.yes) rs
