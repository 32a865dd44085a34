-- Records that are put, one after another.
use Rattle.xa_base.proofs.{◌≡◌, List, [], ◌∷◌, ◌++◌, refl, insert}
use Rattle.xa_log.specs.{LogState, Records, with_record, with_records, CommitRecord}
use Rattle.test_log_shared.specs.{put_records}

pub put_one_more : (records : Records) (rs : List CommitRecord) (r : CommitRecord)
    → put_records records (rs ++ r ∷ []) ≡ insert (put_records records rs) r.tran r.yes
put_one_more records [] r = refl
put_one_more records (q ∷ rs) r = put_one_more (insert records q.tran q.yes) rs r

pub put_with : (log : LogState) (rs : List CommitRecord)
    → with_records log rs ≡ record { records = put_records log.records rs; failures = log.failures }
put_with log [] = refl
put_with log (r ∷ rs) = put_with (with_record log r.tran r.yes) rs
