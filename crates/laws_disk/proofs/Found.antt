-- What is found of a transaction in a file that a crash left.
use Rattle.xa_base.proofs.{◌≡◌, ◌⊎◌, List, ℕ, Bool, None, inl, inr, refl, sym, ◌∙◌}
use Rattle.xa_words.specs.{TranName}
use Rattle.xa_log.specs.{IsEither, LogState, Records, record_in, record_of, with_record}
use Rattle.xa_log_file.specs.{HasRecords, HasRecordsAndPerhaps}

-- where the log hasn't forgotten a record of it, the file has of it what the log had
pub unforgotten : (records forgotten : Records) (file : List ℕ) (t : TranName)
    (h : HasRecordsAndPerhaps records forgotten file)
    → record_in forgotten t ≡ None → record_in h.found t ≡ record_in records t
unforgotten records forgotten file t h none =
    elim (h.each t) [ inl same ↦ same | inr other ↦ other.1 ∙ none ∙ sym other.0 ]

-- where a record was being appended, the log turns out to have it, or not, and the file has of it what the log has
pub found_either : (log : LogState) (t : TranName) (managers : List Bool) (forgotten : Records) (file : List ℕ)
    (Cut : LogState → Type 0)
    → ((later : LogState) → IsEither log later t managers → Cut later) → record_in forgotten t ≡ None
    → HasRecordsAndPerhaps log.records forgotten file ⊎ HasRecordsAndPerhaps (with_record log t managers).records
    forgotten file
    → (later : LogState) × (found : Records) × Cut later × HasRecords found file
    × (record_in found t ≡ record_of later t)
found_either log t managers forgotten file Cut cut none (inl before) =
    (log, before.found, cut log (inl refl), before.has, unforgotten log.records forgotten file t before none)
found_either log t managers forgotten file Cut cut none (inr after) =
    let added : LogState = with_record log t managers in
    (added, after.found, cut added (inr refl), after.has, unforgotten added.records forgotten file t after none)
