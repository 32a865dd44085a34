-- After a Shut nothing changes.
use Rattle.xa_base.proofs.{◌≡◌, ℕ, ◌∷◌, refl, ap, ◌∙◌, by_bool}
use Rattle.xa_words.specs.{Shut}
use Rattle.laws_fates.proofs.ShutLaw.{next-Shut, next-shut, shut_stays}
use Rattle.laws_tables.proofs.UnnamedLaw.{tables_after-append}
use Rattle.laws_tables.specs.{shut_at, shut_by}
use Rattle.xa_tables.specs.{TablesAndCode, History, Tables, next, reopened, shut_down, tables_after}

-- a Shut leaves the tables shut, and else as they were
shuts : (v : ℕ) (T : Tables) → (next v Shut T).0 ≡ shut_down T
shuts v T =
    by_bool (λ _. (next v Shut T).0 ≡ shut_down T) T.shut
    (λ s. ap (λ (a : TablesAndCode). a.0) (next-shut v Shut T s) ∙ (λ i. record T { shut = s i }))
    (λ s. ap (λ (a : TablesAndCode). a.0) (next-Shut v T s))

-- what comes after the Shut changes nothing, and a reopening undoes the Shut
pub crash_law : (kept lost : History) (v : ℕ) (T : Tables)
    → reopened (tables_after (shut_at kept v lost) T) ≡ reopened (tables_after kept T)
crash_law kept lost v T =
    ap reopened (tables_after-append kept (shut_by v ∷ lost) T
    ∙ ap (tables_after lost) (shuts v (tables_after kept T))
    ∙ shut_stays lost (shut_down (tables_after kept T)) refl)
