-- Histories that go on.
use Rattle.xa_base.proofs.{◌≡◌, [], ◌∷◌, ◌++◌, sym, ap, ◌∙◌}
use Rattle.xa_words.specs.{Code, Request}
use Rattle.laws_tables.proofs.UnnamedLaw.{tables_after-append}
use Rattle.xa_tables.specs.{TablesAndCode, History, Tables, next, tables_after}

-- the tables after one more request are those that it makes of the tables before it
pub one_later : (before after : History) (r : Request) (first T : Tables) → after ≡ before ++ r ∷ []
    → T ≡ tables_after before first
    → (next r.thread r.op T).0 ≡ tables_after after first
one_later before after r first T more so =
    ap (λ U. (next r.thread r.op U).0) so ∙ sym (tables_after-append before (r ∷ []) first)
    ∙ ap (λ h. tables_after h first) (sym more)

-- the same, where a manager has carried it out
pub carried_on : (before after : History) (r : Request) (first T later : Tables) (code : Code)
    → after ≡ before ++ r ∷ []
    → (later, code) ≡ next r.thread r.op T → T ≡ tables_after before first → later ≡ tables_after after first
carried_on before after r first T later code more step so =
    ap (λ (a : TablesAndCode). a.0) step ∙ one_later before after r first T more so
