use Rattle.xa_base.proofs.{◌≡◌, false, ap, refl, sym, ◌∙◌, at_ok, one_put, Result, Ok, Err}
use Rattle.std.specs.Prelude.{is_err, IsOk}
use Rattle.std.specs.FinMap as map
use Rattle.xa_words.specs.{tran_eq}
use Rattle.xa_log.proofs.Transactions.{tran_cmp_total, tran_cmp-IsAntisymmetric, tran_eq-by_cmp}
use Rattle.xa_log.proofs.memory.MemoryLog.put.Goals as goal

ok_of : {T E : Type 0} (r : Result T E) → is_err r ≡ false → IsOk r
ok_of (Ok x) is = refl
ok_of (Err e) is = sym is

pub returns-clause-put : goal.returns-clause-put
returns-clause-put c t =
    let updates =
    at_ok c.insert.result _ (ok_of c.insert.result (sym c.is_err.ensures.value ∙ c.if-is_err.false))
    c.insert.ensures.updates in
    let put = one_put tran_eq tran_cmp_total tran_cmp-IsAntisymmetric tran_eq-by_cmp c.self.inside.records.entries
    c.insert.new.self.entries c.args.tran c.args.yes updates.0
    ∙ ap (λ b. map.insert b.state.records c.args.tran c.args.yes) c.self.view_is in
    λ i. record { records = put i; failures = (c.self.view_is i).state.failures }
