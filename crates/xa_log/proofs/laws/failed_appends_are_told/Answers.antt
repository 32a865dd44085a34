use Rattle.xa_base.proofs.{◌≡◌, ◌+◌, ◌%◌, ◌^◌, ap, arith}
use Rattle.xa_log.specs.{LogState}
use Rattle.xa_log.proofs.laws.failed_appends_are_told.Goals as goal

pub returns : goal.returns
returns c log e =
    let same : (log.failures + 1) % 2 ^ 64 ≡ log.failures = ap (λ (l : LogState). l.failures) e in
    omega (arith, same)
