use Rattle.xa_base.proofs.{◌≤◌, rules, sym, ap, arith}
use Rattle.xa_tables.proofs.Soundness.{live_after}
use Rattle.xa_tables.specs.{TablesAndCode}
use Rattle.xa_tables.proofs.ThreadLemmas.{places_paid}
use Rattle.xa_tables.proofs.manager.Manager.apply.Goals as goal

pub invariant_of-self : goal.invariant_of-self
invariant_of-self c =
    let n = c.self.inside.threads in
    let t = c.args.thread in
    let op = c.args.op.now in
    let T = c.self.inside.inner.tables in
    let stepped = sym (ap (λ (a : TablesAndCode). a.0) c.step-code.ensures.step) in
    let last : t ≤ n = omega (arith, ap (λ m. m.threads) c.self.view_is) in
    let paid = rw stepped at (places_paid n t op T (omega arith) last) in (
      search rules,
      omega (arith, paid, c.step-code.ensures.kept.spare, c.self.invariant.1, ap (λ m. m.room) c.self.view_is),
      rw stepped at (live_after t op T c.self.invariant.2),
      search rules,
      tt,
    )

pub returns-clause-live : goal.returns-clause-live
returns-clause-live c = rw (← c.self.view_is) c.self.invariant.2
