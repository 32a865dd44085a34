use Rattle.xa_base.proofs.{[], ◌∷◌, ap, sym, refl, ◌∙◌, is_some}
use Rattle.xa_log_shared.specs.{own_records}
use Rattle.xa_log_shared.proofs.Own.{there, removed, drops_one, drops_none, asks_none}
use Rattle.xa_log_shared.proofs.client.LogClientDecisionLog.forget.Goals as goal

pub returns-then-is_some-clause-forgotten : goal.returns-then-is_some-clause-forgotten
returns-then-is_some-clause-forgotten g c =
    let same =
    removed c.args.self.now.records.entries c.remove.new.self.entries c.args.tran.now c.remove.ensures.updates.0 in
    λ i. record { records = same i; failures = c.args.self.now.failures }

pub returns-else-is_some-clause-forgotten : goal.returns-else-is_some-clause-forgotten
returns-else-is_some-clause-forgotten g c =
    let same =
    removed c.args.self.now.records.entries c.remove.new.self.entries c.args.tran.now c.remove.ensures.updates.0 in
    λ i. record { records = same i; failures = c.args.self.now.failures }

pub returns-then-is_some-clause-forgets : goal.returns-then-is_some-clause-forgets
returns-then-is_some-clause-forgets g c =
    let es = c.args.self.now.records.entries in
    let same = removed es c.remove.new.self.entries c.args.tran.now c.remove.ensures.updates.0 in
    let was =
    ap is_some (there es c.args.tran.now ∙ sym c.remove.ensures.value) ∙ sym c.is_some.ensures
    ∙ c.if-is_some.true in (
      (
        c.args.tran.now ∷ [],
        rw same (drops_one (own_records c.args.self.now.records) c.args.tran.now was),
        c.send.ensures,
      ),
      refl,
    )

pub returns-else-is_some-clause-forgets : goal.returns-else-is_some-clause-forgets
returns-else-is_some-clause-forgets g c =
    let es = c.args.self.now.records.entries in
    let same = removed es c.remove.new.self.entries c.args.tran.now c.remove.ensures.updates.0 in
    let was =
    ap is_some (there es c.args.tran.now ∙ sym c.remove.ensures.value) ∙ sym c.is_some.ensures
    ∙ c.if-is_some.false in (
      (
        [],
        rw same (drops_none (own_records c.args.self.now.records) c.args.tran.now was),
        asks_none
            c.args.self.now.asks,
      ),
      refl,
    )

pub returns-then-is_some-clause-asked : goal.returns-then-is_some-clause-asked
returns-then-is_some-clause-asked g c =
    rw (ap is_some (there c.args.self.now.records.entries c.args.tran.now ∙ sym c.remove.ensures.value)
    ∙ sym c.is_some.ensures ∙ c.if-is_some.true) c.send.ensures

pub returns-else-is_some-clause-asked : goal.returns-else-is_some-clause-asked
returns-else-is_some-clause-asked g c =
    rw (ap is_some (there c.args.self.now.records.entries c.args.tran.now ∙ sym c.remove.ensures.value)
    ∙ sym c.is_some.ensures ∙ c.if-is_some.false)
    refl
