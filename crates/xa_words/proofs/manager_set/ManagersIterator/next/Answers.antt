use Rattle.xa_base.proofs.{◌≡◌, ℕ, ◌+◌, List, ◌∷◌, cond, true, false, sym, ap, ◌∙◌, arith}
use Rattle.xa_words.specs.{is_in, managers_above}
use Rattle.xa_words.proofs.ManagerSets.{managers_next}
use Rattle.xa_words.proofs.manager_set.ManagersIterator.next.Goals as goal

pub returns-then-contains-clause-steps : goal.returns-then-contains-clause-steps
returns-then-contains-clause-steps c =
    let m = c.loop-self.self-inside.last in
    let set = c.loop-self.self-inside.set in
    sym c.loop-self.invariant.left ∙ managers_next m set (omega (arith, c.loop-self-test.true))
    ∙ ap (λ b. cond b ((m + 1) ∷ managers_above (m + 1) set) (managers_above (m + 1) set)) (sym c.if-contains.ensures)

pub returns-then-contains-clause-goes : goal.returns-then-contains-clause-goes
returns-then-contains-clause-goes c =
    let steps = returns-then-contains-clause-steps c in search (arith, steps)

pub loop-self-preserved : goal.loop-self-preserved
loop-self-preserved c =
    let m = c.loop-self.self-inside.last in
    let set = c.loop-self.self-inside.set in
    record {
      low = omega (arith, c.loop-self-test.true);
      left =
          ap (λ b. cond b ((m + 1) ∷ managers_above (m + 1) set) (managers_above (m + 1) set)) c.if-contains.ensures
          ∙ sym (managers_next m set (omega (arith, c.loop-self-test.true))) ∙ c.loop-self.invariant.left;
    }
