use Rattle.xa_base.proofs.{refl, sym, subst, arith, w32, to_z-of_z, ints}
use Rattle.script_grammar.specs.{ScriptCall}
use Rattle.script_session.specs.{CallAnswers, HasCollected}
use Rattle.script_session.proofs.calls.answer.Goals as goal

pub returns-in-Complete-clause-answers : goal.returns-in-Complete-clause-answers
returns-in-Complete-clause-answers g c =
    let q = c.args.called.now in
    let has : HasCollected q c.args.desk.now c.in-Complete.handle c.completed.new.desk c.completed.result =
    rw (to_z-of_z w32 c.in-Complete.handle (omega (arith, ints))) at c.completed.ensures.answers in
    subst
    (λ (x : ScriptCall). CallAnswers x q c.args.desk.now c.args.scan.now c.completed.new.desk c.args.scan.now
    c.completed.result) (sym c.in-Complete.is) (has, refl)
