use Rattle.xa_base.proofs.{arith}
use Rattle.xa_calls.specs.{CollectsRedeemed}
use Rattle.xa_crew.specs.{EndsNumber}
use Rattle.xa_crew.proofs.ending.end_number.Goals as goal

pub returns-clause-ends : goal.returns-clause-ends
returns-clause-ends g c =
    let code = c.complete-code.result in
    let new = c.complete-code.new.self in
    let takes : CollectsRedeemed c.args.desk.now new c.args.number code =
    search (arith, c.in-Some.ticket.operation, c.in-Some.ensures.freed) in
    EndsNumber.kept code takes c.push_reserved.ensures.items
