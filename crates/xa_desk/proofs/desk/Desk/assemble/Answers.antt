use Rattle.xa_base.proofs.{ap, arith}
use Rattle.xa_desk.specs.{DeskView, outstanding}
use Rattle.xa_desk.proofs.Books.{nothing_out}
use Rattle.xa_desk.proofs.Ties.{tied_new}
use Rattle.xa_desk.proofs.desk.Desk.assemble.Goals as goal

pub invariant_of-result : goal.invariant_of-result
invariant_of-result c =
    let none = ap (λ (d : DeskView). outstanding d.ledgers) c.assemble.ensures in (
      omega (arith, none, nothing_out c.args.parts.plan c.args.parts.use_async),
      rw c.assemble.ensures
          (tied_new c.args.parts c.args.requests.items c.args.completions c.requires.ends c.requires.new),
    )
