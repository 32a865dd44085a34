use Rattle.xa_base.proofs.{refl, ap}
use Rattle.xa_desk.specs.{DeskView}
use Rattle.xa_desk.specs.Waits.Waits.{begins}
use Rattle.xa_desk.proofs.Looks.{looks_start, collects_from}
use Rattle.xa_desk.proofs.pump.wait_for.Goals as goal

pub returns-in-Some-clause-collected : goal.returns-in-Some-clause-collected
returns-in-Some-clause-collected g c =
    collects_from _ _ _ c.args.operation _ (looks_start _ _ refl) c.requires.out c.in-Some.ensures.code
    c.in-Some.ensures.ready c.in-Some.ensures.fewer

pub returns-in-Some-clause-waited : goal.returns-in-Some-clause-waited
returns-in-Some-clause-waited g c =
    let found = ap (λ (d : DeskView). d.completions.quiet) c.in-Some.ensures.ready in
    record {
      now = c.args.book.now;
      waits = begins _ _ refl refl;
      found = found;
      collects = returns-in-Some-clause-collected g c;
    }
