use Rattle.xa_base.proofs.{arith, length-map}
use Rattle.xa_switch.proofs.Meeting.{desks_fit, workers_fit, one_opening}
use Rattle.xa_switch.proofs.opening.layout.put_together.Goals as goal

pub assemble_desks-desks-requires : goal.assemble_desks-desks-requires
assemble_desks-desks-requires c =
    let is = c.requires.laid_out in
    record {
      none = is.desks.0;
      room = is.desks.1;
      columns = omega
          (arith, is.requests.wide, is.threads, length-map c.args.layout.requests.columns.items (λ v. v.items));
      receivers = omega (arith, is.completions.many, is.threads);
      fit = desks_fit c.args.layout c.args.managers.items is c.requires.many c.requires.new c.requires.begins;
    }

pub assemble_workers-workers-requires : goal.assemble_workers-workers-requires
assemble_workers-workers-requires c = grind (arith, length-map, workers_fit)

pub returns : goal.returns
returns c =
    one_opening c.args.layout c.args.managers.items c.requires.laid_out c.requires.many c.requires.new c.requires.begins
    c.assemble_desks-desks.result.items
    c.assemble_workers-workers.result.items c.assemble_desks-desks.ensures.many c.assemble_workers-workers.ensures.many
    c.assemble_desks-desks.ensures.made
    c.assemble_workers-workers.ensures.made
