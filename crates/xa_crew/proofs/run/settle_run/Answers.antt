use Rattle.xa_base.proofs.{List, ap, ◌∙◌}
use Rattle.xa_desk.specs.{EndedView}
use Rattle.xa_switch.specs.{settling}
use Rattle.xa_crew.proofs.Pieces.{run_pieces}
use Rattle.xa_crew.proofs.Stores.{has_managers}
use Rattle.xa_crew.proofs.run.settle_run.Goals as goal

pub settle_pieces-requires : goal.settle_pieces-requires
settle_pieces-requires g c =
    let (p, cs, all) = c.requires in
    (p, run_pieces g.C.Client.works c.desks_go_on.ensures.further p cs c.args.ran all)

pub returns-in-Ok-clause-run : goal.returns-in-Ok-clause-run
returns-in-Ok-clause-run g c = λ p cs all. record {
  desks = c.args.ran.desks.items;
  done = c.args.ran.workers.items;
  threads = all;
  settles = c.in-Ok.ensures.pieces ∙ ap (λ (es : List EndedView). settling es c.args.ran.workers.items) all.desks_are;
  agrees = c.in-Ok.ensures.settled;
  of_setup = c.in-Ok.ensures.of p (run_pieces g.C.Client.works c.desks_go_on.ensures.further p cs c.args.ran all);
}

pub returns-in-Ok-clause-managers : goal.returns-in-Ok-clause-managers
returns-in-Ok-clause-managers g c =
    let (p, cs, all) = c.requires in
    rw c.in-Ok.ensures.pieces (has_managers c.desks_go_out.ensures p c.args.ran.desks.items c.args.ran.workers.items
    (run_pieces g.C.Client.works c.desks_go_on.ensures.further p cs c.args.ran all))
