use Rattle.xa_base.proofs.{◌∙◌, sym, ap}
use Rattle.xa_tables.specs.{start}
use Rattle.xa_tables.proofs.ThreadLemmas.{keeps_more}
use Rattle.xa_tables.proofs.manager.start.Goals as goal

pub returns-in-Fresh-clause-step : goal.returns-in-Fresh-clause-step
returns-in-Fresh-clause-step c =
    c.start_fresh.ensures.step
    ∙ ap (λ how. start how c.args.t c.args.xid.now c.args.tables.now.tables) (sym c.in-Fresh.is)

pub returns-in-Join-clause-step : goal.returns-in-Join-clause-step
returns-in-Join-clause-step c =
    c.start_join.ensures.step
    ∙ ap (λ how. start how c.args.t c.args.xid.now c.args.tables.now.tables) (sym c.in-Join.is)

pub returns-in-Join-clause-kept : goal.returns-in-Join-clause-kept
returns-in-Join-clause-kept c = keeps_more _ _ _ c.start_join.ensures.kept

pub returns-in-Resume-clause-step : goal.returns-in-Resume-clause-step
returns-in-Resume-clause-step c =
    c.start_resume.ensures.step
    ∙ ap (λ how. start how c.args.t c.args.xid.now c.args.tables.now.tables) (sym c.in-Resume.is)

pub returns-in-Resume-clause-kept : goal.returns-in-Resume-clause-kept
returns-in-Resume-clause-kept c = keeps_more _ _ _ c.start_resume.ensures.kept
