use Rattle.xa_base.proofs.{◌∙◌, sym, ap}
use Rattle.xa_words.specs.{Done}
use Rattle.xa_tables.specs.{by_rules}
use Rattle.xa_tables.proofs.ThreadLemmas.{keeps_more}
use Rattle.xa_tables.proofs.manager.step_by_rules.Goals as goal

pub returns-in-Shut-clause-step : goal.returns-in-Shut-clause-step
returns-in-Shut-clause-step c =
    (λ i. (c.shut.ensures.shut i, Done)) ∙ ap (λ op. by_rules c.args.t op c.args.tables.now.tables) (sym c.in-Shut.is)

pub returns-in-Shut-clause-kept : goal.returns-in-Shut-clause-kept
returns-in-Shut-clause-kept c = keeps_more _ _ _ c.shut.ensures.kept

pub returns-in-OpenRm-clause-step : goal.returns-in-OpenRm-clause-step
returns-in-OpenRm-clause-step c =
    c.open_rm.ensures.step ∙ ap (λ op. by_rules c.args.t op c.args.tables.now.tables) (sym c.in-OpenRm.is)

pub returns-in-OpenRm-clause-kept : goal.returns-in-OpenRm-clause-kept
returns-in-OpenRm-clause-kept c = keeps_more _ _ _ c.open_rm.ensures.kept

pub returns-in-CloseRm-clause-step : goal.returns-in-CloseRm-clause-step
returns-in-CloseRm-clause-step c =
    c.close_rm.ensures.step ∙ ap (λ op. by_rules c.args.t op c.args.tables.now.tables) (sym c.in-CloseRm.is)

pub returns-in-CloseRm-clause-kept : goal.returns-in-CloseRm-clause-kept
returns-in-CloseRm-clause-kept c = keeps_more _ _ _ c.close_rm.ensures.kept

pub returns-in-Start-clause-step : goal.returns-in-Start-clause-step
returns-in-Start-clause-step c =
    c.start.ensures.step ∙ ap (λ op. by_rules c.args.t op c.args.tables.now.tables) (sym c.in-Start.is)

pub returns-in-Add-clause-step : goal.returns-in-Add-clause-step
returns-in-Add-clause-step c =
    c.add.ensures.step ∙ ap (λ op. by_rules c.args.t op c.args.tables.now.tables) (sym c.in-Add.is)

pub returns-in-Add-clause-kept : goal.returns-in-Add-clause-kept
returns-in-Add-clause-kept c = keeps_more _ _ _ c.add.ensures.kept

pub returns-in-End-clause-step : goal.returns-in-End-clause-step
returns-in-End-clause-step c =
    c.end.ensures.step ∙ ap (λ op. by_rules c.args.t op c.args.tables.now.tables) (sym c.in-End.is)

pub returns-in-End-clause-kept : goal.returns-in-End-clause-kept
returns-in-End-clause-kept c = keeps_more _ _ _ c.end.ensures.kept

pub returns-in-Prepare-clause-step : goal.returns-in-Prepare-clause-step
returns-in-Prepare-clause-step c =
    c.prepare.ensures.step ∙ ap (λ op. by_rules c.args.t op c.args.tables.now.tables) (sym c.in-Prepare.is)

pub returns-in-Prepare-clause-kept : goal.returns-in-Prepare-clause-kept
returns-in-Prepare-clause-kept c = keeps_more _ _ _ c.prepare.ensures.kept

pub returns-in-Commit-default-true-clause-kept : goal.returns-in-Commit-default-true-clause-kept
returns-in-Commit-default-true-clause-kept c = keeps_more _ _ _ c.commit_one.ensures.kept

pub returns-in-Commit-default-false-clause-kept : goal.returns-in-Commit-default-false-clause-kept
returns-in-Commit-default-false-clause-kept c = keeps_more _ _ _ c.commit_two.ensures.kept

pub returns-in-Rollback-clause-step : goal.returns-in-Rollback-clause-step
returns-in-Rollback-clause-step c =
    c.rollback.ensures.step ∙ ap (λ op. by_rules c.args.t op c.args.tables.now.tables) (sym c.in-Rollback.is)

pub returns-in-Rollback-clause-kept : goal.returns-in-Rollback-clause-kept
returns-in-Rollback-clause-kept c = keeps_more _ _ _ c.rollback.ensures.kept

pub returns-in-Forget-clause-step : goal.returns-in-Forget-clause-step
returns-in-Forget-clause-step c =
    c.forget.ensures.step ∙ ap (λ op. by_rules c.args.t op c.args.tables.now.tables) (sym c.in-Forget.is)

pub returns-in-Forget-clause-kept : goal.returns-in-Forget-clause-kept
returns-in-Forget-clause-kept c = keeps_more _ _ _ c.forget.ensures.kept

pub returns-in-Heur-clause-step : goal.returns-in-Heur-clause-step
returns-in-Heur-clause-step c =
    c.heur.ensures.step ∙ ap (λ op. by_rules c.args.t op c.args.tables.now.tables) (sym c.in-Heur.is)

pub returns-in-Heur-clause-kept : goal.returns-in-Heur-clause-kept
returns-in-Heur-clause-kept c = keeps_more _ _ _ c.heur.ensures.kept

pub returns-in-Listed-clause-step : goal.returns-in-Listed-clause-step
returns-in-Listed-clause-step c =
    c.listed.ensures ∙ ap (λ op. by_rules c.args.t op c.args.tables.now.tables) (sym c.in-Listed.is)
