use Rattle.xa_base.proofs.{arith, refl, rules}
use Rattle.xa_calls.proofs.Kept.{leaves_all}
use Rattle.xa_calls.proofs.recovering.recover_by.Goals as goal

pub returns-in_err-mode-clause-leaves : goal.returns-in_err-mode-clause-leaves
returns-in_err-mode-clause-leaves g c = leaves_all c.desks_go_on.ensures.same g.met.I.Idle.leads_start _ _

pub returns-in_err-mode-clause-kept : goal.returns-in_err-mode-clause-kept
returns-in_err-mode-clause-kept g c = λ all. all

pub returns-in_err-mode-clause-prompt : goal.returns-in_err-mode-clause-prompt
returns-in_err-mode-clause-prompt g c = λ _. refl

pub returns-in-Some : goal.returns-in-Some
returns-in-Some g c = search (arith, rules)

pub returns-in-None : goal.returns-in-None
returns-in-None g c = record {
  recovers = search rules;
  bound = tt;
  leaves = leaves_all c.desks_go_on.ensures.same g.met.I.Idle.leads_start _ _;
  kept = λ all. all;
  prompt = λ _. refl;
}
