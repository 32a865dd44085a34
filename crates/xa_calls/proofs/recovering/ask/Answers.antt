use Rattle.xa_base.proofs.{◌≡◌, false, true, is_some, Some, None, Ok, Err, refl, ap, sym, ◌∙◌, option_map}
use Rattle.xa_words.specs.{Listed}
use Rattle.xa_calls.specs.{code_of, put_refusal}
use Rattle.xa_calls.specs.Scans.{refused, answered}
use Rattle.xa_calls.proofs.Recovered.{asked_keep}
use Rattle.xa_calls.proofs.Refusals.{no_refusal, its_refusal}
use Rattle.xa_calls.proofs.recovering.ask.Goals as goal

pub returns-in-Ok-clause-asks : goal.returns-in-Ok-clause-asks
returns-in-Ok-clause-asks g c =
    let none : put_refusal c.args.desk.now c.args.manager false ≡ None = ap (option_map code_of)
    (no_refusal (Ok c.in-Ok.code) c.in-Ok.code _ refl c.in-Ok.ensures.refused) in
    record {
      answers = answered none c.in-Ok.ensures.collected.0 c.in-Ok.ensures.collected.1;
      waits = λ _. c.in-Ok.ensures.waited;
      stays = λ some. absurd (let never : ⊥ = cc in never);
    }

pub returns-in-Ok-clause-kept : goal.returns-in-Ok-clause-kept
returns-in-Ok-clause-kept g c =
    asked_keep _ _ c.args.manager (Listed c.args.xid) c.in-Ok.code (returns-in-Ok-clause-asks g c).answers

pub returns-in-Err-clause-asks : goal.returns-in-Err-clause-asks
returns-in-Err-clause-asks g c =
    let some : put_refusal c.args.desk.now c.args.manager false ≡ Some c.code_of.result =
    ap (option_map code_of)
    (its_refusal (Err c.in-Err.why) c.in-Err.why _ refl c.in-Err.ensures.refused c.in-Err.ensures.answered)
    ∙ ap Some (sym c.code_of.ensures) in
    record {
      answers = refused some c.in-Err.ensures.unchanged;
      waits = λ none. let never : None ≡ Some c.code_of.result = sym none ∙ some in absurd (cc);
      stays = λ _. c.in-Err.ensures.idle_stays;
    }

pub returns-in-Err-clause-kept : goal.returns-in-Err-clause-kept
returns-in-Err-clause-kept g c = rw c.in-Err.ensures.unchanged (λ kept. kept)

pub returns-in-Err-clause-prompt : goal.returns-in-Err-clause-prompt
returns-in-Err-clause-prompt g c = λ _. c.in-Err.ensures.idle_stays

pub returns-in-Ok-clause-leaves : goal.returns-in-Ok-clause-leaves
returns-in-Ok-clause-leaves g c =
    record { goes_on = c.call.ensures.goes_on; tickets = c.call.ensures.tickets; idled = c.call.ensures.idled }

pub returns-in-Err-clause-leaves : goal.returns-in-Err-clause-leaves
returns-in-Err-clause-leaves g c =
    record { goes_on = c.call.ensures.goes_on; tickets = c.call.ensures.tickets; idled = c.call.ensures.idled }

pub returns-in-Ok-clause-prompt : goal.returns-in-Ok-clause-prompt
returns-in-Ok-clause-prompt g c = λ some.
    let none : put_refusal c.args.desk.now c.args.manager false ≡ None =
    ap (option_map code_of) (no_refusal (Ok c.in-Ok.code) c.in-Ok.code _ refl c.in-Ok.ensures.refused) in
    let never : false ≡ true = ap is_some (sym none) ∙ some in
    absurd (cc)
