use Rattle.xa_base.proofs.{◌≡◌, false, None, Some, Ok, refl, sym, ap, ◌∙◌, option_map}
use Rattle.xa_desk.specs.{call_refusal}
use Rattle.xa_calls.specs.{code_of, put_refusal}
use Rattle.xa_calls.specs.Scans.{answered}
use Rattle.xa_calls.proofs.Refusals.{no_refusal}
use Rattle.xa_driver.proofs.EachLeft.{call_answered}
use Rattle.xa_driver.proofs.resolving.ask.Goals as goal

pub returns-in-Ok : goal.returns-in-Ok
returns-in-Ok g c =
    let none : call_refusal c.args.desk.now c.args.manager ≡ None =
    no_refusal (Ok c.in-Ok.code) c.in-Ok.code _ refl c.in-Ok.ensures.refused in
    let never : put_refusal c.args.desk.now c.args.manager false ≡ None = ap (option_map code_of) none in
    let x = c.in-Ok.ensures.collected in
    let called =
    call_answered c.args.manager x.0 c.args.op c.in-Ok.code c.args.desk.now c.call.new.self c.requires none x.1
    c.call.ensures.goes_on in
    record {
      asked = called.asked_;
      waits = record {
        answers = answered never x.0 x.1;
        waits = λ _. c.in-Ok.ensures.waited;
        stays = λ why. let e : None ≡ Some c.in-Ok.code = sym never ∙ why in cc;
      };
      alone = called.alone;
      room = called.room;
      idled = c.call.ensures.idled;
    }
