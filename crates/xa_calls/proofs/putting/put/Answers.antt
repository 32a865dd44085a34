use Rattle.xa_base.proofs.{rules, ◌≡◌, ℕ, ℤ, true, Option, Some, None, Ok, ap, ◌∙◌, arith, refl, of_z, w32, pos}
use Rattle.xa_base.proofs.{option_map, to_z-of_z, ints, to_z, to_z_pos}
use Rattle.xa_words.specs.CodeNumbers.{number_of}
use Rattle.xa_words.specs.{Code, Async}
use Rattle.xa_desk.specs.{DeskView, call_refusal, after_full}
use Rattle.xa_calls.specs.{Asked, code_of, put_refusal, Puts, full, kept}
use Rattle.xa_calls.specs.Putting.{refused, answered}
use Rattle.xa_calls.proofs.Refusals.{no_refusal, its_refusal, later_never_waits, refused_never_waits}
use Rattle.xa_calls.proofs.putting.put.Goals as goal

-- an asynchronous request that wasn't put
unput : (old : DeskView) (m : ℕ) (asked : Asked) (new : DeskView) (answer : ℤ) (code : Code) → asked.asynchronous ≡ true
    → answer ≡ number_of code
    → ((c : Code) → put_refusal old m true ≡ Some c → (code ≡ c) × (new ≡ old))
    → (put_refusal old m true ≡ None → (code ≡ Async) × (new ≡ after_full old m))
    → Puts old m asked new answer
unput old m asked new answer code later told was_refused was_full =
    let at : (r : Option Code) → put_refusal old m true ≡ r → put_refusal old m asked.asynchronous ≡ r =
    search (arith, rules) in
    elim (put_refusal old m true) as (λ r. put_refusal old m true ≡ r → Puts old m asked new answer) [
      | None ↦ λ e. full (at None e) later (told ∙ ap number_of (was_full e).0) (was_full e).1
      | Some c ↦ λ e. refused c (at (Some c) e) (told ∙ ap number_of (was_refused c e).0) (was_refused c e).1
    ] refl

pub returns-in-Err : goal.returns-in-Err
returns-in-Err g c =
    let told : to_z w32 (of_z w32 c.value.result) ≡ c.value.result =
    to_z-of_z w32 c.value.result (omega (arith, ints)) in
    record {
      puts =
          unput c.args.desk.now c.args.manager c.args.asked c.put_later.new.desk _ c.in-Err.code c.if-asked.true
          (told ∙ c.value.ensures)
          (λ r e. let w = c.in-Err.ensures.refused r e in (let same = w.0 in cc, w.1)) c.in-Err.ensures.full;
      leaves = record {
        goes_on = c.put_later.ensures.goes_on;
        tickets = c.put_later.ensures.tickets;
        idled = g.met.I.Idle.leads_start _;
      };
      prompt = λ _. refl;
      waited = λ waits. absurd (later_never_waits c.args.asked.asynchronous _ c.if-asked.true waits);
    }

pub returns-in-Ok : goal.returns-in-Ok
returns-in-Ok g c =
    let k = c.in-Ok.handle in
    let told : to_z w32 k ≡ pos k = to_z_pos w32 k (omega (arith, c.in-Ok.ensures.handle.limit)) in
    record {
      puts = kept (rw c.if-asked.true c.in-Ok.ensures.put) c.if-asked.true k told c.in-Ok.ensures.kept.0
          c.in-Ok.ensures.kept.1;
      leaves = record {
        goes_on = c.put_later.ensures.goes_on;
        tickets = c.put_later.ensures.tickets;
        idled = g.met.I.Idle.leads_start _;
      };
      prompt = λ _. refl;
      waited = λ waits. absurd (later_never_waits c.args.asked.asynchronous _ c.if-asked.true waits);
    }

pub returns-in-Ok-call : goal.returns-in-Ok-call
returns-in-Ok-call g c =
    let told : to_z w32 (of_z w32 c.value-in-Ok-call.result) ≡ c.value-in-Ok-call.result =
    to_z-of_z w32 c.value-in-Ok-call.result (omega (arith, ints)) in
    let none : call_refusal c.args.desk.now c.args.manager ≡ None =
    no_refusal (Ok c.in-Ok-call.code) c.in-Ok-call.code _ refl c.in-Ok-call.ensures.refused in
    let unrefused : put_refusal c.args.desk.now c.args.manager c.args.asked.asynchronous ≡ None =
    rw c.if-asked.false (ap (option_map code_of) none) in
    record {
      puts = answered unrefused c.if-asked.false c.in-Ok-call.ensures.collected.0 c.in-Ok-call.code
          (told ∙ c.value-in-Ok-call.ensures) c.in-Ok-call.ensures.collected.1;
      leaves = record {
        goes_on = c.call.ensures.goes_on;
        tickets = c.call.ensures.tickets;
        idled = c.call.ensures.idled;
      };
      prompt = λ waits. absurd (let waited = rw (c.if-asked.false, none) at waits in let never : ⊥ = cc in never);
      waited = λ waits. (c.in-Ok-call.code, told ∙ c.value-in-Ok-call.ensures, c.in-Ok-call.ensures.waited);
    }

pub returns-in-Err-call : goal.returns-in-Err-call
returns-in-Err-call g c =
    let told : to_z w32 (of_z w32 c.value-in-Err-call.result) ≡ c.value-in-Err-call.result =
    to_z-of_z w32 c.value-in-Err-call.result (omega (arith, ints)) in
    let why = c.in-Err-call.why in
    let some : call_refusal c.args.desk.now c.args.manager ≡ Some why =
    search (arith, its_refusal, c.in-Err-call.ensures.refused) in
    let its : put_refusal c.args.desk.now c.args.manager c.args.asked.asynchronous ≡ Some (code_of why) =
    rw c.if-asked.false (ap (option_map code_of) some) in
    record {
      puts = refused (code_of why) its (told ∙ c.value-in-Err-call.ensures ∙ ap number_of c.code_of.ensures)
          c.in-Err-call.ensures.unchanged;
      leaves = record {
        goes_on = c.call.ensures.goes_on;
        tickets = c.call.ensures.tickets;
        idled = c.call.ensures.idled;
      };
      prompt = λ _. c.in-Err-call.ensures.idle_stays;
      waited = λ waits. absurd (refused_never_waits c.args.asked.asynchronous _ (code_of why) its waits);
    }
