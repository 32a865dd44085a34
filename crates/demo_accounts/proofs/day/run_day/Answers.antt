use Rattle.std.specs.Prelude.{IfOk}
use Rattle.std.proofs.Common.{◌≡◌, length, sym, ap, ◌∙◌, subst}
use Rattle.std.proofs.lemmas.List.{length-map}
use Rattle.demo_accounts.proofs.day.run_day.Goals as goal

pub returns-in-Ok-clause-each : goal.returns-in-Ok-clause-each
returns-in-Ok-clause-each g c =
    let ran = c.in-Ok.ensures.ran.threads in
    let clients = c.in-Ok.field-0.clients.items in
    let clerks = c.in_ok-clerks.clerks.items in
    let told : length clients ≡ length ran.members = ap length ran.attended_are ∙ length-map ran.members _ in
    let begun : length clerks ≡ length ran.members = ap length ran.clients_are ∙ length-map ran.members _ in
    let four : length clients ≡ 4 = told ∙ sym begun ∙ c.in_ok-clerks.ensures ∙ c.requires.logs in
    subst (λ n. IfOk c.close.result (λ logs. length logs.items ≡ n)) four c.close.ensures.each
