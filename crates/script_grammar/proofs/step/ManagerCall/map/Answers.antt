use Rattle.xa_base.proofs.{arith, rules, Bor, ◌≡◌, Option, None, refl, sym, ap, ◌∙◌, MatchOption, option_map}
use Rattle.std.specs.Prelude.{IsSomeAnd, option_copied}
use Rattle.script_grammar.specs.declared.step.ManagerCall.TheVariants as manager_call
use Rattle.script_grammar.specs.{call_with}
use Rattle.script_grammar.proofs.step.ManagerCall.map.Goals as goal

-- what a call at what is there may answer is what the function gives
mapped : {X Y : Type 0} (answers : Bor X → Y → Type 0) (f : X → Y) (lent : Option (Bor X)) (told : Option Y)
    → ((p : Bor X) (y : Y) → answers p y → y ≡ f p.now)
    → MatchOption lent (told ≡ None) (λ p. IsSomeAnd told (answers p)) → told ≡ option_map f (option_copied lent)
mapped answers f lent told same is = search (arith, rules)

pub returns-in-Xa : goal.returns-in-Xa
returns-in-Xa g c = λ f k same same_key.
    ap (λ y. manager_call.Xa c.in-Xa.call y)
    (mapped (λ p y. g.N.FnOnce.post c.args.name (p, tt) y) f c.as_ref.result c.map.result
    (λ p y answers. same p.now y (p, answers, refl)) c.map.ensures.cases
    ∙ ap (option_map f) c.as_ref.ensures.value)
    ∙ ap (call_with f k) (sym c.in-Xa.is)

pub returns-in-Heur : goal.returns-in-Heur
returns-in-Heur g c = λ f k same same_key.
    ap (λ y. manager_call.Heur y c.in-Heur.commits) (same c.in-Heur.branch c.name.result (_, c.name.ensures, refl))
    ∙ ap (call_with f k) (sym c.in-Heur.is)

pub returns-in-Add : goal.returns-in-Add
returns-in-Add g c = λ f k same same_key.
    ap (λ y. manager_call.Add y c.in-Add.delta) (same_key c.in-Add.added c.key.result (_, c.key.ensures, refl))
    ∙ ap (call_with f k) (sym c.in-Add.is)
