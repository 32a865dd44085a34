use Rattle.xa_base.proofs.{arith, ◌∷◌, Ok, Some, ap, sym, ◌∙◌, rules, err_from_is_err_and}
use Rattle.script_grammar.specs.Fields.{◌>>=◌}
use Rattle.script_grammar.specs.Commits.{goes_on}
use Rattle.script_grammar.proofs.CommitLemmas.{first_number, no_first_number, next_number, no_next_number, dies_so}
use Rattle.script_grammar.proofs.CommitLemmas.{dies_nowhere, no_more_numbers, with_death}
use Rattle.script_grammar.proofs.commit.branches_at.Goals as goal

pub returns-in_err-number : goal.returns-in_err-number
returns-in_err-number c =
    let p = err_from_is_err_and c.from_residual.result c.from_residual.ensures.1 in
    rw (p.1, p.2)
    (sym (no_first_number c.args.count c.args.words.now c.in_err-number.field-0.0 c.in_err-number.ensures.takes))

pub loop-word-init : goal.loop-word-init
loop-word-init c =
    first_number c.args.count c.args.words.now c.number.new.self c.in_ok-number.field-0 (goes_on c.add.new.self)
    c.in_ok-number.ensures.takes (λ ms. c.add.ensures ms ∙ c.new-named.ensures (c.in_ok-number.field-0 ∷ ms))

pub returns-in_err-death : goal.returns-in_err-death
returns-in_err-death c =
    let p = err_from_is_err_and c.from_residual-in_err-death.result c.from_residual-in_err-death.ensures.1 in
    rw (p.1, p.2)
    (dies_nowhere _ _ _ (goes_on c.loop-word.named) _ c.loop-word.invariant c.in-Some.ensures (search rules) _
    (sym c.in_err-death.ensures))

pub returns-in_err-managers : goal.returns-in_err-managers
returns-in_err-managers c =
    let p = err_from_is_err_and c.from_residual-in_err-managers.result c.from_residual-in_err-managers.ensures.1 in
    rw (p.1, p.2) (ap (λ r. r >>= λ managers. Ok (managers, Some c.in_ok-death.death)) c.in_err-managers.ensures
    ∙ dies_so _ _ _ (goes_on c.loop-word.named) _ c.loop-word.invariant c.in-Some.ensures (search rules) _
    (sym c.in_ok-death.ensures))

pub returns-then-eq : goal.returns-then-eq
returns-then-eq c =
    ap (λ r. r >>= λ managers. Ok (managers, Some c.in_ok-death.death)) c.in_ok-managers.ensures
    ∙ dies_so _ _ _ (goes_on c.loop-word.named) _ c.loop-word.invariant c.in-Some.ensures (search rules) _
    (sym c.in_ok-death.ensures)

pub returns-in_err-number_in : goal.returns-in_err-number_in
returns-in_err-number_in c =
    let p = err_from_is_err_and c.from_residual-in_err-number_in.result c.from_residual-in_err-number_in.ensures.1 in
    rw (p.1, p.2)
    (no_next_number _ _ _ (goes_on c.loop-word.named) _ c.loop-word.invariant c.in-Some.ensures (search rules) _
    (sym c.in_err-number_in.ensures.value))

pub loop-word-preserved : goal.loop-word-preserved
loop-word-preserved c =
    next_number _ _ _ (goes_on c.loop-word.named) _ c.loop-word.invariant c.in-Some.ensures (search rules) _
    (goes_on c.add-in-Some.new.self) (sym c.in_ok-number_in.ensures.value) (λ ms. c.add-in-Some.ensures ms)

pub returns-in_err-managers-2 : goal.returns-in_err-managers-2
returns-in_err-managers-2 c = search (arith, err_from_is_err_and, no_more_numbers, with_death)

pub returns : goal.returns
returns c = search (arith, no_more_numbers, with_death)
