use Rattle.xa_base.proofs.{arith, on_ok_weaker}
use Rattle.script_command.specs.declared.mode.RunMode.TheVariants as mode
use Rattle.xa_script.proofs.in_turns.run_turns.Goals as goal

pub show-requires : goal.show-requires
show-requires g c = search (arith, c.in_ok-transcript.ensures)

pub returns-clause-ok : goal.returns-clause-ok
returns-clause-ok g c =
    let (before, last, outcome, same) = c.in_ok-transcript.ensures in
    on_ok_weaker c.show.result
    (λ written. written mode.Turns c.in_ok-transcript.transcript before last c.text.ensures outcome same)
    c.show.ensures.ok
