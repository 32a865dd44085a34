use Rattle.xa_base.proofs.{arith, [], ◌∙◌, on_ok_weaker}
use Rattle.script_command.specs.declared.mode.RunMode.TheVariants as mode
use Rattle.xa_script.proofs.in_threads.run_threads.Goals as goal

pub show-requires : goal.show-requires
show-requires g c = search (arith, c.in_ok-lines.ensures)

pub returns-clause-ok : goal.returns-clause-ok
returns-clause-ok g c =
    let (answers, last, are, outcome, same) = c.in_ok-lines.ensures in
    on_ok_weaker c.show.result
    (λ written. written mode.Threads answers [] last (c.deref.ensures.value ∙ are) outcome same) c.show.ensures.ok
