use Rattle.xa_base.proofs.{sym, ◌∙◌}
use Rattle.script_grammar.specs.declared.step.Step.TheVariants as step
use Rattle.script_grammar.proofs.Scripts.{declared_kept, logfail_kept, logunknown_kept, setting_kept, step_kept}
use Rattle.script_grammar.proofs.Scripts.{turn_is}
use Rattle.script_grammar.proofs.read.take_words.Goals as goal

pub set-requires : goal.set-requires
set-requires c =
    setting_kept c.args.script.now c.in-Count.count _ c.in_ok-setting-in-Count.setting
    (sym c.setting_of.ensures ∙ c.in_ok-setting-in-Count.was)

pub add_step-requires : goal.add_step-requires
add_step-requires c =
    step_kept c.args.script.now (step.Turn c.args.number c.in_ok-manager-in-Turn.manager)
    (turn_is c.args.threads_mode c.args.script.now c.args.number _ c.in_ok-manager-in-Turn.manager
    (sym c.turn_of.ensures ∙ c.in_ok-manager-in-Turn.was))

pub set_failing-requires-clause-script : goal.set_failing-requires-clause-script
set_failing-requires-clause-script c =
    logfail_kept c.args.script.now _ (c.in_ok-thread-in-LogFail.thread, c.in_ok-thread-in-LogFail.append)
    (sym c.logfail_of.ensures.value ∙ c.in_ok-thread-in-LogFail.was)

pub set_unknown-requires-clause-script : goal.set_unknown-requires-clause-script
set_unknown-requires-clause-script c =
    logunknown_kept c.args.script.now _ (c.in_ok-thread-in-LogUnknown.thread, c.in_ok-thread-in-LogUnknown.unknown)
    (sym c.logunknown_of.ensures.value ∙ c.in_ok-thread-in-LogUnknown.was)

pub add_key-requires : goal.add_key-requires
add_key-requires c =
    declared_kept c.args.script.now _ c.in_ok-declared-in-Key.declared
    (sym c.declared_of.ensures ∙ c.in_ok-declared-in-Key.was)

pub add_step-requires-in-Reopen : goal.add_step-requires-in-Reopen
add_step-requires-in-Reopen c = step_kept c.args.script.now (step.Reopen c.args.number) tt
