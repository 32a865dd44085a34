use Rattle.xa_base.proofs.{◌≡◌, ◌-◌, ◌<◌, length, Some, sym, ap, ◌∙◌, refl, arith, slice_index_or, slice_get-get_or}
use Rattle.script_session.specs.{Session, session_of}
use Rattle.xa_script.proofs.in_turns.Runner.call.Goals as goal

pub returns-clause-calls : goal.returns-clause-calls
returns-clause-calls g c =
    let before = c.index_mut.result.now in
    let inside : c.args.task.now.thread - 1 < length c.args.self.now.sessions.items =
    omega (arith, c.requires.0, c.requires.1) in
    let value : before ≡ slice_index_or c.args.self.now.sessions.items (c.args.task.now.thread - 1) before =
    c.index_mut.ensures.value in
    record {
      before = before;
      after = session_of c.carry_out.new.desk c.carry_out.new.log c.carry_out.new.scan;
      at = slice_get-get_or c.args.self.now.sessions.items (c.args.task.now.thread - 1) before inside
          ∙ ap (λ (x : Session). Some x) (sym value);
      answer = c.in_ok-answer.answer;
      does = c.in_ok-answer.ensures.does;
      told = refl;
      rest = refl;
      turns = c.carry_out.ensures.idled;
      prompt = c.carry_out.ensures.prompt;
    }
