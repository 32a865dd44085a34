use Rattle.xa_base.proofs.{◌≡◌, Ok, Err, Result, IfOk, IfOk-weaker, false_from_ne_true, refl, on_err}
use Rattle.std.specs.declared.alloc.AllocError.{AllocError}
use Rattle.xa_desk.specs.{GoesOn, AllKept}
use Rattle.script_grammar.specs.{ScriptAction}
use Rattle.script_transcript.specs.{Answer}
use Rattle.script_session.specs.{Session, session_of, Executes, TaskDoes}
use Rattle.script_session.proofs.calls.carry_out.Goals as goal

-- what is done is the thread's action
does_so : (x y : ScriptAction) (old new : Session) (r : Result Answer AllocError) → x ≡ y → IfOk r (Executes y old new)
    → GoesOn old.desk new.desk
    → (AllKept old.desk → AllKept new.desk) → IfOk r (TaskDoes x old new)
does_so x y old new (Ok a) same does goes_on kept =
    record { executes = rw same does; goes_on = goes_on; kept = kept }
does_so x y old new (Err why) same does goes_on kept = tt

pub returns-in-Call-clause-does : goal.returns-in-Call-clause-does
returns-in-Call-clause-does g c =
    does_so c.args.action.now _ (session_of c.args.desk.now c.args.log.now c.args.scan.now)
    (session_of c.answer.new.desk c.args.log.now c.answer.new.scan) c.answer.result c.in-Call.is
    (IfOk-weaker c.answer.result _ _ (λ a answers. (answers, refl)) c.answer.ensures.answers) c.answer.ensures.goes_on
    c.answer.ensures.kept

pub returns-in-Call-clause-prompt : goal.returns-in-Call-clause-prompt
returns-in-Call-clause-prompt g c =
    λ not. c.answer.ensures.prompt (false_from_ne_true _ (λ waits. not (rw c.in-Call.is waits)))

pub returns-in-Call-clause-unlogged : goal.returns-in-Call-clause-unlogged
returns-in-Call-clause-unlogged g c = on_err _ _ refl

pub returns-in-CommitAll-clause-does : goal.returns-in-CommitAll-clause-does
returns-in-CommitAll-clause-does g c =
    does_so c.args.action.now _ (session_of c.args.desk.now c.args.log.now c.args.scan.now)
    (session_of c.commit_asked.new.desk c.commit_asked.new.log c.args.scan.now) c.commit_asked.result
    c.in-CommitAll.is
    (IfOk-weaker c.commit_asked.result _ _ (λ a commits. commits c.args.scan.now) c.commit_asked.ensures.commits)
    c.commit_asked.ensures.goes_on c.commit_asked.ensures.kept

pub returns-in-CommitAll-clause-prompt : goal.returns-in-CommitAll-clause-prompt
returns-in-CommitAll-clause-prompt g c = λ not.
    c.commit_asked.ensures.prompt c.args.scan.now (λ can. not (rw c.in-CommitAll.is can))

pub returns-in-CommitAll-clause-unscanned : goal.returns-in-CommitAll-clause-unscanned
returns-in-CommitAll-clause-unscanned g c = on_err _ _ refl

pub returns-in-Resolve-clause-does : goal.returns-in-Resolve-clause-does
returns-in-Resolve-clause-does g c =
    does_so c.args.action.now _ (session_of c.args.desk.now c.args.log.now c.args.scan.now)
    (session_of c.resolve_left.new.desk c.args.log.now c.args.scan.now) c.resolve_left.result c.in-Resolve.is
    c.resolve_left.ensures.resolves c.resolve_left.ensures.goes_on c.resolve_left.ensures.kept

pub returns-in-Resolve-clause-prompt : goal.returns-in-Resolve-clause-prompt
returns-in-Resolve-clause-prompt g c = λ not. c.resolve_left.ensures.prompt (λ can. not (rw c.in-Resolve.is can))

pub returns-in-Resolve-clause-unlogged : goal.returns-in-Resolve-clause-unlogged
returns-in-Resolve-clause-unlogged g c = on_err _ _ refl

pub returns-in-Resolve-clause-unscanned : goal.returns-in-Resolve-clause-unscanned
returns-in-Resolve-clause-unscanned g c = on_err _ _ refl
