use Rattle.xa_base.proofs.{take_next, ◌≡◌, ◌+◌, [], ◌∷◌, ◌++◌, take, refl, ap, ◌∙◌, arith, take_all}
use Rattle.script_grammar.specs.declared.step.Step.TheVariants as step
use Rattle.script_grammar.specs.{Fits, threads_of, managers_of, Content}
use Rattle.xa_script.specs.{Runner}
use Rattle.xa_script.proofs.TurnsSoFar.{begun, reached_threads, reached_managers, stepped, ended_so, reopened}
use Rattle.xa_script.proofs.TurnsSoFar.{outcome_so}
use Rattle.xa_script.proofs.in_turns.run.Goals as goal
use Rattle.xa_script.proofs.in_turns.run.Goals.{in-Task+in_ok-call-in-Task+in_ok-tell-in-Task}
use Rattle.xa_script.proofs.in_turns.run.Goals.{in-Turn+in_ok-tell-in-Turn}
use Rattle.xa_script.proofs.in_turns.run.Goals.{in-Reopen+in_ok-closed-in-Reopen+in_ok-tell-in-Reopen+in_ok-runner-in-Reopen}

pub loop-place-init : goal.loop-place-init
loop-place-init g c =
    let s : Content = c.args.script.now in
    let r = c.in_ok-runner.runner in
    let number = c.in_ok-runner.ensures.number in
    record {
      reached = rw c.in_ok-transcript.ensures
          (begun s r.opening r.sessions.items r.turns number c.in_ok-runner.ensures.opened);
      few = omega (arith, number);
    }

pub call-requires : goal.call-requires
call-requires g c =
    rw (reached_threads _ _ _ _ _ _ c.loop-place.invariant.reached) (rw c.in-Task.is at c.step.ensures.of).0

pub turn-requires : goal.turn-requires
turn-requires g c =
    rw (reached_managers _ _ _ _ _ _ c.loop-place.invariant.reached) (rw c.in-Turn.is at c.step.ensures.of)

pub reopen-requires-clause-closed : goal.reopen-requires-clause-closed
reopen-requires-clause-closed g c =
    let h = c.loop-place.invariant.reached in
    let x = c.in_ok-closed-in-Reopen.ensures.closed c.args.script.now h.begins h.own h.told h.goes in (
      h.begins,
      record { steps = h.own; answers = h.told ++ x.0; settled = c.in_ok-closed-in-Reopen.closed.settled },
      x.2,
      refl,
      c.in_ok-closed-in-Reopen.ensures.number ∙ h.number,
    )

pub reopen-requires-clause-few : goal.reopen-requires-clause-few
reopen-requires-clause-few g c =
    search (
      arith,
      c.in_ok-closed-in-Reopen.ensures.number,
      c.loop-place.invariant.few,
      c.loop-place-test.true,
      c.len-place-end.ensures.fits,
    )

pub loop-place-preserved : goal.loop-place-preserved
loop-place-preserved g c =
    let s : Content = c.args.script.now in
    let r = c.loop-place.runner in
    let answers = c.loop-place.transcript in
    let lines = take c.loop-place.place s.steps in
    let h = c.loop-place.invariant.reached in
    let longer : take (c.loop-place.place + 1) s.steps ≡ lines ++ c.step.result ∷ [] =
    take_next s.steps c.loop-place.place c.step.result c.step.ensures.step in
    let fits : Fits (threads_of s) (managers_of s) c.step.result = c.step.ensures.of in
    elim c.match-step.branch [
      | in-Task+in_ok-call-in-Task+in_ok-tell-in-Task w ↦
          let new = w.call.new.self in
          record {
            reached =
                rw (
                  longer,
                  w.in-Task.is,
                  w.runner-is,
                  w.in_ok-call-in-Task.ensures.number,
                  w.transcript-is,
                  w.in_ok-tell-in-Task.ensures.told,
                )
                (stepped s lines r.opening r.sessions.items r.turns answers h (step.Task w.in-Task.task)
                w.in_ok-call-in-Task.field-0 new.sessions.items new.turns refl (rw w.in-Task.is at fits)
                w.in_ok-call-in-Task.ensures.calls);
            few = let same = ap (λ (x : Runner). x.opening) w.runner-is in omega
                (arith, same, w.in_ok-call-in-Task.ensures.number, c.loop-place.invariant.few);
          }
      | in-Turn+in_ok-tell-in-Turn w ↦
          let new = w.turn.new.self in
          record {
            reached =
                rw (
                  longer,
                  w.in-Turn.is,
                  w.runner-is,
                  w.turn.ensures.number,
                  w.transcript-is,
                  w.in_ok-tell-in-Turn.ensures.told,
                )
                (stepped s lines r.opening r.sessions.items r.turns answers h
                (step.Turn w.in-Turn.line w.in-Turn.manager) w.turn.result new.sessions.items new.turns refl
                (rw w.in-Turn.is at fits) w.turn.ensures.turns);
            few = let same = ap (λ (x : Runner). x.opening) w.runner-is in omega
                (arith, same, w.turn.ensures.number, c.loop-place.invariant.few);
          }
      | in-Reopen+in_ok-closed-in-Reopen+in_ok-tell-in-Reopen+in_ok-runner-in-Reopen w ↦
          let line = w.in-Reopen.line in
          let settled = w.in_ok-closed-in-Reopen.closed.settled in
          let x = w.in_ok-closed-in-Reopen.ensures.closed s h.begins h.own h.told h.goes in
          let own = w.in_ok-closed-in-Reopen.ensures.number in
          let new = w.in_ok-runner-in-Reopen.runner in
          let y =
          w.in_ok-runner-in-Reopen.ensures.opened h.begins
          (ended_so s lines r.opening r.sessions.items r.turns answers h x.0 settled) line x.2 refl
          (own ∙ h.number) in
          let number = w.in_ok-runner-in-Reopen.ensures.number in
          record {
            reached =
                rw (longer, w.in-Reopen.is, w.runner-is, w.transcript-is, w.in_ok-tell-in-Reopen.ensures.told, x.1)
                (reopened s lines r.opening r.sessions.items r.turns answers h x.0 settled line y.0 y.1 new.opening
                new.sessions.items new.turns y.2 y.3);
            few = let same = ap (λ (x : Runner). x.opening) w.runner-is in omega
                (arith, same, number, own, c.loop-place.invariant.few);
          }
    ]

pub returns : goal.returns
returns g c =
    let s : Content = c.args.script.now in
    let steps = s.steps in
    let k = c.loop-place.place in
    let r = c.loop-place.runner in
    let answers = c.loop-place.transcript in
    let h = c.loop-place.invariant.reached in
    let closed = c.in_ok-closed.closed in
    let x = c.in_ok-closed.ensures.closed s h.begins h.own h.told h.goes in
    let all : take k steps ≡ s.steps = take_all k steps (omega arith) in
    let last = ended_so s (take k steps) r.opening r.sessions.items r.turns answers h x.0 closed.settled in (
      h.before,
      last,
      rw x.1
          (outcome_so s (take k steps) r.opening r.sessions.items r.turns answers h all x.0 closed.settled
          closed.logs.items x.2),
      refl,
    )
