use Rattle.xa_base.proofs.{map-map, List, ◌∙◌}
use Rattle.std.proofs.lemmas.List.{map-id}
use Rattle.xa_desk.specs.{DeskView}
use Rattle.xa_worker.specs.{WorkerView}
use Rattle.xa_switch.specs.{planned}
use Rattle.script_grammar.specs.{Content}
use Rattle.script_session.specs.{Session, new_session}
use Rattle.laws_transcript.proofs.Opened.{planned_setup}
use Rattle.xa_script.proofs.TurnsSoFar.{begin_so}
use Rattle.xa_script.proofs.in_turns.Runner.open.Goals as goal

pub returns-clause-opened : goal.returns-clause-opened
returns-clause-opened g c =
    let s : Content = c.args.script.now in
    let desks : List DeskView = c.in-Ok.opened.0.items in
    let workers : List WorkerView = c.in-Ok.opened.1.items in
    let p = c.in_ok-plan.plan in
    rw (c.in_ok-sessions.ensures, c.new.ensures) (record {
      opened = record {
        setup = planned p;
        said = planned_setup s p c.in_ok-plan.ensures.plan c.in_ok-plan.ensures.sound;
        opened = rw (map-map (λ (x : Session). x.desk) (new_session s) desks ∙ map-id desks) c.in-Ok.ensures.opened;
      };
      begins = begin_so s (λ d. d) desks;
    })
