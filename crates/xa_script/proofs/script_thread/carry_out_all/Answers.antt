use Rattle.xa_base.proofs.{take_next, List, [], take, refl, arith, take_all}
use Rattle.xa_base.specs.Lists.Chain.{none, more}
use Rattle.script_transcript.specs.{TranscriptLine}
use Rattle.script_session.specs.{Session, session_of}
use Rattle.xa_script.proofs.script_thread.carry_out_all.Goals as goal

pub loop-place-init : goal.loop-place-init
loop-place-init g c = record {
  runs = none [] _ refl refl;
  goes_on = c.desks_go_on.ensures.same c.args.desk.now;
  kept = λ all. all;
  idled = c.idles_go_on.ensures.same c.args.idle.now;
}

pub loop-place-preserved : goal.loop-place-preserved
loop-place-preserved g c =
    let i = c.loop-place.invariant in
    let n = c.loop-place.place in
    let p = c.get-task.result in
    let a = c.in_ok-answer.answer in
    let tasks = c.args.tasks.now in
    let first : Session × List TranscriptLine =
    (session_of c.args.desk.now c.args.log.now c.args.scan.now, c.args.told.now) in
    let old : Session × List TranscriptLine =
    (session_of c.loop-place.desk c.loop-place.log c.loop-place.scan, c.loop-place.told) in
    let new : Session × List TranscriptLine =
    (session_of c.carry_out.new.desk c.carry_out.new.log c.carry_out.new.scan, c.tell.new.self) in
    record {
      runs = rw (take_next tasks n p c.get-task.ensures)
          (more (take n tasks) p old new i.runs
          (record { answer = a; does = c.in_ok-answer.ensures.does; told = c.in_ok-tell.ensures.told }));
      goes_on = c.desks_go_on.ensures.further c.args.desk.now c.loop-place.desk c.carry_out.new.desk i.goes_on
          c.carry_out.ensures.goes_on;
      kept = λ all. c.carry_out.ensures.kept (i.kept all);
      idled = c.idles_go_on.ensures.further _ _ _ i.idled c.carry_out.ensures.idled;
    }

pub returns-clause-runs : goal.returns-clause-runs
returns-clause-runs g c =
    search (
      arith,
      take_all,
      c.args.desk.now,
      c.args.log.now,
      c.loop-place.desk,
      c.loop-place.log,
      c.loop-place.place,
      c.args.tasks.now,
    )

pub returns-in_err-tell-clause-kept : goal.returns-in_err-tell-clause-kept
returns-in_err-tell-clause-kept g c all = c.carry_out.ensures.kept (c.loop-place.invariant.kept all)
