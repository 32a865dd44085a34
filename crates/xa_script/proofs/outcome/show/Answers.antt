use Rattle.xa_base.proofs.{List, map, on_ok_weaker}
use Rattle.script_grammar.specs.{Declared, Content}
use Rattle.script_transcript.specs.{AreValues}
use Rattle.laws_transcript.specs.{Former, settled_over}
use Rattle.xa_script.proofs.TurnsSoFar.{managers_so, run_tells}
use Rattle.xa_script.proofs.outcome.show.Goals as goal

pub values_of-requires : goal.values_of-requires
values_of-requires g c =
    let (answers, h) = c.requires in (
      map (λ (f : Former). f.opening.settled) h.before,
      rw h.settles at
          (managers_so h.mode c.args.script.now answers h.before h.last h.outcome),
    )

pub returns-clause-ok : goal.returns-clause-ok
returns-clause-ok g c =
    let s : Content = c.args.script.now in
    let values : List Declared = c.in_ok-values.values.items in
    let old = g.W.Write.contents c.args.writer.now in
    let new = g.W.Write.contents c.write_transcript.new.writer in
    on_ok_weaker c.write_transcript.result (λ written m answers before last are outcome same.
    let managers = rw same at (managers_so m s answers before last outcome) in
    let shown : AreValues s (settled_over before last) values =
    rw same (c.in_ok-values.ensures (map (λ (f : Former). f.opening.settled) before) managers) in
    record {
      answers = answers;
      former = before;
      latest = last;
      outcome = outcome;
      values = values;
      tells = run_tells m s answers values before last outcome shown;
      written = rw (are, c.deref.ensures.value) at written;
    })
    c.write_transcript.ensures.ok
