use Rattle.xa_base.proofs.{arith, ◌≡◌, false, flat_map, flat_push, into_iter_items, All-push, taken_next}
use Rattle.std.proofs.lemmas.List.Concat.{flat_map-append}
use Rattle.xa_crew.specs.{Attended}
use Rattle.xa_script.specs.{ScriptThread}
use Rattle.xa_script.proofs.in_threads.lines_of.Goals as goal

-- no memory was refused to the thread
abbrev IsDone : Attended ScriptThread → Type 0
IsDone t = t.client.wants_memory ≡ false

pub loop-attended-preserved : goal.loop-attended-preserved
loop-attended-preserved c =
    let before = c.loop-attended.yielded in
    record {
      so_far = taken_next before _ (into_iter_items c.next.new.self) _ c.in-Some.attended c.in-Some.ensures.steps.0
          c.loop-attended.invariant.so_far;
      done = All-push IsDone before c.in-Some.attended c.loop-attended.invariant.done c.in_ok-tell.ensures.done;
      told = search (arith, flat_map-append, flat_map, flat_push);
    }
