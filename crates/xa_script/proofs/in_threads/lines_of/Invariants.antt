use Rattle.xa_base.proofs.{◌≡◌, ◌++◌, false, All, flat_map, into_iter_items}
use Rattle.script_transcript.specs.{lines_text}
use Rattle.xa_script.specs.{lines_of_thread}
use Rattle.xa_script.proofs.in_threads.lines_of.Given as goal

-- the first threads have told
abbrev pub invariant-loop-attended : goal.invariant-loop-attended
invariant-loop-attended l = record {
  so_far : l.yielded ++ into_iter_items l.attended-iterator ≡ l.fn.threads.items;
  done : All (λ t. t.client.wants_memory ≡ false) l.yielded;
  told : l.lines.items ≡ lines_text (flat_map lines_of_thread l.yielded);
}
