use Rattle.xa_base.proofs.{◌≡◌, map, take, All}
use Rattle.script_transcript.specs.{name_of}
use Rattle.script_transcript.proofs.Worth.{WorthAfter}
use Rattle.script_transcript.proofs.values.values_of.Given as goal

-- the first keys stand there with their values
abbrev pub invariant-loop-declared : goal.invariant-loop-declared
invariant-loop-declared l = record {
  named : map name_of l.values.items ≡ map name_of (take l.declared-index l.keys);
  worth : All (WorthAfter l.script l.settled) l.values.items;
}
