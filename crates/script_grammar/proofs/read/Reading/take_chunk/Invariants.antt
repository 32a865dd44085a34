use Rattle.xa_base.proofs.{◌≡◌, ◌≤◌, ℕ, List, ◌++◌, length}
use Rattle.script_grammar.specs.Reading.{goes_on}
use Rattle.script_grammar.specs.{StaysOne}
use Rattle.script_grammar.proofs.read.Reading.take_chunk.Given as goal

abbrev pub invariant-loop-end : goal.invariant-loop-end
invariant-loop-end l = record {
  goes : (bytes : List ℕ) → goes_on l.fn.self (l.chunk ++ bytes) ≡ goes_on l.self (l.rest ++ bytes);
  one : StaysOne l.fn.self l.self;
  in_range : length l.rest ≤ length l.chunk;
}

abbrev pub decreases-loop-end : goal.decreases-loop-end
decreases-loop-end l = length l.rest
