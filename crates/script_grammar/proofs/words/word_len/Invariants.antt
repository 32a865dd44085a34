use Rattle.xa_base.proofs.{◌≤◌, ◌-◌, length, take}
use Rattle.script_grammar.specs.{IsWord}
use Rattle.script_grammar.proofs.words.word_len.Given as goal

abbrev pub invariant-loop-end : goal.invariant-loop-end
invariant-loop-end l = record { word : IsWord (take l.end l.line); in_range : l.end ≤ length l.line }

abbrev pub decreases-loop-end : goal.decreases-loop-end
decreases-loop-end l = length l.line - l.end
