use Rattle.xa_base.proofs.{◌≡◌, ◌≤◌, ◌-◌, length, drop}
use Rattle.script_grammar.specs.{words_of}
use Rattle.script_grammar.proofs.words.without_spaces.Given as goal

abbrev pub invariant-loop-start : goal.invariant-loop-start
invariant-loop-start l =
    record { words : words_of (drop l.start l.line) ≡ words_of l.line; in_range : l.start ≤ length l.line }

abbrev pub decreases-loop-start : goal.decreases-loop-start
decreases-loop-start l = length l.line - l.start
