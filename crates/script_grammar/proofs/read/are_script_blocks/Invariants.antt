use Rattle.xa_base.proofs.{◌≡◌, ◌≤◌, ◌+◌, ◌-◌, true, take, list_all}
use Rattle.script_grammar.specs.{is_script_byte}
use Rattle.script_grammar.proofs.read.are_script_blocks.Given as goal

abbrev pub invariant-loop-start : goal.invariant-loop-start
invariant-loop-start l =
    record { judged : list_all is_script_byte (take l.start l.line) ≡ true; in_range : l.start ≤ l.last + 16 }

abbrev pub decreases-loop-start : goal.decreases-loop-start
decreases-loop-start l = l.last - l.start
