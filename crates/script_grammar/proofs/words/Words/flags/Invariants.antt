use Rattle.xa_base.proofs.{◌≡◌, length}
use Rattle.script_grammar.specs.{flags_onto}
use Rattle.script_grammar.proofs.words.Words.flags.Given as goal

abbrev pub invariant-loop-word : goal.invariant-loop-word
invariant-loop-word l = flags_onto l.flags l.self ≡ flags_onto 0 l.fn.self

abbrev pub decreases-loop-word : goal.decreases-loop-word
decreases-loop-word l = length l.self
