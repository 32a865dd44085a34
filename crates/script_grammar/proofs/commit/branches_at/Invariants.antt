use Rattle.xa_base.proofs.{◌≡◌, length}
use Rattle.script_grammar.specs.Fields.{◌>>=◌}
use Rattle.script_grammar.specs.{managers_to_end, branches_at}
use Rattle.script_grammar.specs.Commits.{goes_on}
use Rattle.script_grammar.proofs.CommitLemmas.{with_death}
use Rattle.script_grammar.proofs.commit.branches_at.Given as goal

abbrev pub invariant-loop-word : goal.invariant-loop-word
invariant-loop-word l = (managers_to_end l.words >>= with_death (goes_on l.named)) ≡ branches_at l.count l.fn.words

abbrev pub decreases-loop-word : goal.decreases-loop-word
decreases-loop-word l = length l.words
