use Rattle.xa_base.proofs.{◌≡◌, length}
use Rattle.xa_words.specs.{are_apart}
use Rattle.xa_tables.proofs.accounts.are_apart.Given as goal

abbrev pub invariant-loop-key : goal.invariant-loop-key
invariant-loop-key l = are_apart l.rest ≡ are_apart l.declared

abbrev pub decreases-loop-key : goal.decreases-loop-key
decreases-loop-key l = length l.rest
