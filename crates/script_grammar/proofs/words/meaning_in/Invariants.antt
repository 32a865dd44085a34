use Rattle.xa_base.proofs.{◌≡◌, length, lookup, bytes_eq}
use Rattle.script_grammar.proofs.words.meaning_in.Given as goal

abbrev pub invariant-loop-table : goal.invariant-loop-table
invariant-loop-table g l =
    lookup (λ name. bytes_eq l.word name.now) l.table ≡ lookup (λ name. bytes_eq l.word name.now) l.fn.table

abbrev pub decreases-loop-table : goal.decreases-loop-table
decreases-loop-table g l = length l.table
