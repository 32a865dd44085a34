use Rattle.xa_base.proofs.{false_from_ne_true, ◌≡◌, ℕ, List, length, nat_eq, sym, ◌∙◌, arith, Option, None, Some}
use Rattle.xa_base.proofs.{unwrap_or}
use Rattle.std.specs.List.{position_or_len}
use Rattle.std.proofs.lemmas.List.Sums.{position_or_len_is}
use Rattle.memchr.specs.Find.{IsFirstByte, is_byte}
use Rattle.script_grammar.proofs.words.dot_at.Goals as goal

-- A search that ends at the first dot, or nowhere, tells its place.
place : (word : List ℕ) (found : Option ℕ) → IsFirstByte (is_byte 46) word found
    → unwrap_or found (length word) ≡ position_or_len (λ b. nat_eq b 46) word
place word None nowhere =
    sym (position_or_len_is (λ b. nat_eq b 46) word (length word) 0 (omega arith)
    (λ k lt. false_from_ne_true _ (nowhere k (omega arith) lt)) (λ lt. absurd (omega arith)))
place word (Some i) (first, dot) = search (arith, position_or_len_is, nat_eq, false_from_ne_true, first.before)

pub returns-clause-place : goal.returns-clause-place
returns-clause-place c = c.unwrap_or.ensures ∙ place c.args.word.now c.memchr.result c.memchr.ensures
