use Rattle.xa_base.proofs.{◌≡◌, ◌+◌, ◌-◌, ◌<◌, ℕ, List, [], ◌∷◌, ◌++◌, length, take, drop, true, ap, sym, ◌∙◌, arith}
use Rattle.xa_base.proofs.{append_assoc, take_all, length-drop, ◌==◌, err_from_is_err_and, slice_index}
use Rattle.script_grammar.specs.declared.read.Reading.{Reading}
use Rattle.script_grammar.specs.Reading.{goes_on}
use Rattle.script_grammar.proofs.Lines.{no_end, no_end_before, cut_at}
use Rattle.script_grammar.proofs.read.Reading.take_chunk.Goals as goal

-- The line in front of a line feed comes first, and then the line feed.
cut : (r : Reading) (rest : List ℕ) (end : ℕ) (bytes : List ℕ) → end < length rest → (slice_index rest end == 10) ≡ true
    → goes_on r (rest ++ bytes) ≡ goes_on r ((take end rest ++ 10 ∷ []) ++ (drop (end + 1) rest ++ bytes))
cut r rest end bytes lt is =
    ap (λ xs. goes_on r (xs ++ bytes)) (sym (cut_at rest end lt is))
    ∙ ap (goes_on r) (append_assoc (take end rest ++ 10 ∷ []) (drop (end + 1) rest) bytes)

pub take_line-requires : goal.take_line-requires
take_line-requires c =
    search (arith, no_end_before, c.in-Some.ensures, c.loop-end.rest.now, c.in-Some.end, c.in-Some.ensures.0.before)

pub overflow_add-rest : goal.overflow_add-rest
overflow_add-rest c = omega (arith, c.in-Some.ensures.0.high)

pub returns-in_err-take_line-clause-err : goal.returns-in_err-take_line-clause-err
returns-in_err-take_line-clause-err c =
    let p = err_from_is_err_and c.from_residual.result c.from_residual.ensures.1 in
    rw (p.1, p.2)
    (λ bytes. rw
    (c.loop-end.invariant.goes bytes
    ∙ cut c.loop-end.self c.loop-end.rest.now c.in-Some.end bytes c.in-Some.ensures.0.high
    c.in-Some.ensures.1)
    (c.in_err-take_line.ensures.err (drop (c.in-Some.end + 1) c.loop-end.rest.now ++ bytes)))

pub loop-end-preserved : goal.loop-end-preserved
loop-end-preserved c =
    search (
      arith,
      take_all,
      length-drop,
      cut,
      c.in-Some.ensures,
      c.in_ok-take_line.ensures,
      c.loop-end.rest.now,
      c.take_line.new.self,
    )

pub take_part-requires : goal.take_part-requires
take_part-requires c = no_end c.loop-end.rest.now (λ k lt. c.in_default.ensures k (omega arith) lt)
