use Rattle.xa_base.proofs.{◌≡◌, ◌<◌, ℕ, List, length, false, sym, arith, ◌==◌, Ok, err_from_is_err_and}
use Rattle.script_grammar.specs.{after_line, FailsAt}
use Rattle.script_grammar.proofs.Scripts.{after_one}
use Rattle.script_grammar.proofs.Lines.{ends_empty, ends, ends_in_fault}
use Rattle.script_grammar.proofs.read.Reading.finish.Goals as goal

-- A line that isn't empty has a byte.
some_byte : (n : ℕ) (line : List ℕ) → n ≡ length line → (n == 0) ≡ false → 0 < length line
some_byte n line long some = grind arith

pub returns-then-is_empty-clause-reads : goal.returns-then-is_empty-clause-reads
returns-then-is_empty-clause-reads c = search (arith, ends_empty)

pub returns-in_err-read_line-clause-reads : goal.returns-in_err-read_line-clause-reads
returns-in_err-read_line-clause-reads c =
    let p = err_from_is_err_and c.from_residual.result c.from_residual.ensures.1 in
    let r = c.args.self in
    let fault = c.in_err-read_line.field-0.0 in
    let fails : FailsAt r.number fault (after_line r.threads_mode r.script r.number r.line.items) =
    rw c.deref.ensures.value at c.in_err-read_line.ensures.err in
    rw (p.1, p.2)
    (ends_in_fault r.threads_mode fault r.script r.number r.line.items r.no_end
    (some_byte _ _ r.line.ok.0 (sym c.if-is_empty.ensures)) fails)

pub returns-clause-reads : goal.returns-clause-reads
returns-clause-reads c =
    let r = c.args.self in
    let taken : after_line r.threads_mode r.script r.number r.line.items ≡ Ok c.read_line.new.script =
    search (arith, r.threads_mode, r.script) in
    ends r.threads_mode r.script c.read_line.new.script r.number r.line.items r.no_end
    (some_byte _ _ r.line.ok.0 (sym c.if-is_empty.ensures)) taken

pub returns-clause-one : goal.returns-clause-one
returns-clause-one c = search (arith, after_one)
