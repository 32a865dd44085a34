use Rattle.xa_base.proofs.{err_from_is_err_and, ◌≡◌, [], ◌∷◌, refl, arith, append_assoc, none_of}
use Rattle.script_grammar.proofs.Scripts.{after_one}
use Rattle.script_grammar.proofs.Lines.{goes_further, stops_there}
use Rattle.script_grammar.proofs.read.Reading.take_line.Goals as goal

pub returns-in_err-read_line-clause-err : goal.returns-in_err-read_line-clause-err
returns-in_err-read_line-clause-err c =
    let p = err_from_is_err_and c.from_residual-in_err-read_line.result c.from_residual-in_err-read_line.ensures.1 in
    let r = c.args.self.now in
    let fault = c.in_err-read_line.field-0.0 in
    let empty : r.line.items ≡ [] = none_of r.line.items (grind arith) in
    rw (p.1, p.2)
    (λ bytes. rw (empty, append_assoc c.args.rest.now (10 ∷ []) bytes)
    (stops_there r.threads_mode fault r.script r.number c.args.rest.now bytes c.requires
    c.in_err-read_line.ensures.err))

pub returns-clause-ok : goal.returns-clause-ok
returns-clause-ok c = λ bytes.
    let r = c.args.self.now in
    let t = c.read_line.new.script in
    let empty : r.line.items ≡ [] = none_of r.line.items (grind arith) in
    rw (empty, append_assoc c.args.rest.now (10 ∷ []) bytes)
    (goes_further r.threads_mode r.script t r.number c.args.rest.now bytes c.requires c.in_ok-read_line.ensures.ok)

pub returns-clause-one : goal.returns-clause-one
returns-clause-one c =
    let r = c.args.self.now in (
      refl,
      λ threads all. after_one r.threads_mode r.script c.read_line.new.script r.number c.args.rest.now
          c.in_ok-read_line.ensures.ok threads all,
    )
