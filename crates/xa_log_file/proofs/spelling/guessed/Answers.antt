use Rattle.xa_base.proofs.{Some, ◌≡◌, ◌∙◌, ap, arith}
use Rattle.std.specs.Result.{result_ok}
use Rattle.xa_log_file.proofs.Tables.{part_few, length_again, read_name, read_votes}
use Rattle.xa_log_file.proofs.spelling.guessed.Goals as goal

pub returns-then-len-gt-GTRID-clause-only : goal.returns-then-len-gt-GTRID-clause-only
returns-then-len-gt-GTRID-clause-only c = search (arith, length_again, part_few)

pub returns-in_err-tran-clause-only : goal.returns-in_err-tran-clause-only
returns-in_err-tran-clause-only c = λ r valid is.
    let name = read_name c.args.body.now r c.from_be_bytes-format.result valid is (omega (arith, c.requires))
    (record { sfits = c.from_be_bytes-format.type_inv }) c.from_be_bytes-format.ensures in
    let there = c.ok.ensures.value ∙ ap result_ok (c.new.ensures ∙ name) in
    absurd (cc (there, c.in_err-tran.was))

pub returns-clause-only : goal.returns-clause-only
returns-clause-only c = λ r valid is.
    let name = read_name c.args.body.now r c.from_be_bytes-format.result valid is (omega (arith, c.requires))
    (record { sfits = c.from_be_bytes-format.type_inv }) c.from_be_bytes-format.ensures in
    let there = c.ok.ensures.value ∙ ap result_ok (c.new.ensures ∙ name) in
    let same : c.in_ok-tran.tran ≡ r.tran = cc (there, c.in_ok-tran.was) in
    let votes = c.yes_of-yes.ensures ∙ read_votes c.args.body.now r valid is in
    λ i. Some (record { tran = same i; yes = votes i })
