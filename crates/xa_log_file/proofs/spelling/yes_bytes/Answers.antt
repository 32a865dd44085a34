use Rattle.xa_base.proofs.{arith, rules}
use Rattle.xa_log_file.proofs.Tables.{eight_numbers}
use Rattle.xa_log_file.proofs.spelling.yes_bytes.Goals as goal

pub returns : goal.returns
returns c =
    let each = c.from_fn.ensures.items.each in
    let whole = eight_numbers c.from_fn.result c.from_fn.ensures.items.long in
    search (arith, each, whole)
