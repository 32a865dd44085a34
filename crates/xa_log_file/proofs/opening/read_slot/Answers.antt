use Rattle.xa_base.proofs.{arith, length-drop, is_some, take_all, is_missing}
use Rattle.xa_log_file.proofs.Tables.{no_body, no_gate}
use Rattle.xa_log_file.proofs.opening.read_slot.Goals as goal

pub returns-clause-damaged : goal.returns-clause-damaged
returns-clause-damaged c =
    search (
      arith,
      is_missing,
      is_some,
      no_body,
      take_all,
      length-drop,
      c.read_body.result,
      c.args.slot.now,
      c.read_body.ensures.none,
    )

pub returns-then-gate-clause-damaged : goal.returns-then-gate-clause-damaged
returns-then-gate-clause-damaged c = search (arith, no_gate, c.args.slot.now)
