use Rattle.xa_base.proofs.{◌≡◌, None}
use Rattle.xa_desk.specs.{drained_code}
use Rattle.xa_desk.proofs.Looks.{LooksOn}
use Rattle.xa_desk.proofs.pump.draw_until.Given as goal

-- only other completions came
abbrev pub invariant-loop : goal.invariant-loop
invariant-loop g l =
    record { looks : LooksOn l.initial.book l.book; missing : drained_code l.operation l.book.drained ≡ None }
