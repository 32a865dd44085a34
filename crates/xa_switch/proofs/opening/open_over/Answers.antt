use Rattle.xa_base.proofs.{sym, ap, length, ◌∙◌}
use Rattle.xa_switch.proofs.opening.open_over.Goals as goal

pub put_together-requires-clause-many : goal.put_together-requires-clause-many
put_together-requires-clause-many g c = c.requires.many ∙ sym (ap length c.in-Ok.ensures.flags)

pub put_together-requires-clause-new : goal.put_together-requires-clause-new
put_together-requires-clause-new g c = rw c.in-Ok.ensures.numbers c.requires.new

pub returns-clause-opened : goal.returns-clause-opened
returns-clause-opened g c = rw (← c.in-Ok.ensures.numbers, ← c.in-Ok.ensures.flags) c.put_together.ensures
