use Rattle.xa_desk.proofs.kept.keeps_any.Goals as goal

pub returns-then-manager-eq0 : goal.returns-then-manager-eq0
returns-then-manager-eq0 c = rw c.if-manager-eq0.true c.keeps.ensures
