use Rattle.xa_desk.proofs.GoingOn.{kept_leaves_by, others_seen}
use Rattle.xa_desk.proofs.desk.Desk.keep.Goals as goal

pub returns-clause-others : goal.returns-clause-others
returns-clause-others c =
    others_seen _ _ _ _ _ c.self.view_is c.spend.ensures (kept_leaves_by _ _ _ _ c.keep.ensures.kept)
