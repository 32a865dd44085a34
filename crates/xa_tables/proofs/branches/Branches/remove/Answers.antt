use Rattle.xa_base.proofs.{ap, ◌∙◌, one_removed}
use Rattle.std.specs.FinMap as map
use Rattle.xa_words.specs.{xid_eq, xid_cmp_total, xid_cmp-IsAntisymmetric, xid_eq-by_cmp}
use Rattle.xa_tables.proofs.branches.Branches.remove.Goals as goal

pub returns-clause-state : goal.returns-clause-state
returns-clause-state c =
    one_removed xid_eq xid_cmp_total xid_cmp-IsAntisymmetric xid_eq-by_cmp c.self.inside.states.entries
    c.remove.new.self.entries c.args.xid.now c.remove.ensures.updates.0
    ∙ ap (λ b. map.remove b.states c.args.xid.now) c.self.view_is
