use Rattle.xa_base.proofs.{ap, ◌∙◌, reordered}
use Rattle.xa_words.specs.{xid_eq, xid_cmp_total, xid_cmp-IsAntisymmetric, xid_eq-by_cmp}
use Rattle.xa_tables.proofs.branches.Branches.reserve.Goals as goal

pub returns-clause-states : goal.returns-clause-states
returns-clause-states c =
    reordered xid_eq xid_cmp_total xid_cmp-IsAntisymmetric xid_eq-by_cmp c.self.inside.states.entries
    c.reserve.new.self.entries c.reserve.ensures.entries.2
    ∙ ap (λ b. b.states) c.self.view_is
