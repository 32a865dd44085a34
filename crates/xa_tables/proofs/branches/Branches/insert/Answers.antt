use Rattle.xa_base.proofs.{ap, ◌∙◌, ◌<◌, arith, spare, at_ok, one_put}
use Rattle.std.specs.FinMap as map
use Rattle.xa_words.specs.{xid_eq, xid_cmp_total, xid_cmp-IsAntisymmetric, xid_eq-by_cmp}
use Rattle.xa_tables.proofs.branches.Branches.insert.Goals as goal

pub returns-clause-state : goal.returns-clause-state
returns-clause-state c =
    let room : 0 < spare c.self.inside.states = omega (arith, ap (λ b. b.spare) c.self.view_is) in
    let updates =
    at_ok c.insert-inserted.result _ (c.insert-inserted.ensures.succeeds room) c.insert-inserted.ensures.updates in
    one_put xid_eq xid_cmp_total xid_cmp-IsAntisymmetric xid_eq-by_cmp c.self.inside.states.entries
    c.insert-inserted.new.self.entries c.args.xid.now c.args.state updates.0
    ∙ ap (λ b. map.insert b.states c.args.xid.now c.args.state) c.self.view_is
