use Rattle.xa_base.proofs.{⊎_elim, ◌≡◌, subst}
use Rattle.xa_switch.specs.{IsWhyUnsettled, Why, Stranger, Missing}
use Rattle.xa_crew.proofs.Pieces.{from_opening, of_one_opening, all_pieces, permuted_desks, permuted_workers}
use Rattle.xa_crew.proofs.settling.settle_pieces.Goals as goal

pub settle-requires : goal.settle-requires
settle-requires g c =
    let (p, r) = c.requires in
    from_opening c.desks_go_out.ensures p c.args.desks.items c.args.workers.items r
    (c.opened_pieces_come_from_their_opening.ensures p r.desks r.workers r.opened)

pub unreachable-requires : goal.unreachable-requires
unreachable-requires g c =
    let (p, r) = c.requires in
    let desks = c.args.desks.items in
    let workers = c.args.workers.items in
    let out = c.desks_go_out.ensures in
    let why = c.in-Err.ensures.why in
    ⊎_elim
    (λ (e : c.in-Err.unsettled.why ≡ Stranger). subst (λ (w : Why). IsWhyUnsettled w desks workers) e why
    (of_one_opening out p desks workers r))
    (λ (e : c.in-Err.unsettled.why ≡ Missing). (rw e at why).1 (all_pieces out p desks workers r))
    c.in-Stranger.is

pub returns-in-Ok-clause-of : goal.returns-in-Ok-clause-of
returns-in-Ok-clause-of g c = λ p r.
    let desks = c.args.desks.items in
    let workers = c.args.workers.items in
    let out = c.desks_go_out.ensures in
    rw c.in-Ok.ensures.parts
    (c.settled_openings_are_of_their_setup.ensures p r.desks r.workers desks workers r.opened
    (permuted_desks out p desks workers r) (permuted_workers out p desks workers r)
    (all_pieces out p desks workers r))
