use Rattle.xa_base.proofs.{refl}
use Rattle.script_session.specs.{CanResolve, ResolvesLeft, session_of}
use Rattle.script_session.proofs.resolving.resolve_left.Goals as goal

pub returns-in-Ok-clause-resolves : goal.returns-in-Ok-clause-resolves
returns-in-Ok-clause-resolves g c =
    let both = c.may_resolve.ensures.0 c.if-not-may_resolve.false in
    let may : CanResolve (session_of c.args.desk.now c.args.log.now c.args.scan.now) =
    record { known = both.1.kept; may = both.0 } in
    ResolvesLeft.resolved c.in-Ok.resolved.outcomes may c.in-Ok.ensures.trace refl refl c.resolve.ensures.keeps.keeps
    c.resolve.ensures.keeps.free refl c.in-Ok.ensures.in_turn
