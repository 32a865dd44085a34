use Rattle.xa_base.proofs.{◌∙◌}
use Rattle.xa_driver.proofs.AtDeath.{decided_here, desk_rest, desk_same, dies_decided, dies_told}
use Rattle.xa_driver.proofs.Calls.{among_second}
use Rattle.xa_driver.proofs.Progress.{idles_same, idles_start}
use Rattle.xa_driver.proofs.committing.die_decided.Goals as goal

pub returns-in-Telling-clause-dies : goal.returns-in-Telling-clause-dies
returns-in-Telling-clause-dies g c bs old log later p first second =
    rw c.in-Telling.is
    (c.die_telling.ensures.dies bs old log later p c.args.decided first second
    c.begin_telling-telling.ensures.telling)

pub returns-in-Telling-clause-leaves : goal.returns-in-Telling-clause-leaves
returns-in-Telling-clause-leaves g c bs among =
    let d = c.args.decided in
    let t = c.begin_telling-telling in
    c.die_telling.ensures.leaves bs
    (λ m. among_second d.decision.commit d.round.asks.items t.result.round.asks.items m t.ensures.telling.same
    ∙ among m)

pub returns-in-Told-clause-dies : goal.returns-in-Told-clause-dies
returns-in-Told-clause-dies g c bs old log later p first second =
    rw c.in-Told.is
    (dies_told bs old c.args.desk.now.ledgers log later p c.args.decided first second c.tell.new.desk.ledgers
    c.tell.result c.tell.ensures.told c.let_go.result c.let_go.ensures)

pub returns-in_default-clause-dies : goal.returns-in_default-clause-dies
returns-in_default-clause-dies g c bs old log later p first second =
    rw (
      decided_here c.args.death c.requires.later c.in_default.not-Telling c.in_default.not-Told,
      c.let_go-in_default.ensures,
    )
    (dies_decided bs old c.args.desk.now.ledgers log later p c.args.decided first second)

pub returns-in-Telling-clause-waited : goal.returns-in-Telling-clause-waited
returns-in-Telling-clause-waited g c =
    let d = c.args.decided in
    let t = c.begin_telling-telling in
    idles_same c.die_telling.ensures.waited
    (λ m. among_second d.decision.commit d.round.asks.items t.result.round.asks.items m t.ensures.telling.same)

pub returns-in-Told-clause-leaves : goal.returns-in-Told-clause-leaves
returns-in-Told-clause-leaves g c bs among = desk_rest bs _ _ c.tell.ensures.keeps

pub returns-in_default-clause-leaves : goal.returns-in_default-clause-leaves
returns-in_default-clause-leaves g c bs among = desk_same bs _

pub returns-in_default-clause-waited : goal.returns-in_default-clause-waited
returns-in_default-clause-waited g c = idles_start _ _
