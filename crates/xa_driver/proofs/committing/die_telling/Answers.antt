use Rattle.xa_base.proofs.{◌∙◌, ap, map}
use Rattle.xa_driver.specs.{second_ask}
use Rattle.xa_driver.proofs.AtDeath.{desk_left, dies_telling}
use Rattle.xa_driver.proofs.Requests.{same_itself, same_alike}
use Rattle.xa_driver.proofs.committing.die_telling.Goals as goal

pub returns-clause-dies : goal.returns-clause-dies
returns-clause-dies g c bs old log later p d first second t =
    let now = c.begin_to_collect.new.desk in
    let e = c.begin_to_collect.ensures in
    rw (c.leave.ensures.known, t.decision, t.votes)
    (dies_telling bs old c.args.desk.now.ledgers log later p d first second c.begin_to_collect.new.self now e.under_way
    e.all c.args.count e.first
    (e.same (map (second_ask d.decision.commit) d.round.asks.items) t.same) c.leave.new.desk.ledgers
    (ap (λ b. b.value.ledgers) e.before ∙ ap (λ d. d.ledgers) c.requires.begins) c.leave.ensures.left.lists)

pub returns-clause-leaves : goal.returns-clause-leaves
returns-clause-leaves g c bs among =
    let asks = c.args.telling.round.asks.items in
    let r = c.begin_to_collect.new.self in
    let e = c.begin_to_collect.ensures in
    desk_left r c.begin_to_collect.new.desk e.under_way bs c.args.desk.now c.leave.new.desk
    (λ m. (same_alike asks r.asks.items (e.same asks (same_itself asks))).among m ∙ among m)
    (ap (λ b. b.value) e.before ∙ c.requires.begins) c.leave.ensures.left c.leave.ensures.goes_on c.leave.ensures.kept
