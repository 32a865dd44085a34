use Rattle.xa_base.proofs.{◌≡◌, ◌∙◌, ap, rules, map}
use Rattle.xa_driver.specs.{first_ask}
use Rattle.xa_driver.proofs.AtDeath.{desk_left, others_stay, came_to_votes}
use Rattle.xa_driver.proofs.Calls.{among_first}
use Rattle.xa_driver.proofs.committing.die_preparing.Goals as goal

pub returns : goal.returns
returns g c =
    let r = c.begin_to_collect.new.self in
    let now = c.begin_to_collect.new.desk in
    let desk = c.args.desk.now in
    let e = c.begin_to_collect.ensures in
    let left = c.leave.ensures in
    let before : r.before.value ≡ desk = ap (λ b. b.value) e.before ∙ c.requires.begins in
    record {
      dies = λ bs t log p. record {
        far =
            came_to_votes r now e.under_way e.all bs c.args.count e.first (e.same (map first_ask bs) p.same) desk
            c.leave.new.desk.ledgers log c.leave.result.items before left.left.lists left.votes;
        others = others_stay r now e.under_way bs desk.ledgers c.leave.new.desk.ledgers
            (λ m. among_first bs r.asks.items m (e.same (map first_ask bs) p.same)) (ap (λ d. d.ledgers) before)
            left.left.lists;
      };
      leaves = λ bs p. desk_left r now e.under_way bs desk c.leave.new.desk
          (λ m. among_first bs r.asks.items m (e.same (map first_ask bs) p.same)) before left.left left.goes_on
          left.kept;
      waited = search rules;
      ordered = search rules;
      idled = search rules;
    }
