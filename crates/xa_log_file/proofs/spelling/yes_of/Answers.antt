use Rattle.xa_base.proofs.{rules, ◌-◌, ◌∙◌, map, eqb, get_or, ap, sym}
use Rattle.xa_words.proofs.ManagerSets.{set_by}
use Rattle.xa_log_file.proofs.Tables.{eight_numbers}
use Rattle.xa_log_file.proofs.spelling.yes_of.Goals as goal

pub returns : goal.returns
returns c =
    set_by c.from_fn.result (λ m. eqb (get_or c.args.bytes.now (m - 1) 0) 1) c.from_fn.ensures.places
    (λ m up. let asked = c.from_fn.ensures.asked m up in search rules)
    ∙ ap (map (λ b. eqb b 1)) (sym (eight_numbers c.args.bytes.now c.requires))
