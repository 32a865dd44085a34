use Rattle.xa_base.proofs.{ap, refl, ◌∙◌, length, ◌≤◌, arith, if◌then◌else◌}
use Rattle.std.specs.FinSet as set
use Rattle.xa_tables.specs.{open_mark}
use Rattle.xa_tables.proofs.ThreadLemmas.{open_given}
use Rattle.xa_tables.proofs.threads.Threads.set_open.Goals as goal

pub returns-clause-opened : goal.returns-clause-opened
returns-clause-opened c =
    let last : c.args.thread ≤ length c.self.inside.threads.items = omega (arith, ap (λ s. s.threads) c.self.view_is) in
    open_given open_mark c.self.inside.threads.items c.args.thread _ c.args.is_open c.requires.first last refl
    ∙ ap (λ s. if c.args.is_open then set.insert s.opened c.args.thread else set.remove s.opened c.args.thread)
    c.self.view_is
