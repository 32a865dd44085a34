use Rattle.xa_base.proofs.{ap, ◌∙◌, length, ◌≤◌, arith}
use Rattle.xa_tables.specs.{open_mark}
use Rattle.xa_tables.proofs.ThreadLemmas.{open_same}
use Rattle.xa_tables.proofs.threads.Threads.dissociate.Goals as goal

pub returns-clause-opened : goal.returns-clause-opened
returns-clause-opened c =
    let last : c.args.thread ≤ length c.self.inside.threads.items = omega (arith, ap (λ s. s.threads) c.self.view_is) in
    open_same open_mark c.self.inside.threads.items c.args.thread _ c.index_mut.result.now c.requires.first last
    (ap open_mark c.index_mut.ensures.value)
    ∙ ap (λ s. s.opened) c.self.view_is
