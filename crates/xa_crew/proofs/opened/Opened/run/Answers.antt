use Rattle.xa_base.proofs.{sym, ◌∙◌}
use Rattle.xa_crew.proofs.Stores.{none_left}
use Rattle.xa_crew.proofs.opened.Opened.run.Goals as goal

pub run_stored-ran-requires-clause-opened : goal.run_stored-ran-requires-clause-opened
run_stored-ran-requires-clause-opened g c = λ κs outlives.
    let (p, is) = c.requires.opened in (
      p,
      is,
      none_left _ _ (λ s T. tt) (λ s K may. may) p.first _
          (c.in-Ok.ensures ∙ c.managers.ensures ∙ is.opened.managers ∙ sym is.opened.tables),
    )
