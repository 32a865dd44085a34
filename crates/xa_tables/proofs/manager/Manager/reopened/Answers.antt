use Rattle.xa_base.proofs.{◌≡◌, Some, rules, ap, ◌∙◌, arith, nat_cmp, contains-empty}
use Rattle.std.specs.FinSet as set
use Rattle.xa_tables.proofs.Soundness.{live_opening}
use Rattle.xa_tables.specs.{Tables}
use Rattle.xa_tables.proofs.ThreadLemmas.{none_free}
use Rattle.xa_tables.proofs.Reopening.{reopens}
use Rattle.xa_tables.proofs.manager.Manager.reopened.Goals as goal

pub invariant_of-result : goal.invariant_of-result
invariant_of-result c =
    let opens = c.reopen.ensures.tables in
    let none =
    none_free c.args.threads c.reopen.new.self.tables
    (λ u. ap (λ (T : Tables). set.contains T.opened u) opens ∙ contains-empty nat_cmp u) in
    let reserved : c.self.inside.reserved ≡ Some (c.args.threads, c.args.room) =
    ap (λ m. m.reserved) c.self.view_is ∙ c.requires in
    let fits = rw reserved at c.self.invariant.4 in (
      search rules,
      omega (arith, none, fits.1, c.reopen.ensures.spare),
      rw opens (live_opening _ (reopens c.self.inside.inner.tables)),
      search rules,
      tt,
    )
