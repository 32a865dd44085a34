use Rattle.xa_base.proofs.{rules, ap, ◌∙◌, arith, nat_cmp, contains-empty}
use Rattle.std.specs.FinSet as set
use Rattle.xa_tables.proofs.Soundness.{live_opening}
use Rattle.xa_tables.specs.{Tables}
use Rattle.xa_tables.proofs.ThreadLemmas.{none_free}
use Rattle.xa_tables.proofs.Reopening.{new_opens, accounts_new}
use Rattle.xa_tables.proofs.manager.Manager.new.Goals as goal

pub invariant_of-result : goal.invariant_of-result
invariant_of-result c =
    let opens = c.in_ok-inner.ensures.tables in
    let none =
    none_free c.args.threads c.in_ok-inner.inner.tables
    (λ u. ap (λ (T : Tables). set.contains T.opened u) opens ∙ contains-empty nat_cmp u) in (
      search rules,
      omega (arith, c.branches_within.ensures, c.in_ok-inner.ensures.room),
      rw c.in_ok-inner.ensures.tables (live_opening _ (new_opens _ (accounts_new c.args.accounts.now))),
      search rules,
      tt,
    )
