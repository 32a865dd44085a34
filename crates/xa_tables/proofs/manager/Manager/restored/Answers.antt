use Rattle.xa_base.proofs.{rules, ap, ◌∙◌, arith, nat_cmp, contains-empty}
use Rattle.std.specs.FinSet as set
use Rattle.xa_tables.proofs.Soundness.{live_opening}
use Rattle.xa_tables.specs.{Tables, stored}
use Rattle.xa_tables.proofs.ThreadLemmas.{none_free}
use Rattle.xa_tables.proofs.Restoring.{restored_opens}
use Rattle.xa_tables.proofs.manager.Manager.restored.Goals as goal

pub invariant_of-result : goal.invariant_of-result
invariant_of-result c =
    let opens = c.in_ok-inner.ensures.begins.tables in
    let s = stored c.args.accounts.now c.args.branches.now c.args.sums.now in
    let none =
    none_free c.args.threads c.in_ok-inner.inner.tables
    (λ u. ap (λ (T : Tables). set.contains T.opened u) opens ∙ contains-empty nat_cmp u) in (
      search rules,
      omega (arith, none, c.branches_within-most.ensures, c.in_ok-inner.ensures.begins.room),
      rw opens (live_opening _ (restored_opens s c.in_ok-inner.ensures.faultless)),
      search rules,
      tt,
    )

pub returns-clause-opening : goal.returns-clause-opening
returns-clause-opening c =
    rw c.in_ok-inner.ensures.begins.tables
    (restored_opens (stored c.args.accounts.now c.args.branches.now c.args.sums.now)
    c.in_ok-inner.ensures.faultless)
