use Rattle.xa_base.proofs.{◌≡◌, Bool, false, cond, Some, sym, ◌∙◌, ap, is_missing, eq_by_cmp, eq_by_cmp_equiv}
use Rattle.xa_base.proofs.{get-insert}
use Rattle.std.specs.FinMap as finmap
use Rattle.xa_log.specs.{tran_cmp}
use Rattle.xa_log.proofs.Transactions.{tran_cmp_total, tran_eq-by_cmp}
use Rattle.xa_log_file.specs.{records_in}
use Rattle.test_log_file.proofs.groups.both_added.Goals as goal

pub append_all-requires-clause-new : goal.append_all-requires-clause-new
append_all-requires-clause-new c =
    let first = sym c.has.ensures ∙ is_missing c.has.result (sym c.is_some.ensures ∙ c.if-is_some.false) in
    let second = sym c.has-2.ensures ∙ is_missing c.has-2.result (sym c.is_some-2.ensures ∙ c.if-is_some-2.false) in
    let apart : eq_by_cmp tran_cmp c.args.two.now.tran c.args.one.now.tran ≡ false =
    (eq_by_cmp_equiv tran_cmp_total).symm c.args.two.now.tran c.args.one.now.tran
    ∙ sym (tran_eq-by_cmp c.args.one.now.tran c.args.two.now.tran)
    ∙ sym c.eq.ensures ∙ c.if-eq.false in (
      first,
      (
        get-insert tran_cmp_total (records_in c.args.log.now.table.slots.items) c.args.one.now.tran c.args.one.now.yes
            c.args.two.now.tran
            ∙ ap
            (λ (b : Bool). cond b (Some c.args.one.now.yes)
            (finmap.get (records_in c.args.log.now.table.slots.items) c.args.two.now.tran)) apart
            ∙ second,
        tt,
      ),
    )
