use Rattle.xa_base.proofs.{◌≡◌, ◌++◌, ◌∷◌, [], false, Some, None, sym, ap, ◌∙◌, rules, arith, take, from_entries}
use Rattle.xa_base.proofs.{take_more, IfErr-weaker}
use Rattle.std.specs.FinMap as finmap
use Rattle.xa_tables.specs.{touch_cmp, is_touched, sum_entries, sums_fault, amount_fault, sum_fault}
use Rattle.xa_tables.proofs.Restoring.{sums_push, item_fault, fine_amount, fault_here, fault_told, fine_here}
use Rattle.xa_tables.proofs.restored.put_sums.Goals as goal

pub returns-in_err-place-clause-fault : goal.returns-in_err-place-clause-fault
returns-in_err-place-clause-fault c =
    let values = c.args.accounts.now.values in
    let states = c.args.branches.now.states in
    let ss = c.args.sums.now in
    let i = c.loop-sum.sum-index in
    let s = c.sum-item.result in
    let own = c.loop-sum.accounts in
    fault_told (sums_fault values states ss) c.from_residual.result c.from_residual.ensures.0
    (IfErr-weaker c.from_residual.result
    (λ f. amount_fault (finmap.get own.values s.key) (finmap.get states s.xid) (is_touched own.sums s.key)
    s.delta ≡ Some f) _
    (λ f is.
    fault_here (sum_fault (λ k. finmap.get values k) (λ x. finmap.get states x)) ss i s f c.loop-sum.invariant.3
    c.loop-sum-test.true
    (item_fault values states ss i s own.values own.sums (Some f) c.loop-sum.invariant.1 c.loop-sum.invariant.0
    c.sum-item.is is))
    (search rules))

pub hold-requires-clause-free : goal.hold-requires-clause-free
hold-requires-clause-free c =
    ap (is_touched c.loop-sum.accounts.sums) c.in_ok-place.ensures.place.1
    ∙ (fine_amount _ _ _ _ c.in_ok-place.ensures.fault).free

pub loop-sum-preserved : goal.loop-sum-preserved
loop-sum-preserved c =
    let values = c.args.accounts.now.values in
    let states = c.args.branches.now.states in
    let ss = c.args.sums.now in
    let i = c.loop-sum.sum-index in
    let s = c.sum-item.result in
    let own = c.loop-sum.accounts in
    let fine = c.in_ok-place.ensures.fault in
    let free : is_touched (from_entries {R = touch_cmp} (sum_entries (take i ss))) s.key ≡ false =
    ap (λ m. is_touched m s.key) (sym c.loop-sum.invariant.0)
    ∙ (fine_amount (finmap.get own.values s.key) (finmap.get states s.xid) (is_touched own.sums s.key) s.delta
    fine).free in (
      c.hold.ensures.sums
          ∙ (λ j. finmap.insert (c.loop-sum.invariant.0 j) (s.xid, c.in_ok-place.ensures.place.1 j) s.delta)
          ∙ sym (sums_push (take i ss) s free)
          ∙ ap (λ e. from_entries {R = touch_cmp} (sum_entries (take i ss ++ e ∷ []))) c.sum-item.is
          ∙ ap (λ ys. from_entries {R = touch_cmp} (sum_entries ys)) (sym (take_more ss i s c.loop-sum-test.true)),
      c.hold.ensures.values ∙ c.loop-sum.invariant.1,
      omega (arith, c.hold.ensures.adds),
      fine_here (sum_fault (λ k. finmap.get values k) (λ x. finmap.get states x)) ss i s c.loop-sum.invariant.3
          c.loop-sum-test.true
          (item_fault values states ss i s own.values own.sums None c.loop-sum.invariant.1 c.loop-sum.invariant.0
          c.sum-item.is fine),
    )
