use Rattle.xa_base.proofs.{◌≡◌, ◌++◌, ◌∷◌, [], true, false, is_some, is_missing, sym, ap, ◌∙◌, arith, take}
use Rattle.xa_base.proofs.{from_entries, take_more}
use Rattle.std.specs.FinMap as finmap
use Rattle.xa_words.specs.{xid_cmp}
use Rattle.xa_tables.specs.{branch_fault, BranchTwice, NotLeft}
use Rattle.xa_tables.proofs.Restoring.{branches_push, branch_stands, branch_rests, fault_here, fine_here}
use Rattle.xa_tables.proofs.restored.put_left.Goals as goal

pub returns-then-is_some-clause-fault : goal.returns-then-is_some-clause-fault
returns-then-is_some-clause-fault c =
    let left = c.args.left.now in
    let i = c.loop-xid.xid-index in
    let b = c.loop-xid-item.result in
    fault_here branch_fault left i b BranchTwice c.loop-xid.invariant.2 c.loop-xid-test.true
    (ap (branch_fault (take i left)) (sym c.loop-xid-item.is)
    ∙ branch_stands (take i left) c.loop-xid.branches.states b c.loop-xid.invariant.0
    (ap is_some (sym c.get.ensures) ∙ sym c.if-is_some.ensures))

pub returns-then-not-is_left-clause-fault : goal.returns-then-not-is_left-clause-fault
returns-then-not-is_left-clause-fault c =
    let left = c.args.left.now in
    let i = c.loop-xid.xid-index in
    let b = c.loop-xid-item.result in
    fault_here branch_fault left i b NotLeft c.loop-xid.invariant.2 c.loop-xid-test.true
    (ap (branch_fault (take i left)) (sym c.loop-xid-item.is)
    ∙ branch_rests (take i left) c.loop-xid.branches.states b false c.loop-xid.invariant.0
    (ap is_some (sym c.get.ensures) ∙ sym c.if-is_some.ensures)
    (sym c.if-not-is_left.ensures))

pub loop-xid-preserved : goal.loop-xid-preserved
loop-xid-preserved c =
    let left = c.args.left.now in
    let i = c.loop-xid.xid-index in
    let b = c.loop-xid-item.result in
    let new : is_some (finmap.get c.loop-xid.branches.states b.0) ≡ false =
    ap is_some (sym c.get.ensures) ∙ sym c.if-is_some.ensures in
    let none = ap (λ m. finmap.get m b.0) (sym c.loop-xid.invariant.0) ∙ is_missing _ new in (
      c.insert.ensures.state ∙ ap (λ m. finmap.insert m b.0 b.1) c.loop-xid.invariant.0
          ∙ sym (branches_push (take i left) b.0 b.1 none)
          ∙ ap (λ e. from_entries {R = xid_cmp} (take i left ++ e ∷ [])) c.loop-xid-item.is
          ∙ ap (from_entries {R = xid_cmp}) (sym (take_more left i b c.loop-xid-test.true)),
      omega (arith, c.insert.ensures.room, c.loop-xid.invariant.1),
      fine_here branch_fault left i b c.loop-xid.invariant.2 c.loop-xid-test.true
          (ap (branch_fault (take i left)) (sym c.loop-xid-item.is)
          ∙ branch_rests (take i left) c.loop-xid.branches.states b true c.loop-xid.invariant.0 new
          (sym c.if-not-is_left.ensures)),
    )
