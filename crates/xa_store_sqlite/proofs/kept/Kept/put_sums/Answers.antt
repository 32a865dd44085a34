use Rattle.xa_base.proofs.{◌≡◌, ◌∙◌, ap, arith, is_some, length, of_z, refl, rules, subst, to_z, w64}
use Rattle.xa_store_sqlite.specs.{PutsSum, image_of, item_at, branch_name_at}
use Rattle.xa_store_sqlite.proofs.Changes.{quiet_on, quiet_same}
use Rattle.xa_store_sqlite.proofs.Putting.{all_sums, next_sum, no_sums}
use Rattle.xa_store_sqlite.proofs.Branches.{is_there, named}
use Rattle.xa_store_sqlite.proofs.kept.Kept.put_sums.Goals as goal

pub loop-key-init : goal.loop-key-init
loop-key-init g c = record {
  seen = λ seen. seen;
  order = λ o there. o;
  branches = refl;
  sums = λ o x name none apart. no_sums x (image_of c.args.self.now.mirror) none;
  quiet = quiet_same g.S.Store.view g.S.Store.faults g.S.Store.recovers g.S.Store.is_shielded
      c.args.self.now.tables.trees;
}

pub loop-key-preserved : goal.loop-key-preserved
loop-key-preserved g c =
    let i = c.loop-key.invariant in
    let slot = c.args.slot in
    let first = c.args.self.now in
    let old = c.loop-key.self in
    let new = c.put_sum.new.self in
    let e = c.loop-key-item.result in
    let own : to_z w64 (of_z w64 e.1) ≡ e.1 = search (arith, rules) in
    record {
      seen = λ seen. c.in_ok-put_sum.ensures.seen (i.seen seen);
      order = λ o there. c.in_ok-put_sum.ensures.order (i.order o there)
          (ap (λ bs. is_some (item_at bs slot)) i.branches ∙ there);
      branches = c.in_ok-put_sum.ensures.branches ∙ i.branches;
      sums = λ o x name none apart.
          next_sum x c.args.sums.now c.loop-key.key-index e (image_of first.mirror) (image_of old.mirror)
          (image_of new.mirror) (i.sums o x name none apart)
          (λ zero. subst (λ a. PutsSum x e.0 a (image_of old.mirror) (image_of new.mirror)) own
          (c.in_ok-put_sum.ensures.sum
          (i.order o
          (is_there (item_at first.mirror.branches.items slot) x
          (named first.mirror.branches.items slot x name))) x
          (ap (λ bs. branch_name_at bs slot) i.branches ∙ name) zero))
          apart c.loop-key-test.true c.loop-key-item.is;
      quiet = quiet_on g.S.Store.view g.S.Store.faults g.S.Store.recovers g.S.Store.is_shielded first.tables.trees
          old.tables.trees new.tables.trees i.quiet c.put_sum.ensures.quiet;
    }

pub returns-clause-sums : goal.returns-clause-sums
returns-clause-sums g c = λ o x name none apart.
    let last : c.loop-key.key-index ≡ length c.args.sums.now =
    omega (arith, c.loop-key-test.false, c.loop-key.auto.key-index-end) in
    all_sums x c.args.sums.now c.loop-key.key-index (image_of c.args.self.now.mirror) (image_of c.loop-key.self.mirror)
    last (c.loop-key.invariant.sums o x name none apart)

pub returns-in_err-put_sum-clause-quiet : goal.returns-in_err-put_sum-clause-quiet
returns-in_err-put_sum-clause-quiet g c =
    quiet_on g.S.Store.view g.S.Store.faults g.S.Store.recovers g.S.Store.is_shielded _ c.loop-key.self.tables.trees _
    c.loop-key.invariant.quiet c.put_sum.ensures.quiet
