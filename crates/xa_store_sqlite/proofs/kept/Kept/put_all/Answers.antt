use Rattle.std.specs.Map.Iter.{deref}
use Rattle.std.proofs.lemmas.Map.Iter.{rest_all, rest_more}
use Rattle.xa_base.proofs.{[], ◌∷◌, ◌++◌, ◌∙◌, List, ap, map, map-append, refl, subst, sym}
use Rattle.xa_words.specs.{XidName}
use Rattle.xa_store_sqlite.specs.{PutsAll, image_of}
use Rattle.xa_store_sqlite.proofs.Changes.{quiet_on, quiet_same}
use Rattle.xa_store_sqlite.proofs.Writing.{all_split, next_lacks, none_put, one_put_more, so_far_more}
use Rattle.xa_store_sqlite.proofs.kept.Kept.put_all.Goals as goal

pub loop-xid-preserved : goal.loop-xid-preserved
loop-xid-preserved g c =
    let i = c.loop-xid.invariant in
    let first = c.args.self.now in
    let T = c.args.manager.now.tables in
    let old = c.loop-xid.self in
    let new = c.put.new.self in
    let told = c.args.xids.now.keys in
    let ys = map deref c.loop-xid.yielded in
    let y = c.in-Some.xid.now in
    let more = map-append deref c.loop-xid.yielded (c.in-Some.xid ∷ []) in
    let next =
    rest_more deref c.loop-xid.xid-iterator c.next.new.self c.next.result c.in-Some.xid c.in-Some.is
    c.next.ensures.steps in
    record {
      so_far = so_far_more told c.loop-xid.yielded c.in-Some.xid c.next.new.self c.loop-xid.xid-iterator i.so_far next;
      seen = λ seen. c.in_ok-put.ensures.seen (i.seen seen);
      order = λ o none.
          c.in_ok-put.ensures.order (i.order o none)
          (next_lacks told ys y c.next.new.self c.loop-xid.xid-iterator T (image_of first.mirror) (image_of old.mirror)
          i.so_far next c.iter-xid-items.ensures.unique none (i.put o none));
      put = λ o none.
          let lacks =
          next_lacks told ys y c.next.new.self c.loop-xid.xid-iterator T (image_of first.mirror) (image_of old.mirror)
          i.so_far next c.iter-xid-items.ensures.unique none (i.put o none) in
          let done = c.in_ok-put.ensures.put (i.order o none) lacks in
          subst (λ (l : List XidName). PutsAll l T (image_of first.mirror) (image_of new.mirror)) (sym more)
          (one_put_more ys T y (image_of first.mirror) (image_of old.mirror) (image_of new.mirror) (i.put o none) done.0
          done.1);
      room = c.put.ensures.room ∙ i.room;
      quiet = quiet_on g.S.Store.view g.S.Store.faults g.S.Store.recovers g.S.Store.is_shielded first.tables.trees
          old.tables.trees new.tables.trees i.quiet c.put.ensures.quiet;
    }

pub returns-clause-put : goal.returns-clause-put
returns-clause-put g c = λ o none.
    let first = c.args.self.now in
    let i = c.loop-xid.invariant in
    let all = all_split c.args.xids.now.keys (map deref c.loop-xid.yielded) c.loop-xid.xid-iterator i.so_far
    (rest_all deref c.loop-xid.xid-iterator c.next.new.self c.next.result c.in-None.is c.next.ensures.steps) in
    subst
    (λ (l : List XidName). PutsAll l c.args.manager.now.tables (image_of first.mirror)
    (image_of c.loop-xid.self.mirror)) all (i.put o none)

pub loop-xid-init : goal.loop-xid-init
loop-xid-init g c = record {
  so_far = c.into_iter-xid-iterator.ensures.into_iter_gives ∙ c.iter-xid-items.ensures.rest;
  seen = λ seen. seen;
  order = λ o none. o;
  put = λ o none. none_put c.args.manager.now.tables (image_of c.args.self.now.mirror);
  room = refl;
  quiet = quiet_same g.S.Store.view g.S.Store.faults g.S.Store.recovers g.S.Store.is_shielded
      c.args.self.now.tables.trees;
}

pub returns-in_err-put-clause-quiet : goal.returns-in_err-put-clause-quiet
returns-in_err-put-clause-quiet g c =
    quiet_on g.S.Store.view g.S.Store.faults g.S.Store.recovers g.S.Store.is_shielded _ c.loop-xid.self.tables.trees _
    c.loop-xid.invariant.quiet c.put.ensures.quiet
