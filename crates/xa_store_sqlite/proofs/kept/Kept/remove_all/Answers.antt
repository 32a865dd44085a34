use Rattle.std.specs.Map.Iter.{deref}
use Rattle.std.proofs.lemmas.Map.Iter.{rest_all, rest_more}
use Rattle.xa_base.proofs.{[], ◌∷◌, ◌∙◌, List, map, map-append, subst, sym}
use Rattle.xa_words.specs.{XidName}
use Rattle.xa_store_sqlite.specs.{RemovesAll, image_of}
use Rattle.xa_store_sqlite.proofs.Changes.{quiet_on, quiet_same}
use Rattle.xa_store_sqlite.proofs.Writing.{all_split, none_removed, one_removed_more, so_far_more}
use Rattle.xa_store_sqlite.proofs.kept.Kept.remove_all.Goals as goal

pub loop-xid-preserved : goal.loop-xid-preserved
loop-xid-preserved g c =
    let i = c.loop-xid.invariant in
    let image = image_of c.loop-xid.self.mirror in
    let x = c.in-Some.xid in
    record {
      so_far = so_far_more c.args.xids.now.keys c.loop-xid.yielded x c.next.new.self c.loop-xid.xid-iterator i.so_far
          (rest_more deref c.loop-xid.xid-iterator c.next.new.self c.next.result x c.in-Some.is c.next.ensures.steps);
      seen = λ seen. c.in_ok-remove.ensures.seen (i.seen seen);
      order = λ o. c.in_ok-remove.ensures.order (i.order o);
      removed = λ o.
          let done = c.in_ok-remove.ensures.removed (i.order o) in
          let more = one_removed_more (map deref c.loop-xid.yielded) x.now _ image _ (i.removed o) done.0 done.1 in
          subst
          (λ (l : List XidName). RemovesAll l (image_of c.args.self.now.mirror) (image_of c.remove.new.self.mirror))
          (sym (map-append deref c.loop-xid.yielded (x ∷ []))) more;
      quiet = quiet_on g.S.Store.view g.S.Store.faults g.S.Store.recovers g.S.Store.is_shielded _
          c.loop-xid.self.tables.trees _ i.quiet c.remove.ensures.quiet;
    }

pub returns-clause-removed : goal.returns-clause-removed
returns-clause-removed g c = λ o.
    let all =
    rest_all deref c.loop-xid.xid-iterator c.next.new.self c.next.result c.in-None.is c.next.ensures.steps in
    subst (λ (l : List XidName). RemovesAll l (image_of c.args.self.now.mirror) (image_of c.loop-xid.self.mirror))
    (all_split c.args.xids.now.keys (map deref c.loop-xid.yielded) c.loop-xid.xid-iterator
    c.loop-xid.invariant.so_far all) (c.loop-xid.invariant.removed o)

pub loop-xid-init : goal.loop-xid-init
loop-xid-init g c = record {
  so_far = c.into_iter-xid-iterator.ensures.into_iter_gives ∙ c.iter-xid-items.ensures.rest;
  seen = λ seen. seen;
  order = λ o. o;
  removed = λ o. none_removed (image_of c.args.self.now.mirror);
  quiet = quiet_same g.S.Store.view g.S.Store.faults g.S.Store.recovers g.S.Store.is_shielded
      c.args.self.now.tables.trees;
}

pub returns-in_err-remove-clause-quiet : goal.returns-in_err-remove-clause-quiet
returns-in_err-remove-clause-quiet g c =
    quiet_on g.S.Store.view g.S.Store.faults g.S.Store.recovers g.S.Store.is_shielded _ c.loop-xid.self.tables.trees _
    c.loop-xid.invariant.quiet c.remove.ensures.quiet
