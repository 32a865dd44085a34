use Rattle.xa_base.proofs.{[], ap, false, inl, inr, on_ok_weaker, subst, sym}
use Rattle.xa_store_sqlite.specs.{HasAllBut, Image, IsSettledImage, image_of}
use Rattle.xa_store_sqlite.proofs.Changes.{clean_before, either, order_same}
use Rattle.xa_store_sqlite.proofs.Writing.{crash_has, leaves_before}
use Rattle.xa_store_sqlite.proofs.store.SlotStore.write.Goals as goal

pub returns-in_err-put_owed-clause-crash : goal.returns-in_err-put_owed-clause-crash
returns-in_err-put_owed-clause-crash g c = λ k K l.
    let view = g.S.Store.view in
    let recovers = g.S.Store.recovers in
    let old = c.args.self.now.kept.tables.trees in
    let new = c.put_owed.new.self.kept.tables.trees in
    inr (leaves_before (view old) (view new) (recovers old) (recovers new) K
    (clean_before view g.S.Store.faults recovers g.S.Store.is_shielded old new new c.put_owed.ensures.quiet)
    c.put_owed.ensures.quiet.outcomes l)

pub returns-clause-kept : goal.returns-clause-kept
returns-clause-kept g c = λ k.
    let view = g.S.Store.view in
    let recovers = g.S.Store.recovers in
    let T = c.args.manager.now.tables in
    let new = c.commit.new.self in
    let seen = c.in_ok-put_owed.ensures.seen (record { seen = k.settled.seen; committed = λ _. k.settled.kept }) in
    on_ok_weaker c.commit.result
    (λ (settled : IsSettledImage (view new.tables.trees) (recovers new.tables.trees) (image_of new.mirror)). record {
      has = subst (λ (i : Image). HasAllBut [] false i T) (sym c.commit.ensures.same)
          (c.in_ok-put_owed.ensures.all k.order k.has);
      settled = settled;
      order = order_same (ap (λ m. m.entries) c.commit.ensures.slots) (ap (λ m. m.entries) c.commit.ensures.places)
          c.commit.ensures.same (c.in_ok-put_owed.ensures.order k.order);
    })
    (c.commit.ensures.settled seen.seen seen.committed)

pub returns-clause-crash : goal.returns-clause-crash
returns-clause-crash g c = λ k K l.
    let view = g.S.Store.view in
    let recovers = g.S.Store.recovers in
    let T = c.args.manager.now.tables in
    let old = c.args.self.now.kept.tables.trees in
    let mid = c.put_owed.new.self.kept in
    let new = c.commit.new.self.tables.trees in
    let seen = c.in_ok-put_owed.ensures.seen (record { seen = k.settled.seen; committed = λ _. k.settled.kept }) in
    either (c.commit.ensures.crash seen.seen l.clean l.trees l.left)
    (λ has. inl
    (crash_has (image_of mid.mirror) T K (view new) (recovers new) (c.in_ok-put_owed.ensures.all k.order k.has) l
    has))
    (λ left. inr (record {
      image = l.image;
      trees = l.trees;
      clean = clean_before view g.S.Store.faults recovers g.S.Store.is_shielded old mid.tables.trees mid.tables.trees
          c.put_owed.ensures.quiet (c.commit.ensures.clean l.clean);
      left = c.put_owed.ensures.quiet.outcomes l.trees left;
      has = l.has;
      is = l.is;
    }))
