use Rattle.xa_base.proofs.{◌≡◌, ◌≢◌, ◌++◌, List, [], ◌∷◌, length, map, append-nil, append_assoc, refl, sym, ap, ◌∙◌}
use Rattle.xa_base.proofs.{arith, eqb-false, length-map, take_all, one_more}
use Rattle.std.proofs.lemmas.List.{map_push}
use Rattle.xa_base.specs.Lists.Chain.{none, more}
use Rattle.xa_words.specs.{XidName}
use Rattle.xa_desk.specs.{ledger}
use Rattle.xa_driver.specs.{Outcome, AsksLedger}
use Rattle.xa_calls.specs.{AsksAndWaits}
use Rattle.xa_driver.proofs.EachLeft.{alone_start, alone_chain, requests_there, resolves_there}
use Rattle.xa_driver.proofs.resolving.resolve_at.Goals as goal

pub loop-xid-init : goal.loop-xid-init
loop-xid-init g c =
    let a = ledger c.ask.new.desk.ledgers c.args.manager in
    let some : length c.args.left.now ≢ 0 =
    eqb-false (length c.args.left.now) 0 (sym c.is_empty.ensures ∙ c.if-is_empty.false) in
    let requests = requests_there c.args.left.now some in
    record {
      more = (
        [],
        sym (append-nil c.args.outcomes.now.items),
        refl,
        none [] a refl refl,
        none []
            (c.ask.new.desk, c.ask.new.idle) refl refl,
      );
      room = omega (arith, c.requires.room, requests, c.ask.ensures.room);
      space = refl;
      alone = alone_start c.args.manager c.ask.new.desk;
      idled = g.met.I.Idle.leads_start _;
    }

pub loop-xid-preserved : goal.loop-xid-preserved
loop-xid-preserved g c =
    let i = c.loop-xid.invariant in
    let o : Outcome = c.resolve_branch-outcome.result in
    let (before, items, xids, chain, waits) = i.more in
    record {
      more = (
        before ++ o ∷ [],
        c.push_reserved.ensures.items ∙ ap (λ l. l ++ o ∷ []) items
            ∙ append_assoc c.args.outcomes.now.items before (o ∷ []),
        map_push (λ (p : Outcome). p.xid) before o ∙ (λ j. xids j ++ c.resolve_branch-outcome.ensures.xid j ∷ [])
            ∙ sym (one_more c.args.left.now c.loop-xid.xid-index c.xid-item.result c.loop-xid-test.true c.xid-item.is),
        more before o (ledger c.loop-xid.desk.ledgers c.args.manager) _ chain c.resolve_branch-outcome.ensures.resolves,
        more before o (c.loop-xid.desk, c.loop-xid.idle) _ waits c.resolve_branch-outcome.ensures.waits,
      );
      room = omega (arith, i.room, c.resolve_branch-outcome.ensures.room, c.loop-xid-test.true);
      space = c.push_reserved.ensures.capacity ∙ i.space;
      alone = alone_chain c.args.manager c.ask.new.desk c.loop-xid.desk c.resolve_branch-outcome.new.desk i.alone
          c.resolve_branch-outcome.ensures.alone;
      idled = g.met.I.Idle.leads_chain _ _ _ i.idled c.resolve_branch-outcome.ensures.idled;
    }

pub returns-clause-resolves : goal.returns-clause-resolves
returns-clause-resolves g c =
    let left : List XidName = c.args.left.now in
    let (os, items, xids, chain, waits) = c.loop-xid.invariant.more in
    let all : map (λ (o : Outcome). o.xid) os ≡ left =
    xids ∙ take_all c.loop-xid.xid-index left (omega (arith, c.loop-xid-test.false)) in
    let some : length left ≢ 0 = eqb-false (length left) 0 (sym c.is_empty.ensures ∙ c.if-is_empty.false) in (
      os,
      items,
      sym (length-map os (λ o. o.xid)) ∙ ap (λ l. length l) all,
      resolves_there AsksLedger _ c.args.manager left os _ _ some (record {
        opened = ledger c.ask.new.desk.ledgers c.args.manager;
        code = c.ask.result;
        opens = c.ask.ensures.asked;
        each = chain;
        xids_are = all;
      }),
      resolves_there (AsksAndWaits g.I.Idle.leads_by c.args.manager) _ c.args.manager left os _ _ some (record {
        opened = (c.ask.new.desk, c.ask.new.idle);
        code = c.ask.result;
        opens = c.ask.ensures.waits;
        each = waits;
        xids_are = all;
      }),
    )

pub returns-clause-alone : goal.returns-clause-alone
returns-clause-alone g c =
    alone_chain c.args.manager c.args.desk.now c.ask.new.desk c.loop-xid.desk c.ask.ensures.alone
    c.loop-xid.invariant.alone
