use Rattle.xa_base.proofs.{◌≡◌, ◌<◌, Some, List, [], ◌∷◌, ◌++◌, length, length-append, set, refl, sym, ap, ◌∙◌, arith}
use Rattle.xa_base.proofs.{slice_get, length-set, slice_get-get_or, get_or_default}
use Rattle.xa_words.specs.{XidName}
use Rattle.xa_calls.specs.{AsksAndWaits, begun, filled, ended, stopped}
use Rattle.xa_calls.proofs.Recovered.{finds_more, passes_more, written_more}
use Rattle.xa_calls.proofs.Kept.{leaves_all, leaves_on}
use Rattle.xa_calls.proofs.recovering.look.Goals as goal
use Rattle.xa_calls.proofs.recovering.look.Goals.{in-Done, in-Nota}

pub loop-looked-init : goal.loop-looked-init
loop-looked-init g c = record {
  looks = ([], begun, refl, refl);
  many = refl;
  within = omega arith;
  leaves = leaves_all c.desks_go_on.ensures.same g.met.I.Idle.leads_start _ _;
  kept = λ all. all;
}

pub returns-then-found-room-clause-scanned : goal.returns-then-found-room-clause-scanned
returns-then-found-room-clause-scanned g c =
    let (found, looks, xids, many) = c.loop-looked.invariant.looks in
    (found, filled c.loop-looked.looked looks (sym many ∙ c.if-found-room.true), xids, many)

pub returns-in_default : goal.returns-in_default
returns-in_default g c =
    let i = c.loop-looked.invariant in
    let (found, looks, xids, many) = i.looks in
    let x : XidName = c.index-left-looked.result in
    let there : slice_get c.args.left.now c.loop-looked.looked ≡ Some x =
    search (arith, slice_get-get_or, c.args.left.now, c.loop-looked.looked) in
    let short : length found < c.args.room = omega (arith, many, i.within) in
    record {
      scanned = (
        found,
        stopped c.loop-looked.looked (c.loop-looked.desk, c.loop-looked.idle) x c.ask.result looks short there
            c.ask.ensures.asks
            c.in_default.not-Done c.in_default.not-Nota,
        xids,
        tt,
      );
      bound = tt;
      within = tt;
      leaves = leaves_on c.desks_go_on.ensures.further g.met.I.Idle.leads_chain i.leaves c.ask.ensures.leaves;
      kept = λ all. c.ask.ensures.kept (i.kept all);
    }

pub loop-looked-preserved : goal.loop-looked-preserved
loop-looked-preserved g c =
    let i = c.loop-looked.invariant in
    let (found, looks, xids, many) = i.looks in
    let left : List XidName = c.args.left.now in
    let k = c.loop-looked.looked in
    let x : XidName = c.index-left-looked.result in
    let there : slice_get left k ≡ Some x =
    slice_get-get_or left k x (omega arith) ∙ ap (λ y. Some y) (sym c.index-left-looked.is) in
    let less : length found < c.args.room = omega (arith, many, i.within) in
    let short : length found < length c.args.xids.now = omega (arith, less, c.requires) in
    let asking = AsksAndWaits g.I.Idle.leads_by c.args.manager in
    let leaves = leaves_on c.desks_go_on.ensures.further g.met.I.Idle.leads_chain i.leaves c.ask.ensures.leaves in
    elim c.match-ask.branch [
      | in-Done w ↦
          let y : XidName = w.index-left-looked-in-Done.result in
          let same : y ≡ x =
          w.index-left-looked-in-Done.is ∙ get_or_default left k y x (omega arith) ∙ sym c.index-left-looked.is in
          record {
            looks = (
              found ++ x ∷ [],
              finds_more asking c.args.room left _ (c.loop-looked.desk, c.loop-looked.idle) _ k found x _ looks less
                  there c.ask.ensures.asks w.in-Done.is,
              w.xids-is ∙ (λ j. set (xids j) (many j) (same j)) ∙ written_more found c.args.xids.now x short,
              omega (arith, w.found-is, many, length-append found (x ∷ [])),
            );
            many = ap (λ l. length l) w.xids-is ∙ length-set _ _ _ ∙ i.many;
            within = omega (arith, w.found-is, i.within);
            leaves = leaves;
            kept = λ all. c.ask.ensures.kept (i.kept all);
          }
      | in-Nota w ↦ record {
        looks = (
          found,
          passes_more asking c.args.room left _ (c.loop-looked.desk, c.loop-looked.idle) _ k found x _ looks less there
              c.ask.ensures.asks w.in-Nota.is,
          w.xids-is ∙ xids,
          w.found-is ∙ many,
        );
        many = ap (λ l. length l) w.xids-is ∙ i.many;
        within = let number = w.found-is in omega (arith, number, i.within);
        leaves = leaves;
        kept = λ all. c.ask.ensures.kept (i.kept all);
      }
    ]

pub returns-clause-scanned : goal.returns-clause-scanned
returns-clause-scanned g c =
    let (found, looks, xids, many) = c.loop-looked.invariant.looks in
    let all : c.loop-looked.looked ≡ length c.args.left.now = omega arith in (
      found,
      ended (rw all at looks),
      xids,
      many,
    )
