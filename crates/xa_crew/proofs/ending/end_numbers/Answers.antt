use Rattle.xa_base.proofs.{◌+◌, refl, arith, inl, inr, ◌∙◌, range_with_len, cases_eq, range_more}
use Rattle.xa_base.specs.Lists.Chain.{none, more}
use Rattle.xa_crew.specs.{DeskWithCodes}
use Rattle.xa_crew.proofs.Pieces.{number_freed, number_leaves}
use Rattle.xa_crew.proofs.ending.end_numbers.Goals as goal

pub loop-before-init : goal.loop-before-init
loop-before-init g c = record {
  ends = none (range_with_len 1 0) (c.args.desk.now, c.args.told.now.items) refl refl;
  none = search (arith, c.args.desk.now.kept, c.handles-before-end.ensures.past);
  goes_on = c.desks_go_on.ensures.same _;
  idled = g.met.I.Idle.leads_start _;
  few = omega arith;
  room = refl;
}

pub loop-before-preserved : goal.loop-before-preserved
loop-before-preserved g c =
    let i = c.loop-before.invariant in
    let n = c.loop-before.before in
    let old : DeskWithCodes = (c.loop-before.desk, c.loop-before.told.items) in
    let new : DeskWithCodes = (c.end_number.new.desk, c.end_number.new.told.items) in
    let one = c.end_number.ensures in
    record {
      ends = rw (range_more n) (more (range_with_len 1 n) (n + 1) old new i.ends one.ends);
      none = λ k which. elim (cases_eq k (n + 1)) [
        | inl same ↦ rw same (number_freed (n + 1) old new one.ends)
        | inr differs ↦ number_leaves (n + 1) old new one.ends k (i.none k (elim which [
          | inl first ↦ inl (omega (arith, first, differs))
          | inr past ↦ inr past
        ]))
      ];
      goes_on = c.desks_go_on.ensures.further _ _ _ i.goes_on one.goes_on;
      idled = g.met.I.Idle.leads_chain _ _ _ i.idled one.idled;
      few = let few = i.few in let more_few = one.few in omega (arith, few, more_few);
      room = one.room ∙ i.room;
    }
