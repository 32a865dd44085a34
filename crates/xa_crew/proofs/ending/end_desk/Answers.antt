use Rattle.xa_base.proofs.{range_with_len}
use Rattle.xa_crew.proofs.Pieces.{numbers_keep}
use Rattle.xa_crew.proofs.ending.end_desk.Goals as goal

pub finish-requires-clause-kept : goal.finish-requires-clause-kept
finish-requires-clause-kept g c =
    numbers_keep c.outstanding_operations_stay_kept.ensures.collected (c.args.desk, c.args.told.now.items)
    (range_with_len 1 c.args.desk.handles) (c.end_numbers.new.desk, c.end_numbers.new.told.items)
    c.end_numbers.ensures.ends c.requires.kept

pub returns-clause-ends : goal.returns-clause-ends
returns-clause-ends g c = record {
  emptied = c.end_numbers.new.desk;
  collects = c.end_numbers.ensures.ends;
  none = c.end_numbers.ensures.none;
  goes_on = c.end_numbers.ensures.goes_on;
  ends = c.finish.ensures.ended;
}

pub returns-clause-idled : goal.returns-clause-idled
returns-clause-idled g c = g.met.I.Idle.leads_chain _ _ _ c.end_numbers.ensures.idled c.finish.ensures.idled
