use Rattle.xa_base.proofs.{arith, false, ap, ◌∙◌, get-empty}
use Rattle.std.specs.FinMap as finmap
use Rattle.xa_words.specs.{xid_cmp}
use Rattle.xa_tables.specs.{is_S3}
use Rattle.xa_tables.proofs.branch_tables.BranchTables.new.Goals as goal

pub invariant_of-result : goal.invariant_of-result
invariant_of-result c x prepared =
    let none = ap (λ m. is_S3 (finmap.get m x)) c.in_ok-new-2.ensures.empty ∙ ap is_S3 (get-empty xid_cmp x) in cc

pub returns : goal.returns
returns c = record {
  tables = λ i. record {
    opened = c.in_ok-new.ensures.nobody i;
    associations = c.in_ok-new.ensures.free i;
    states = c.in_ok-new-2.ensures.empty i;
    sums = c.in_ok-new-3.ensures.0 i;
    values = c.in_ok-new-3.ensures.1 i;
    shut = false;
  };
  threads = c.in_ok-new.ensures.count;
  room = c.in_ok-new-2.ensures.room;
  adds = omega (arith, c.in_ok-new-3.ensures.2);
}
