use Rattle.xa_base.proofs.{length, ap, arith, length-append, ◌∙◌, take_all}
use Rattle.xa_work.specs.{requests_at}
use Rattle.xa_work.proofs.Making.{first_requests, puts_append, puts_length, puts_none, requests_left, leaves_none}
use Rattle.xa_work.proofs.Making.{leaves_on}
use Rattle.xa_work.proofs.in_flight.work_in_flight.Goals as goal

pub loop-branch-init : goal.loop-branch-init
loop-branch-init g c =
    record {
      leaves = leaves_none c.idles_go_on.ensures.same _ _;
      puts = rw c.requires.none (puts_none c.args.desk.now);
      room = omega (arith, ap length c.requires.none, c.requires.room);
    }

pub loop-branch-preserved : goal.loop-branch-preserved
loop-branch-preserved g c =
    let cs = c.args.changes.now in
    let b = c.branch-item.result in
    let so_far = c.loop-branch.invariant in
    let (more, grown, puts) = c.put_branch.ensures.puts in
    let items = ap length grown ∙ length-append c.loop-branch.flights.items more in
    let many = puts_length (requests_at cs b) more _ _ puts in
    let left =
    requests_left cs c.args.branches.now c.loop-branch.branch-index b c.loop-branch-test.true c.branch-item.is in
    record {
      leaves = leaves_on c.idles_go_on.ensures.further so_far.leaves c.put_branch.ensures.goes_on
          c.put_branch.ensures.kept c.put_branch.ensures.idled;
      puts =
          rw (
            first_requests cs c.args.branches.now c.loop-branch.branch-index b c.loop-branch-test.true
                c.branch-item.is,
            grown,
          )
          (puts_append _ (requests_at cs b) c.loop-branch.flights.items more _ _ _ so_far.puts puts);
      room = omega (arith, items, many, left, so_far.room, c.put_branch.ensures.room);
    }

pub returns-clause-tries : goal.returns-clause-tries
returns-clause-tries g c =
    let cs = c.args.changes.now in
    record {
      begun = c.loop-branch.desk;
      flights = c.loop-branch.flights.items;
      puts = search (
        arith,
        take_all,
        c.loop-branch.flights.items,
        c.args.desk.now,
        c.loop-branch.branch-index,
        c.args.branches.now,
      );
      collects = rw c.deref.ensures.value at c.collect_all.ensures.collects;
    }
