use Rattle.xa_base.proofs.{List, length, vec_capacity, Vec, [], ◌∷◌, arith, ap, length-append, subst, take, ◌∙◌, Global}
use Rattle.xa_base.proofs.{sym}
use Rattle.xa_words.specs.{Add, End, Start, Success, Fresh}
use Rattle.xa_work.specs.{Flight, PutsRequests}
use Rattle.xa_work.proofs.Making.{adds_none, adds_one, at_of, begun_all, begun_elsewhere, begun_here, begun_of}
use Rattle.xa_work.proofs.Making.{left_elsewhere, left_here, steps_are, leaves_on, Adds}
use Rattle.xa_work.proofs.in_flight.put_branch.Goals as goal
use Rattle.xa_work.proofs.in_flight.put_branch.Goals.{then-change-branch, else-change-branch}

pub loop-change-init : goal.loop-change-init
loop-change-init g c =
    let b = c.args.branch.now in
    let grown = ap length c.push_reserved.ensures.items ∙ length-append c.args.flights.now.items (c.put.result ∷ []) in
    record {
      leaves = record { goes_on = c.put.ensures.goes_on; kept = c.put.ensures.kept; idled = c.put.ensures.idled };
      puts =
          adds_one b.m [] (Start b.xid Fresh) c.put.result _ _ _ _ _ _
          (adds_none c.args.flights.now.items c.args.desk.now) c.put.ensures.manager c.put.ensures.puts
          c.push_reserved.ensures.items;
      room = c.push_reserved.ensures.capacity;
      left = omega (arith, c.push_reserved.ensures.capacity, grown, steps_are c.args.changes.now b, c.requires);
    }

pub loop-change-preserved : goal.loop-change-preserved
loop-change-preserved g c =
    let b = c.args.branch.now in
    let cs = c.args.changes.now in
    let i = c.loop-change.change-index in
    let x = c.change-item.result in
    let old = c.args.desk.now in
    let first : List Flight = c.args.flights.now.items in
    let so_far = c.loop-change.invariant in
    let below = c.loop-change-test.true in
    let fits = so_far.left in
    elim c.if-change-branch.branch [
      | then-change-branch w ↦
          let one = w.put-then-change-branch in
          let grown =
          ap length w.push_reserved-then-change-branch.ensures.items
          ∙ length-append c.loop-change.flights.items (one.result ∷ []) in
          let rest = left_here cs i x b.m below c.change-item.is w.if-change-branch.true in
          record {
            leaves = rw (w.desk-is, w.idle-is)
                (leaves_on c.idles_go_on.ensures.further so_far.leaves one.ensures.goes_on one.ensures.kept
                one.ensures.idled);
            puts =
                rw w.desk-is
                (subst (λ os. Adds (at_of b.m os) first c.if-change-branch.flights.items old one.new.desk)
                (sym (begun_here cs i x b below c.change-item.is w.if-change-branch.true))
                (adds_one b.m (begun_of (take i cs) b) (Add x.key x.delta) one.result _ _ _ _ _ _ so_far.puts
                one.ensures.manager one.ensures.puts
                (ap (λ (v : Vec Flight Global). v.items) w.flights-is
                ∙ w.push_reserved-then-change-branch.ensures.items)));
            room = ap vec_capacity w.flights-is ∙ w.push_reserved-then-change-branch.ensures.capacity ∙ so_far.room;
            left = search (arith, vec_capacity);
          }
      | else-change-branch w ↦
          let rest = left_elsewhere cs i x b.m below c.change-item.is w.if-change-branch.false in
          record {
            leaves = rw (w.desk-is, w.idle-is) so_far.leaves;
            puts = search (
              arith,
              at_of,
              begun_of,
              begun_elsewhere,
              b.m,
              c.if-change-branch.flights.items,
              c.loop-change.flights.items,
              c.change-item.is,
            );
            room = ap vec_capacity w.flights-is ∙ so_far.room;
            left = search (arith, vec_capacity);
          }
    ]

pub returns-clause-puts : goal.returns-clause-puts
returns-clause-puts g c =
    let b = c.args.branch.now in
    let cs = c.args.changes.now in
    let all =
    adds_one b.m (begun_of (take c.loop-change.change-index cs) b) (End b.xid Success) c.put-2.result _ _ _ _ _ _
    c.loop-change.invariant.puts c.put-2.ensures.manager c.put-2.ensures.puts c.push_reserved-2.ensures.items in (
      all.more,
      all.grown,
      subst (λ os. PutsRequests (at_of b.m os) all.more c.args.desk.now c.put-2.new.desk)
          (begun_all cs _ b c.loop-change-test.false) all.puts,
    )
