use Rattle.xa_base.proofs.{◌≡◌, ◌+◌, [], ◌∷◌, ◌++◌, take, arith, eq-eqb, ne_eqb, one_more}
use Rattle.xa_worker.specs.{Entry}
use Rattle.test_replay.proofs.Entries.{number_more, number_other}
use Rattle.test_replay.proofs.is_in_order.Goals as goal
use Rattle.test_replay.proofs.is_in_order.Goals.{then-entry-thread+else-entry-next, else-entry-thread}

pub loop-entry-preserved : goal.loop-entry-preserved
loop-entry-preserved c =
    let journal = c.args.journal.now in
    let n = c.loop-entry.entry-index in
    let few = c.loop-entry.invariant.few in
    let numbers = c.loop-entry.invariant.numbers in
    let e : Entry = c.entry-item.result in
    let more : take (n + 1) journal ≡ take n journal ++ e ∷ [] =
    one_more journal n e c.loop-entry-test.true c.entry-item.is in
    elim c.if-entry-thread.branch [
      | then-entry-thread+else-entry-next w ↦ record {
        few = omega (arith, few, w.next-is);
        numbers = rw w.next-is
            (number_more c.args.thread c.loop-entry.next (take n journal) (take (n + 1) journal) e more
            (eq-eqb e.0.thread c.args.thread w.if-entry-thread.true) w.if-entry-next.false numbers);
      }
      | else-entry-thread w ↦ record {
        few = omega (arith, few, w.next-is);
        numbers = rw w.next-is
            (number_other c.args.thread c.loop-entry.next (take n journal) (take (n + 1) journal) e more
            (ne_eqb e.0.thread c.args.thread w.if-entry-thread.false) numbers);
      }
    ]
