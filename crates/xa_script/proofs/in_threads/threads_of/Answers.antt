use Rattle.xa_base.proofs.{◌+◌, refl, arith, range_with_len, none_side, push_side, range_more}
use Rattle.xa_script.specs.{IsNewThread}
use Rattle.xa_script.proofs.in_threads.threads_of.Goals as goal

pub loop-before-init : goal.loop-before-init
loop-before-init c =
    record { new = none_side (IsNewThread c.args.script.now) (range_with_len 1 0) _ refl c.in_ok-threads.ensures.items }

pub loop-before-preserved : goal.loop-before-preserved
loop-before-preserved c =
    let new = IsNewThread c.args.script.now in
    let n = c.loop-before.before in
    let threads = c.loop-before.threads.items in
    let one = c.in_ok-new.field-0 in
    record {
      new = rw (c.in_ok-push.ensures.items, range_more n)
          (push_side new (range_with_len 1 n) threads (n + 1) one c.loop-before.invariant.new c.in_ok-new.ensures);
    }

pub returns : goal.returns
returns c = search (arith, range_with_len, c.threads-before-end.ensures.threads)
