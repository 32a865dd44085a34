use Rattle.xa_base.proofs.{rules, [], ◌∷◌, length, length-append, ap, ◌∙◌, arith, All-push}
use Rattle.xa_switch.specs.{IsScanOf}
use Rattle.xa_switch.proofs.opening.scans.scans_of.Goals as goal

pub loop-preserved : goal.loop-preserved
loop-preserved c =
    let s = c.args.settled.now in
    let shared = c.in_ok-try_clone.ensures ∙ c.in_ok-left.ensures.ok in
    let is : IsScanOf s c.over.result = search (arith, rules) in
    let grown = ap (λ l. length l) c.push_reserved.ensures.items in
    record {
      counted = omega (arith, c.loop.invariant.counted, grown, length-append c.loop.scans.items (c.over.result ∷ []));
      room = c.push_reserved.ensures.capacity ∙ c.loop.invariant.room;
      each = rw c.push_reserved.ensures.items
          (All-push (IsScanOf s) c.loop.scans.items c.over.result c.loop.invariant.each is);
    }
