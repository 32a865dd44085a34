use Rattle.xa_base.proofs.{[], ◌∷◌, length, length-append, ap, arith, All-push}
use Rattle.xa_crew.specs.{CanTell}
use Rattle.xa_crew.proofs.opened.reserve_outstanding.Goals as goal

pub loop-preserved : goal.loop-preserved
loop-preserved c =
    let i = c.loop.invariant in
    let before = c.loop.outstanding.items in
    let one = c.in_ok-with_capacity.field-0 in
    let pushed = c.in_ok-push.ensures.items in
    record {
      many = (let many = i.many in let longer = ap length pushed in omega
          (arith, many, longer, length-append before (one ∷ [])));
      tell = rw pushed
          (All-push CanTell before one i.tell
          (record { none = c.in_ok-with_capacity.ensures.items; room = c.in_ok-with_capacity.ensures.capacity }));
    }
