use Rattle.std.specs.Prelude.{IsTrue}
use Rattle.xa_base.proofs.{◌≡◌, true, false, List, Vec, ◌++◌, append_assoc, sym, ap, ◌∙◌, rules, arith, refl, Global}
use Rattle.xa_base.proofs.{into_iter_items, into_iter_len, common_steps}
use Rattle.demo_bank_days.specs.{Errands, early, whole, at_day, at_once}
use Rattle.demo_bank_days.proofs.Moved.{closed_day, one_day_more}
use Rattle.demo_bank_days.proofs.Went.{all_taken, one_fewer}
use Rattle.demo_bank_days.proofs.days.close_days.Goals as goal

pub loop-errands-preserved : goal.loop-errands-preserved
loop-errands-preserved g c =
    let i = c.loop-errands.invariant in
    let state = g.L.DecisionLog.state in
    let knows = g.L.DecisionRecords.knows in
    let loses = g.L.DecisionLog.loses in
    let reopens = g.L.ReopenLog.reopens in
    let yes : IsTrue c.is_over-over.result = search rules in
    let over = c.is_over-over.ensures.0 yes in
    let closed = c.in-Ok-close_day.ensures.closed in
    record {
      so_far = search (arith, append_assoc, c.loop-errands.yielded);
      closed =
          rw c.push_reserved.ensures.items
          (one_day_more state knows loses reopens c.args.bank c.loop-errands.yielded c.loop-errands.closed.items
          c.loop-errands.bank c.in-Some.errands c.in-Ok-close_day.day c.in-Ok-close_day.after i.closed
          (closed_day state knows loses reopens c.loop-errands.bank c.in-Some.errands.items
          c.in-Ok-close_day.day c.in-Ok-close_day.after closed over));
      as_many = grind (arith, common_steps);
      all_counted = one_fewer (into_iter_len c.loop-errands.errands-iterator) _ _ _ c.in-Some.errands
          c.in-Some.ensures.steps.0 c.in-Some.ensures.steps.1 i.all_counted;
      room = search rules;
    }

pub returns-then-not-over-clause-ended : goal.returns-then-not-over-clause-ended
returns-then-not-over-clause-ended g c =
    let i = c.loop-errands.invariant in
    early c.loop-errands.yielded c.in-Some.errands (into_iter_items c.next.new.self) c.loop-errands.closed.items
    c.in-Ok-close_day.day c.loop-errands.bank
    (sym i.so_far ∙ ap (λ (l : List (Vec Errands Global)). c.loop-errands.yielded ++ l) c.in-Some.ensures.steps.0)
    c.push_reserved.ensures.items i.closed
    c.in-Ok-close_day.ensures.worked
    (λ over. let yes : c.is_over-over.result ≡ true = c.is_over-over.ensures.1 over in let
    no : c.is_over-over.result ≡ false = c.if-not-over.true in cc)

pub returns-in-Err-clause-stopped : goal.returns-in-Err-clause-stopped
returns-in-Err-clause-stopped g c =
    let i = c.loop-errands.invariant in
    at_day c.loop-errands.yielded c.in-Some.errands (into_iter_items c.next.new.self) c.loop-errands.bank
    (sym i.so_far ∙ ap (λ (l : List (Vec Errands Global)). c.loop-errands.yielded ++ l) c.in-Some.ensures.steps.0)
    i.closed c.in-Err.ensures.stopped

pub returns-clause-ended : goal.returns-clause-ended
returns-clause-ended g c =
    let i = c.loop-errands.invariant in
    let all =
    all_taken c.loop-errands.yielded (into_iter_items c.loop-errands.errands-iterator) c.args.days.items
    (into_iter_len c.loop-errands.errands-iterator) i.so_far i.all_counted
    c.in-None.ensures.steps.0 in
    whole (rw all at i.closed)

pub returns-in_default-clause-stopped : goal.returns-in_default-clause-stopped
returns-in_default-clause-stopped g c = at_once c.new-closed.ensures.items refl
