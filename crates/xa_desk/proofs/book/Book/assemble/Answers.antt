use Rattle.xa_base.proofs.{None, is_some, refl, length, replicate, sym, ◌∙◌, ap, arith, length-replicate}
use Rattle.std.proofs.lemmas.Nat.{mul-le}
use Rattle.xa_base.specs.{MOST_MANAGERS, MOST_REQUESTS}
use Rattle.xa_desk.specs.{carried, no_keys, logged, ready_with}
use Rattle.xa_desk.proofs.KeyRows.{books_from, keys_from, planned_from, length-carried, begun-new, marks_none}
use Rattle.xa_desk.proofs.book.Book.assemble.Goals as goal

pub invariant_of-result : goal.invariant_of-result
invariant_of-result c =
    let i = c.parts.invariant in
    let p = c.parts.inside in
    let at = p.ledgers.items in
    record {
      books = books_from p.plan at (carried at) i.ledgers p.slots i.slots p.handles p.kept.items
          (logged c.new-2.result.items) i.kept (ap logged c.new-2.ensures);
      keys = keys_from p.plan at (carried at) i.ledgers p.slots i.slots p.rows.items
          (i.rows ∙ ap (λ n. replicate n (no_keys p.plan)) (sym (length-carried at)));
      slots_room = (rw i.slots (omega arith), i.slots_room.0, i.slots_room.1);
      places = ap length i.kept ∙ length-replicate p.handles None;
      drained = rw c.new-2.ensures;
      planned = rw (planned_from p.plan at (carried at) i.ledgers p.slots i.slots, length-carried at)
          (mul-le p.plan (length at) MOST_REQUESTS MOST_MANAGERS i.planned i.limits.managers.1);
      limits = i.limits;
      ends = (i.ends, i.ends_room);
      kept_marks = marks_none is_some c.none.result p.handles p.kept.items refl c.none.ensures i.kept;
      ready_marks = marks_none (ready_with (logged c.new-2.result.items) 0) c.none-2.result p.handles p.kept.items refl
          c.none-2.ensures i.kept;
    }

pub returns : goal.returns
returns c =
    let i = c.parts.invariant in
    let p = c.parts.inside in
    rw (← c.parts.view_is)
    (begun-new p.thread p.handles p.plan p.ledgers.items (logged c.new.result.items) p.kept.items
    (logged c.new-2.result.items) c.args.requests.items c.args.completions i.ledgers (ap logged c.new.ensures)
    i.kept (ap logged c.new-2.ensures))
