use Rattle.xa_base.proofs.{◌-◌, None, is_some, set, ◌∙◌, refl, arith, nat_cmp, length-set}
use Rattle.xa_desk.specs.{logged, IsBooks, ready_with}
use Rattle.xa_desk.proofs.Books.{books_rehandled, Rehandles, kept_place, KeptPlace, kept_handle, rehandles_release}
use Rattle.xa_desk.proofs.Books.{kept_of-remove, loose_from_handle}
use Rattle.xa_desk.proofs.KeyRows.{keys_kept, marks_set}
use Rattle.xa_desk.proofs.book.Book.release.Goals as goal
use Rattle.xa_desk.proofs.book.Book.release.Goals.{In_ok-operation, After-clear-2}

place : (c : In_ok-operation) → KeptPlace c.self.inside.kept.items c.args.number c.in_ok-operation.operation
place c =
    search
    (arith, kept_place, c.in_ok-operation.was, c.self.inside.kept.items, c.args.number, c.in_ok-operation.operation)

pub enter_handle-was_ready-requires-clause-there : goal.enter_handle-was_ready-requires-clause-there
enter_handle-was_ready-requires-clause-there c =
    let p = place ((goal.at.enter_handle-was_ready-requires-clause-there c).In_ok-operation) in
    let h = c.self.invariant.books.tabled (c.args.number - 1) c.in_ok-operation.operation p.there in
    record { key = h.key; slot = h.slot; found = h.found; names = h.names }

pub index_mut-requires : goal.index_mut-requires
index_mut-requires c = search (arith, place, c.self.inside.kept.ok.0)

books : (c : After-clear-2)
    → IsBooks c.self.inside.ledgers.items c.enter_handle-was_ready.new.slots
    (set c.self.inside.kept.items (c.args.number - 1) None) (logged c.self.inside.drained.items)
books c =
    let i = c.self.invariant in
    let e = c.enter_handle-was_ready.ensures.entered in
    let p = place ((goal.at.returns-clause-freed c).In_ok-operation) in
    let p' : KeptPlace c.self.inside.kept.items c.args.number e.slot.operation = rw e.names p in
    let handle =
    kept_handle c.self.inside.ledgers.items c.self.inside.slots e.key e.slot c.self.inside.kept.items
    (logged c.self.inside.drained.items) i.books e.found c.args.number p' in
    let moves : Rehandles c.self.inside.kept.items (set c.self.inside.kept.items (c.args.number - 1) None) e.slot.handle
    0 e.slot.operation =
    rw handle (rehandles_release c.self.inside.kept.items c.args.number e.slot.operation p') in
    books_rehandled c.self.inside.ledgers.items c.self.inside.slots c.enter_handle-was_ready.new.slots e.key e.slot 0
    c.self.inside.kept.items (set c.self.inside.kept.items (c.args.number - 1) None)
    (logged c.self.inside.drained.items) i.books e.found moves e.updates e.len

pub invariant_of-self : goal.invariant_of-self
invariant_of-self c =
    let i = c.self.invariant in
    let p = place ((goal.at.invariant_of-self c).In_ok-operation) in
    let e = c.enter_handle-was_ready.ensures.entered in
    record {
      books = books c;
      keys = keys_kept c.self.inside.ledgers.items c.self.inside.rows.items c.self.inside.slots
          c.enter_handle-was_ready.new.slots e.key e.slot _ i.keys e.found refl e.updates;
      slots_room = rw (e.len, e.capacity) i.slots_room;
      places = length-set c.self.inside.kept.items (c.args.number - 1) None ∙ i.places;
      drained = i.drained;
      planned = i.planned;
      limits = i.limits;
      ends = i.ends;
      kept_marks = marks_set is_some c.self.inside.kept_marks c.clear.new.self c.self.inside.kept.items
          (c.args.number - 1) None p.within i.kept_marks c.clear.ensures.cleared c.clear.ensures.others;
      ready_marks = marks_set (ready_with (logged c.self.inside.drained.items) 0) c.self.inside.ready_marks
          c.clear-2.new.self c.self.inside.kept.items (c.args.number - 1) None p.within i.ready_marks
          c.clear-2.ensures.cleared c.clear-2.ensures.others;
    }

pub returns-clause-freed : goal.returns-clause-freed
returns-clause-freed c = search (arith, place, nat_cmp, kept_of-remove, c.self.inside.kept.items, c.args.number)

pub returns-clause-loose : goal.returns-clause-loose
returns-clause-loose c = grind (arith, loose_from_handle, books)
