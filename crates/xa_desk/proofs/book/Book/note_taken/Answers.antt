use Rattle.xa_base.proofs.{◌≡◌, [], ◌∷◌, ◌++◌, None, refl, ap, ◌∙◌, arith, length-append, map-append}
use Rattle.xa_desk.specs.{Operation, operation_of, drained_code, other, logged}
use Rattle.xa_desk.proofs.Books.{books_drained}
use Rattle.xa_desk.proofs.Ledgers.{drained-lt-planned}
use Rattle.xa_desk.proofs.KeyRows.{ready_drained, keys_kept}
use Rattle.xa_desk.proofs.book.Book.note_taken.Goals as goal
use Rattle.xa_desk.proofs.book.Book.note_taken.Goals.{After-and-self-inside}

pub overflow_add-self : goal.overflow_add-self
overflow_add-self c =
    let e = c.in-Some.ensures.entered in
    omega (
      arith,
      drained-lt-planned e.key e.slot c.self.invariant.books e.found e.waiting,
      c.self.invariant.drained,
      c.self.invariant.planned,
    )

one_more : (c : After-and-self-inside)
    → logged c.and-self-inside.result.items ≡ logged c.self.inside.drained.items ++ c.args.completion ∷ []
one_more c =
    ap logged c.and-self-inside.ensures
    ∙ map-append (λ p. p.0) c.self.inside.drained.items ((c.args.completion, tt) ∷ [])

-- no completion was drained for the operation before
fresh : (c : After-and-self-inside)
    → drained_code (operation_of c.args.completion) (logged c.self.inside.drained.items) ≡ None
fresh c = grind arith

pub invariant_of-self : goal.invariant_of-self
invariant_of-self c =
    let i = c.self.invariant in
    let e = c.in-Some.ensures.entered in
    let d = (goal.at.invariant_of-self c).After-and-self-inside in
    let more = one_more d in
    record {
      books = rw more
          (books_drained c.self.inside.ledgers.items c.self.inside.slots c.enter_code.new.slots e.key e.slot
          c.self.inside.kept.items (logged c.self.inside.drained.items) c.args.completion i.books e.found e.waiting
          e.names e.updates e.len);
      keys = keys_kept c.self.inside.ledgers.items c.self.inside.rows.items c.self.inside.slots c.enter_code.new.slots
          e.key e.slot _ i.keys e.found refl e.updates;
      slots_room = rw (e.len, e.capacity) i.slots_room;
      places = i.places;
      drained = rw more
          (omega (arith, i.drained, length-append (logged c.self.inside.drained.items) (c.args.completion ∷ [])));
      planned = i.planned;
      limits = i.limits;
      ends = i.ends;
      kept_marks = i.kept_marks;
      ready_marks = rw more
          (ready_drained c.self.inside.ledgers.items c.self.inside.slots c.self.inside.kept.items
          (logged c.self.inside.drained.items) c.args.completion c.in-Some.number c.self.inside.ready_marks
          c.mark_number.new.self i.books c.in-Some.ensures.number (fresh d) i.ready_marks
          c.mark_number.ensures.marked c.mark_number.ensures.others);
    }

pub returns-in-Some : goal.returns-in-Some
returns-in-Some c =
    let e = c.in-Some.ensures.entered in
    let d = (goal.at.returns-in-Some c).After-and-self-inside in
    search
    (arith, fresh, one_more, c.self.inside.ledgers.items, e.names, c.self.invariant.books.slot_out, e.key, e.slot)

pub returns-in_default : goal.returns-in_default
returns-in_default c =
    rw (← c.self.view_is) (other (λ out none.
    let h = c.self.invariant.books.out_slot (operation_of c.args.completion) out in
    c.in_default.ensures.known h.key h.slot h.found h.names
    (c.self.invariant.books.coded h.key h.slot h.found
    ∙ ap (λ (o : Operation). drained_code o (logged c.self.inside.drained.items)) h.names ∙ none)) refl)
