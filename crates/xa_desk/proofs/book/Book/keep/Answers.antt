use Rattle.xa_base.proofs.{◌≡◌, ◌<◌, ℕ, suc, ◌+◌, false, Some, None, is_some, get_or, set, sym, ◌∙◌, refl, ap, arith}
use Rattle.xa_base.proofs.{length, or-false, nat_cmp, length-set, is_missing, IsSome}
use Rattle.slab.specs.Slab.{get}
use Rattle.xa_desk.specs.{Slot, ready_with, is_marked, HasSlot, logged}
use Rattle.xa_desk.proofs.Books.{books_rehandled, Rehandles, loose_handle, rehandles_keep, kept_of-insert, least_free}
use Rattle.xa_desk.proofs.KeyRows.{keys_kept, kept_past, clear_within, marks_set}
use Rattle.xa_desk.proofs.Ledgers.{free_place}
use Rattle.xa_desk.proofs.book.Book.keep.Goals as goal
use Rattle.xa_desk.proofs.book.Book.keep.Goals.{After-first_clear-place}

taken : (c : After-first_clear-place) (k : ℕ) → k < c.first_clear-place.result
    → IsSome (get_or c.self.inside.kept.items k None)
taken c k below = sym (c.self.invariant.kept_marks k) ∙ c.first_clear-place.ensures.marked k below

has : (c : After-first_clear-place) → HasSlot c.self.inside.slots c.args.operation
has c = c.self.invariant.books.out_slot c.args.operation (rw (← c.self.view_is) at c.requires.out)

unkept : (c : After-first_clear-place) (key : ℕ) (slot : Slot) → get c.self.inside.slots key ≡ Some slot
    → slot.operation ≡ c.args.operation → slot.handle ≡ 0
unkept c key slot found names =
    loose_handle c.self.inside.ledgers.items c.self.inside.slots key slot c.self.inside.kept.items
    (logged c.self.inside.drained.items) c.self.invariant.books found c.args.operation names
    (rw (← c.self.view_is) at c.requires.loose)

within : (c : After-first_clear-place) → c.first_clear-place.result < length c.self.inside.kept.items
within c = grind (arith, has, clear_within, free_place, unkept, taken)

free : (c : After-first_clear-place) → get_or c.self.inside.kept.items c.first_clear-place.result None ≡ None
free c = grind (arith, is_missing)

-- there are at most 32 places
few : (c : After-first_clear-place) → c.first_clear-place.result < 32
few c = grind (arith, within)

pub first_clear-place-requires : goal.first_clear-place-requires
first_clear-place-requires c =
    kept_past c.self.inside.kept_marks c.self.inside.kept.items 63 c.self.invariant.kept_marks
    (omega (arith, c.self.invariant.places, c.self.invariant.limits.handles.1))

pub index_mut-requires : goal.index_mut-requires
index_mut-requires c = search (arith, within, c.self.inside.kept.ok.0)

pub overflow_add-handle : goal.overflow_add-handle
overflow_add-handle c = let below = few ((goal.at.overflow_add-handle c).After-first_clear-place) in omega arith

pub mark-requires : goal.mark-requires
mark-requires c = let below = few ((goal.at.mark-requires c).After-first_clear-place) in omega arith

pub mark_if-requires : goal.mark_if-requires
mark_if-requires c = let below = few ((goal.at.mark_if-requires c).After-first_clear-place) in omega arith

pub enter_handle-is_ready-requires-clause-there : goal.enter_handle-is_ready-requires-clause-there
enter_handle-is_ready-requires-clause-there c =
    has ((goal.at.enter_handle-is_ready-requires-clause-there c).After-first_clear-place)

pub invariant_of-self : goal.invariant_of-self
invariant_of-self c =
    let i = c.self.invariant in
    let d = (goal.at.invariant_of-self c).After-first_clear-place in
    let e = c.enter_handle-is_ready.ensures.entered in
    let place = c.first_clear-place.result in
    let old = c.self.inside.kept.items in
    let next : place + 1 ≡ suc place = omega arith in
    let moves : Rehandles old (set old place (Some c.args.operation)) e.slot.handle (place + 1) e.slot.operation =
    rw (unkept d e.key e.slot e.found e.names, next, e.names)
    (rehandles_keep old place c.args.operation (within d) (free d)) in
    let drained = logged c.self.inside.drained.items in
    -- the operation is ready where its slot has a code
    let code : c.enter_handle-is_ready.result ≡ ready_with drained 0 (Some c.args.operation) =
    search (arith, is_some) in
    let none : is_marked c.self.inside.ready_marks place ≡ false =
    i.ready_marks place ∙ ap (ready_with drained 0) (free d) in
    let marked : is_marked c.mark_if.new.self place ≡ ready_with drained 0 (Some c.args.operation) =
    search (arith, or-false) in
    record {
      books = books_rehandled c.self.inside.ledgers.items c.self.inside.slots c.enter_handle-is_ready.new.slots e.key
          e.slot (place + 1) old (set old place (Some c.args.operation)) (logged c.self.inside.drained.items) i.books
          e.found moves e.updates e.len;
      keys = keys_kept c.self.inside.ledgers.items c.self.inside.rows.items c.self.inside.slots
          c.enter_handle-is_ready.new.slots e.key e.slot _ i.keys e.found refl e.updates;
      slots_room = rw (e.len, e.capacity) i.slots_room;
      places = length-set old place (Some c.args.operation) ∙ i.places;
      drained = i.drained;
      planned = i.planned;
      limits = i.limits;
      ends = i.ends;
      kept_marks = marks_set is_some c.self.inside.kept_marks c.mark.new.self old place (Some c.args.operation)
          (within d) i.kept_marks c.mark.ensures.marked c.mark.ensures.others;
      ready_marks = marks_set (ready_with drained 0) c.self.inside.ready_marks c.mark_if.new.self old place
          (Some c.args.operation) (within d) i.ready_marks marked c.mark_if.ensures.others;
    }

pub returns-clause-least : goal.returns-clause-least
returns-clause-least c =
    let d = (goal.at.returns-clause-least c).After-first_clear-place in
    rw (← c.self.view_is) (least_free c.self.inside.kept.items c.first_clear-place.result (free d) (taken d))

pub returns-clause-kept : goal.returns-clause-kept
returns-clause-kept c =
    search (arith, nat_cmp, kept_of-insert, within, c.self.inside.kept.items, c.first_clear-place.result)

pub returns-clause-handle : goal.returns-clause-handle
returns-clause-handle c =
    search (arith, within, c.self.invariant, c.self.invariant.places, c.self.invariant.limits.handles)
