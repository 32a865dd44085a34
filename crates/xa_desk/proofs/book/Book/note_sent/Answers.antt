use Rattle.xa_base.proofs.{◌≡◌, ℕ, Some, ap, ◌∙◌, sym, refl, arith, length}
use Rattle.slab.specs.Slab.{Updates}
use Rattle.xa_desk.specs.{Operation, with_sent, IsKnown, ledger, after_sent, logged, KeysView, with_key, row_of_manager}
use Rattle.xa_desk.specs.{IsBooks, AreKeys, LedgerView}
use Rattle.xa_desk.proofs.Ledgers.{ledger-read, planned-put, length-put_ledger, sent_now_out}
use Rattle.xa_desk.proofs.Books.{loose_from_handle, books_sent, fresh_slot}
use Rattle.xa_desk.proofs.KeyRows.{entered, keys_sent, row-read}
use Rattle.xa_desk.proofs.book.Book.note_sent.Goals as goal
use Rattle.xa_desk.proofs.book.Book.note_sent.Goals.{After-enter}

abbrev operation_at : ℕ → ℕ → Operation
operation_at m n = record { manager = m; number = n }

pub enter-requires : goal.enter-requires
enter-requires c =
    let m = c.args.manager in
    let is_known = rw (← c.self.view_is) at c.requires.known in
    let room = rw (← c.self.view_is) at c.requires.room in
    let k = c.self.invariant.keys in
    let read =
    row-read c.self.inside.ledgers.items c.self.inside.rows.items m c.index_mut-row.result.now k.number is_known
    c.index_mut-row.ensures.value in
    record {
      room = rw read (omega (arith, room, k.sent m is_known, k.planned m is_known));
      key = omega (
        arith,
        c.insert_reserved-key.ensures.key_in_range,
        c.insert_reserved-key.ensures.capacity,
        c.self.invariant.slots_room.2,
      );
    }

known : (c : After-enter) → IsKnown c.self.inside.ledgers.items c.args.manager
known c = rw (← c.self.view_is) at c.requires.known

read : (c : After-enter) → c.index_mut-ledger.result.now ≡ ledger c.self.inside.ledgers.items c.args.manager
read c =
    ledger-read c.self.inside.ledgers.items c.args.manager c.index_mut-ledger.result.now (known c)
    c.index_mut-ledger.ensures.value

written : (c : After-enter)
    → c.push_sent.new.self ≡ with_sent (ledger c.self.inside.ledgers.items c.args.manager) c.args.op.now
written c = c.push_sent.ensures ∙ ap (λ (a : LedgerView). with_sent a c.args.op.now) (read c)

number : (c : After-enter)
    → c.next_number-number.result ≡ length (ledger c.self.inside.ledgers.items c.args.manager).sent
number c = c.next_number-number.ensures.sent ∙ ap (λ (a : LedgerView). length a.sent) (read c)

updates : (c : After-enter)
    → Updates c.self.inside.slots c.insert_reserved-key.new.self c.insert_reserved-key.result
    (Some
    (fresh_slot
    (operation_at c.args.manager (length (ledger c.self.inside.ledgers.items c.args.manager).sent))))
updates c = rw (number c) at c.insert_reserved-key.ensures.updates

books : (c : After-enter)
    → IsBooks (after_sent c.self.inside.ledgers.items c.args.manager c.args.op.now) c.insert_reserved-key.new.self
    c.self.inside.kept.items (logged c.self.inside.drained.items)
books c =
    let room = rw (← c.self.view_is) at c.requires.room in
    books_sent c.self.inside.ledgers.items c.args.manager c.args.op.now (known c) c.self.inside.slots
    c.insert_reserved-key.new.self c.insert_reserved-key.result c.self.inside.kept.items
    (logged c.self.inside.drained.items) c.self.invariant.books room c.insert_reserved-key.ensures.was_vacant
    (updates c) c.insert_reserved-key.ensures.len

entering : (c : After-enter)
    → c.enter.new.self ≡ with_key (row_of_manager c.self.inside.rows.items c.args.manager) c.insert_reserved-key.result
entering c =
    c.enter.ensures ∙ ap (λ (row : KeysView). with_key row c.insert_reserved-key.result)
    (row-read c.self.inside.ledgers.items c.self.inside.rows.items c.args.manager c.index_mut-row.result.now
    c.self.invariant.keys.number (known c) c.index_mut-row.ensures.value)

keys : (c : After-enter)
    → AreKeys (after_sent c.self.inside.ledgers.items c.args.manager c.args.op.now)
    (entered c.self.inside.rows.items c.args.manager c.insert_reserved-key.result) c.insert_reserved-key.new.self
keys c =
    let at = c.self.inside.ledgers.items in
    let m = c.args.manager in
    keys_sent at m c.args.op.now (known c) c.self.inside.rows.items c.self.inside.slots c.insert_reserved-key.new.self
    c.insert_reserved-key.result (fresh_slot (operation_at m (length (ledger at m).sent)))
    c.self.invariant.keys refl c.self.invariant.books.slot_out (updates c)

pub invariant_of-self : goal.invariant_of-self
invariant_of-self c =
    let d = (goal.at.invariant_of-self c).After-enter in
    let at = c.self.inside.ledgers.items in
    let m = c.args.manager in
    let i = c.self.invariant in
    let slot = rw (← c.self.view_is) at c.requires.slot in
    rw (written d, entering d) (record {
      books = books d;
      keys = keys d;
      slots_room = (
        omega (arith, slot, i.books.count, c.insert_reserved-key.ensures.len),
        rw
            c.insert_reserved-key.ensures.capacity i.slots_room.1,
        rw c.insert_reserved-key.ensures.capacity
            i.slots_room.2,
      );
      places = i.places;
      drained = i.drained;
      planned = rw (planned-put at m (with_sent (ledger at m) c.args.op.now) (known d) refl) i.planned;
      limits = rw (length-put_ledger at m (with_sent (ledger at m) c.args.op.now)) i.limits;
      ends = i.ends;
      kept_marks = i.kept_marks;
      ready_marks = i.ready_marks;
    })

pub returns-clause-out : goal.returns-clause-out
returns-clause-out c = search (arith, written, number, sent_now_out, known, books)

pub returns-clause-loose : goal.returns-clause-loose
returns-clause-loose c =
    let d = (goal.at.returns-clause-loose c).After-enter in
    let at = c.self.inside.ledgers.items in
    loose_from_handle (after_sent at c.args.manager c.args.op.now) c.insert_reserved-key.new.self
    c.insert_reserved-key.result (fresh_slot (operation_at c.args.manager (length (ledger at c.args.manager).sent)))
    c.self.inside.kept.items (logged c.self.inside.drained.items) (books d) (updates d).changed
    (operation_at c.args.manager c.next_number-number.result) (ap (operation_at c.args.manager) (sym (number d))) refl

pub returns-clause-more : goal.returns-clause-more
returns-clause-more c = search (arith, books, written, c.self.invariant.books.count, c.insert_reserved-key.ensures.len)
