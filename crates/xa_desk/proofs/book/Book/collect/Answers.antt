use Rattle.xa_base.proofs.{◌≡◌, refl, arith}
use Rattle.xa_desk.specs.{with_collected, IsOut, ledger, after_collected, logged, IsBooks}
use Rattle.xa_desk.proofs.Ledgers.{ledger-read, room_collected, planned-put, length-put_ledger}
use Rattle.xa_desk.proofs.Books.{books_collected, loose_handle}
use Rattle.xa_desk.proofs.KeyRows.{keys_collected}
use Rattle.xa_desk.proofs.book.Book.collect.Goals as goal
use Rattle.xa_desk.proofs.book.Book.collect.Goals.{After-push_collected}

pub push_collected-requires : goal.push_collected-requires
push_collected-requires c =
    let out = rw (← c.self.view_is) at c.requires.out in
    room_collected c.self.inside.ledgers.items c.args.operation c.in-Some-code.code c.index_mut-ledger.result.now out
    (c.self.invariant.books.orderly _ out.known) c.index_mut-ledger.ensures.value

out : (c : After-push_collected) → IsOut c.self.inside.ledgers.items c.args.operation
out c = rw (← c.self.view_is) at c.requires.out

written : (c : After-push_collected)
    → c.push_collected.new.self ≡ with_collected (ledger c.self.inside.ledgers.items c.args.operation.manager)
    c.args.operation.number c.in-Some-code.code
written c = grind (arith, ledger-read, out)

books : (c : After-push_collected)
    → IsBooks (after_collected c.self.inside.ledgers.items c.args.operation c.in-Some-code.code) c.remove.new.self
    c.self.inside.kept.items (logged c.self.inside.drained.items)
books c =
    let i = c.self.invariant in
    let at = c.self.inside.ledgers.items in
    let code = c.in-Some-code.code in
    let slot = c.in-Some.slot in
    let named = c.in-Some.ensures.named in
    let handle =
    loose_handle at c.self.inside.slots c.in-Some.key slot c.self.inside.kept.items (logged c.self.inside.drained.items)
    i.books c.in-Some.ensures.found c.args.operation named (rw (← c.self.view_is) at c.requires.loose) in
    let after =
    books_collected at c.self.inside.slots c.remove.new.self c.in-Some.key slot code c.self.inside.kept.items
    (logged c.self.inside.drained.items) i.books c.in-Some.ensures.found c.in-Some-code.is handle
    c.remove.ensures.updates c.remove.ensures.len in
    rw named at after

pub invariant_of-self : goal.invariant_of-self
invariant_of-self c =
    let d = (goal.at.invariant_of-self c).After-push_collected in
    let i = c.self.invariant in
    let at = c.self.inside.ledgers.items in
    let o = c.args.operation in
    let code = c.in-Some-code.code in
    rw (written d) (record {
      books = books d;
      keys = keys_collected at o code (out d).known c.self.inside.rows.items c.self.inside.slots c.remove.new.self
          c.in-Some.key i.keys c.remove.ensures.updates;
      slots_room = (
        omega (arith, c.remove.ensures.len, i.slots_room.0),
        rw c.remove.ensures.capacity i.slots_room.1,
        rw
            c.remove.ensures.capacity i.slots_room.2,
      );
      places = i.places;
      drained = i.drained;
      planned = rw (planned-put at o.manager (with_collected (ledger at o.manager) o.number code) (out d).known refl)
          i.planned;
      limits = rw (length-put_ledger at o.manager (with_collected (ledger at o.manager) o.number code)) i.limits;
      ends = i.ends;
      kept_marks = i.kept_marks;
      ready_marks = i.ready_marks;
    })

pub returns-clause-fewer : goal.returns-clause-fewer
returns-clause-fewer c = search (arith, written, books)
