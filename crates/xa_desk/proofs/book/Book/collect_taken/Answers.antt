use Rattle.xa_base.proofs.{◌≡◌, ◌≢◌, ◌-◌, ◌+◌, ◌∷◌, ◌++◌, [], None, ap, ◌∙◌, sym, refl, arith, length-append}
use Rattle.xa_base.proofs.{false≢true, map-append}
use Rattle.slab.specs.Slab.{Slab, slab_len, Updates}
use Rattle.xa_desk.specs.{Slot, with_collected, Operation, Collected, desk_of, IsOut, ledger, after_collected}
use Rattle.xa_desk.specs.{operation_of, drained_code, first, AreReady, logged, HasKept, IsBooks}
use Rattle.xa_desk.proofs.Ledgers.{ledger-read, room_collected, planned-put, length-put_ledger, drained-lt-planned}
use Rattle.xa_desk.proofs.Books.{books_taken, drained_code-push_first, loose_handle}
use Rattle.xa_desk.proofs.KeyRows.{keys_collected, ready_drained}
use Rattle.xa_desk.proofs.Looks.{still_missing}
use Rattle.xa_desk.proofs.book.Book.collect_taken.Goals as goal
use Rattle.xa_desk.proofs.book.Book.collect_taken.Goals.{In-Some, After-push_collected}

pub returns-then-not-is : goal.returns-then-not-is
returns-then-not-is c =
    let differs : c.args.operation ≢ operation_of c.args.completion =
    λ same. false≢true (sym c.if-not-is.true ∙ c.is.ensures.1 same) in
    record {
      mid = c.note_taken.new.self;
      drains = c.note_taken.ensures;
      code_ = sym
          (still_missing _ _ c.args.completion c.args.operation c.note_taken.ensures differs c.requires.missing);
      rest = refl;
    }

-- the completion is the operation's, whose slot has neither a code nor a number
its : (c : In-Some) → c.args.operation ≡ operation_of c.args.completion
its c = c.is.ensures.0 c.if-not-is.false

out : (c : In-Some) → IsOut c.self.inside.ledgers.items c.args.operation
out c = rw (← c.self.view_is) at c.requires.out

missing : (c : In-Some) → drained_code c.args.operation (logged c.self.inside.drained.items) ≡ None
missing c = rw (← c.self.view_is) at c.requires.missing

waiting : (c : In-Some) → c.in-Some.field-0-1.code ≡ None
waiting c =
    c.self.invariant.books.coded c.in-Some.key c.in-Some.field-0-1 c.in-Some.ensures.found
    ∙ ap (λ (o : Operation). drained_code o (logged c.self.inside.drained.items)) c.in-Some.ensures.named ∙ missing c

loose : (c : In-Some) → c.in-Some.field-0-1.handle ≡ 0
loose c =
    loose_handle c.self.inside.ledgers.items c.self.inside.slots c.in-Some.key c.in-Some.field-0-1
    c.self.inside.kept.items (logged c.self.inside.drained.items) c.self.invariant.books c.in-Some.ensures.found
    c.args.operation c.in-Some.ensures.named (rw (← c.self.view_is) at c.requires.loose)

pub overflow_add-self : goal.overflow_add-self
overflow_add-self c =
    let below =
    drained-lt-planned c.in-Some.key c.in-Some.field-0-1 c.self.invariant.books c.in-Some.ensures.found
    (waiting ((goal.at.overflow_add-self c).In-Some)) in
    omega (arith, below, c.self.invariant.drained, c.self.invariant.planned)

pub push_collected-requires : goal.push_collected-requires
push_collected-requires c =
    let is = out ((goal.at.push_collected-requires c).In-Some) in
    room_collected c.self.inside.ledgers.items c.args.operation c.args.completion.code c.index_mut-ledger.result.now is
    (c.self.invariant.books.orderly _ is.known) c.index_mut-ledger.ensures.value

written : (c : After-push_collected)
    → c.push_collected.new.self ≡ with_collected (ledger c.self.inside.ledgers.items c.args.operation.manager)
    c.args.operation.number c.args.completion.code
written c = grind (arith, out, ledger-read)

drained : (c : After-push_collected)
    → logged c.and-self-inside.result.items ≡ logged c.self.inside.drained.items ++ c.args.completion ∷ []
drained c =
    ap logged c.and-self-inside.ensures
    ∙ map-append (λ p. p.0) c.self.inside.drained.items ((c.args.completion, tt) ∷ [])

-- the slot goes
books : (c : In-Some) (t : Slab Slot) → Updates c.self.inside.slots t c.in-Some.key None
    → slab_len t + 1 ≡ slab_len c.self.inside.slots
    → IsBooks (after_collected c.self.inside.ledgers.items c.args.operation c.args.completion.code) t
    c.self.inside.kept.items (logged c.self.inside.drained.items ++ c.args.completion ∷ [])
books c t gone len =
    let at = c.self.inside.ledgers.items in
    rw c.in-Some.ensures.named at
    (books_taken at c.self.inside.slots t c.in-Some.key c.in-Some.field-0-1 c.self.inside.kept.items
    (logged c.self.inside.drained.items) c.args.completion c.self.invariant.books c.in-Some.ensures.found
    (waiting c) (c.in-Some.ensures.named ∙ its c) (loose c) gone len)

-- it is kept nowhere, so no mark changes
marks : (c : In-Some)
    → AreReady c.self.inside.ready_marks c.self.inside.kept.items
    (logged c.self.inside.drained.items ++ c.args.completion ∷ [])
marks c =
    let i = c.self.invariant in
    let slot : HasKept c.self.inside.slots (operation_of c.args.completion) 0 =
    record {
      key = c.in-Some.key;
      slot = c.in-Some.field-0-1;
      found = c.in-Some.ensures.found;
      names = c.in-Some.ensures.named ∙ its c;
      handle = loose c;
    } in
    ready_drained c.self.inside.ledgers.items c.self.inside.slots c.self.inside.kept.items
    (logged c.self.inside.drained.items) c.args.completion 0 c.self.inside.ready_marks c.self.inside.ready_marks
    i.books slot
    (ap (λ (o : Operation). drained_code o (logged c.self.inside.drained.items)) (sym (its c)) ∙ missing c)
    i.ready_marks (λ k no. absurd (omega (arith, no))) (λ k apart. refl)

pub invariant_of-self : goal.invariant_of-self
invariant_of-self c =
    let b = (goal.at.invariant_of-self c).In-Some in
    let d = (goal.at.invariant_of-self c).After-push_collected in
    let i = c.self.invariant in
    let at = c.self.inside.ledgers.items in
    let o = c.args.operation in
    let code = c.args.completion.code in
    let known = (out b).known in
    let more = drained d in
    rw (written d) (record {
      books = rw more (books b c.remove.new.self c.remove.ensures.updates c.remove.ensures.len);
      keys = keys_collected at o code known c.self.inside.rows.items c.self.inside.slots c.remove.new.self c.in-Some.key
          i.keys c.remove.ensures.updates;
      slots_room = (
        omega (arith, c.remove.ensures.len, i.slots_room.0),
        rw c.remove.ensures.capacity i.slots_room.1,
        rw
            c.remove.ensures.capacity i.slots_room.2,
      );
      places = i.places;
      drained = rw more
          (omega (arith, i.drained, length-append (logged c.self.inside.drained.items) (c.args.completion ∷ [])));
      planned = rw (planned-put at o.manager (with_collected (ledger at o.manager) o.number code) known refl) i.planned;
      limits = rw (length-put_ledger at o.manager (with_collected (ledger at o.manager) o.number code)) i.limits;
      ends = i.ends;
      kept_marks = i.kept_marks;
      ready_marks = rw more (marks b);
    })

pub returns : goal.returns
returns c =
    let b = (goal.at.returns c).In-Some in
    let d = (goal.at.returns c).After-push_collected in
    let at = c.self.inside.ledgers.items in
    let old = logged c.self.inside.drained.items in
    let event =
    ap logged c.and-self-inside-2.ensures
    ∙ map-append (λ p. p.0) c.self.inside.events.items ((Collected c.args.operation, tt) ∷ []) in
    rw (← c.self.view_is) (record {
      mid = record (desk_of c.self.inside) { drained = old ++ c.args.completion ∷ [] };
      drains = first (rw (its b) at (out b)) (ap (λ (p : Operation). drained_code p old) (sym (its b)) ∙ missing b)
          refl;
      code_ = sym (drained_code-push_first c.args.operation old c.args.completion (its b) (missing b));
      rest = search (arith, written, drained, books, c.remove.new.self, c.remove.ensures.updates);
    })
