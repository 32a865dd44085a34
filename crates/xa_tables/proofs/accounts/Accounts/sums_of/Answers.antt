use Rattle.xa_base.proofs.{length, sym, ap, ◌∙◌, arith, get-from_entries, lookup, filter_map}
use Rattle.std.specs.FinMap as finmap
use Rattle.xa_words.specs.{key_eq}
use Rattle.xa_tables.specs.{hold_entries, sum_at}
use Rattle.xa_tables.proofs.AccountLemmas.{touch_cmp_total}
use Rattle.xa_tables.proofs.PlaceLemmas.{held_room}
use Rattle.xa_tables.proofs.HeldSums.{read_each, read_once, held_inside}
use Rattle.xa_tables.proofs.accounts.Accounts.sums_of.Goals as goal

pub put_sums-requires-clause-room : goal.put_sums-requires-clause-room
put_sums-requires-clause-room c =
    omega (
      arith,
      held_room c.self.inside.held.items c.self.inside.accounts.items c.self.invariant.3,
      c.self.invariant.5,
      ap length c.deref-2.ensures.value,
      c.clear.ensures.capacity,
      c.requires,
    )

pub returns-clause-each : goal.returns-clause-each
returns-clause-each c k =
    let items = c.self.inside.accounts.items in
    let x = c.args.xid.now in
    ap (lookup (key_eq k))
    (c.put_sums.ensures.sums ∙ (λ i. filter_map (sum_at x (c.deref.ensures.value i)) (c.deref-2.ensures.value i)))
    ∙ read_each x items c.self.invariant.0 c.self.inside.held.items c.self.invariant.3 k
    ∙ sym (get-from_entries touch_cmp_total (hold_entries items) (x, k))
    ∙ ap (λ h. finmap.get h.sums (x, k)) c.self.view_is

pub returns-clause-once : goal.returns-clause-once
returns-clause-once c =
    let items = c.self.inside.accounts.items in
    let held = c.self.inside.held.items in
    rw (c.put_sums.ensures.sums, c.deref.ensures.value, c.deref-2.ensures.value)
    (read_once c.args.xid.now items c.self.invariant.0 held c.self.invariant.3.once
    (held_inside held items c.self.invariant.3))
