use Rattle.xa_base.proofs.{arith, ◌≡◌, ◌≤◌, map, sym, ap, ◌∙◌, subst, range_with_len, length-map-range_with_len}
use Rattle.xa_base.proofs.{mapped_some}
use Rattle.xa_tables.specs.{Managed}
use Rattle.xa_switch.specs.{setup, AreOfOneOpening, ReadyPart, find_manager, last_in, managers_in, parts_of}
use Rattle.xa_switch.specs.{reopened_at, Settling}
use Rattle.xa_switch.proofs.SettledOpenings.{find_parts}
use Rattle.xa_switch.proofs.Meeting.{all_new, all_begin, tables_are}
use Rattle.xa_switch.proofs.opening.reopening.reopen.Goals as goal

pub reopen_managers-managers-requires-clause-there : goal.reopen_managers-managers-requires-clause-there
reopen_managers-managers-requires-clause-there g c = λ m low high.
    let new = c.reserve_managers.new.managers.items in
    let within : m ≤ managers_in c.args.settled = rw c.managers-many.ensures.managers at high in
    let there = c.settled.invariant.1.there m low (rw (← c.settled.view_is) at within) in
    let at =
    mapped_some (λ (r : ReadyPart). r.part) _ there.0
    (sym (find_parts m new) ∙ ap (find_manager m) c.reserve_managers.ensures.parts ∙ there.1) in
    (at.0, at.1)

pub put_together-desks-requires-clause-many : goal.put_together-desks-requires-clause-many
put_together-desks-requires-clause-many g c = grind (arith, length-map-range_with_len)

pub put_together-desks-requires-clause-new : goal.put_together-desks-requires-clause-new
put_together-desks-requires-clause-new g c =
    rw c.in-Ok.ensures.numbers
    (all_new c.args.again.now (reopened_at (parts_of c.reserve_managers.new.managers.items)) _ _
    c.reopen_managers-managers.ensures)

pub put_together-desks-requires-clause-begins : goal.put_together-desks-requires-clause-begins
put_together-desks-requires-clause-begins g c =
    let parts = parts_of c.reserve_managers.new.managers.items in
    all_begin c.args.again.now (reopened_at parts) _ _ c.reopen_managers-managers.ensures
    (λ m. c.openings_begin_with_what_was_left.ensures.next (last_in (find_manager m parts)))

pub returns-clause-opened : goal.returns-clause-opened
returns-clause-opened g c =
    let s : Settling = c.args.settled in
    let parts = parts_of c.reserve_managers.new.managers.items in
    let same : parts ≡ s.managers =
    c.reserve_managers.ensures.parts ∙ ap (λ (z : Settling). z.managers) c.settled.view_is in
    let first : map (λ (m : Managed). m.tables) c.reopen_managers-managers.result.items ≡ map (reopened_at s.managers)
    (range_with_len 1 (managers_in s)) =
    tables_are c.args.again.now (reopened_at parts) _ _ c.reopen_managers-managers.ensures
    ∙ (λ i. map (reopened_at (same i)) (range_with_len 1 (c.managers-many.ensures.managers i))) in
    subst (λ p. AreOfOneOpening p c.put_together-desks.result.0.items c.put_together-desks.result.1.items)
    (λ i. setup (c.in-Ok.ensures.numbers i) (c.in-Ok.ensures.flags i) (first i)) c.put_together-desks.ensures
