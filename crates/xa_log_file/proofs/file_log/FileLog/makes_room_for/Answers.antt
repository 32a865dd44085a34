use Rattle.xa_base.proofs.{inl, inr, ⊎_elim, length, refl, ap, arith, length-map}
use Rattle.xa_log_file.specs.{state_of_slots, shut, used}
use Rattle.xa_log_file.proofs.Grouped.{new_none}
use Rattle.xa_log_file.proofs.Places.{index_apart}
use Rattle.xa_log_file.proofs.Tables.{none_named_shut}
use Rattle.xa_log_file.proofs.file_log.FileLog.makes_room_for.Goals as goal

pub returns-then-has_room_for-clause-any_moment : goal.returns-then-has_room_for-clause-any_moment
returns-then-has_room_for-clause-any_moment g c =
    search (arith, c.args.self.now.known, c.requires.known, g.met.D.Device.only_now, c.args.self.now.device)

pub returns-clause-cause : goal.returns-clause-cause
returns-clause-cause g c = λ no_.
    let is = (c.if-not-shut_forgotten.ensures.shut refl).1 in
    ⊎_elim
    (λ full. inr
    (inl (omega (arith, full, ap length is, ap used is, length-map c.args.self.now.table.slots.items shut))))
    (λ at. absurd (none_named_shut c.args.self.now.table.slots.items
    (index_apart c.args.self.now.table.indexed) at.0.tran
    (new_none (state_of_slots c.args.self.now.table.slots.items c.args.self.now.failures) c.args.decisions.now at.0
    at.1.0.0
    c.requires.new at.1.0.1 at.1.0.2)
    at.1.1.0
    (rw is at at.1.1.1.1)))
    (c.has_room_for-2.ensures.none no_)
