use Rattle.xa_base.proofs.{◌≡◌, ◌<◌, length, get_or, set, sym, ◌∙◌, ap, arith, at_ok, one_put, hash_map_len}
use Rattle.xa_words.specs.{tran_eq}
use Rattle.xa_log.proofs.Transactions.{tran_cmp_total, tran_cmp-IsAntisymmetric, tran_eq-by_cmp}
use Rattle.xa_log_file.specs.{LogSlot, Free, Taken, Forgotten, taken, shut}
use Rattle.xa_log_file.proofs.Places.{none_done, room_there, passed_over, put_in, all_anew, longer_by_one, slot_indexed}
use Rattle.xa_log_file.proofs.Places.{unchanged}
use Rattle.xa_log_file.proofs.slot_table.shut_all.Goals.{in-Free, in-Taken, in-Forgotten}
use Rattle.xa_log_file.proofs.slot_table.shut_all.Goals as goal

pub loop-place-init : goal.loop-place-init
loop-place-init c = search (arith, none_done, c.args.slots.now.items, c.clear.new.self.entries)

pub unwrap-requires : goal.unwrap-requires
unwrap-requires c =
    c.insert-put.ensures.succeeds
    (room_there c.loop-place.invariant
    (omega (arith, c.loop-place-test.true, c.len-place-end.ensures, c.args.slots.now.ok.0)))

pub loop-place-preserved : goal.loop-place-preserved
loop-place-preserved c =
    let below : c.loop-place.place < length c.args.slots.now.items =
    omega (arith, c.loop-place-test.true, c.len-place-end.ensures, c.args.slots.now.ok.0) in
    let here : c.loop-place.place < length c.loop-place.slots.items =
    omega (arith, below, c.loop-place.invariant.mapped.count) in
    let mapped = c.loop-place.invariant.mapped in
    let was : (s : LogSlot) → c.index.result.now ≡ s → get_or c.args.slots.now.items c.loop-place.place Free ≡ s =
    λ s is. sym (mapped.later c.loop-place.place (omega arith))
    ∙ slot_indexed c.loop-place.slots.items c.loop-place.place c.index.result.now s here c.index.ensures is in
    elim c.match-index.branch [
      | in-Free w ↦
          let is = was Free w.in-Free.is in
          rw (w.places-is, w.slots-is)
          (passed_over c.loop-place.invariant below (ap taken is) (unchanged mapped (ap shut is ∙ sym is)))
      | in-Taken w ↦
          let is = was (Taken w.in-Taken.decision) w.in-Taken.is in
          let updates =
          at_ok w.insert-put.result _ (w.insert-put.ensures.succeeds (room_there c.loop-place.invariant below))
          w.insert-put.ensures.updates in
          rw (w.places-is, w.slots-is)
          (put_in c.loop-place.invariant below is (unchanged mapped (ap shut is ∙ sym is)) c.requires.indexed
          (λ absent. one_put tran_eq tran_cmp_total tran_cmp-IsAntisymmetric tran_eq-by_cmp c.loop-place.places.entries
          w.insert-put.new.self.entries
          w.in-Taken.decision.tran c.loop-place.place updates.0)
          (λ absent. longer_by_one c.loop-place.places.entries w.in-Taken.decision.tran
          (hash_map_len c.loop-place.places) (hash_map_len w.insert-put.new.self)
          w.unwrap.result (rw w.unwrap.ensures at w.insert-put.ensures.old) absent
          (rw w.unwrap.ensures at w.insert-put.ensures.len))
          w.insert-put.ensures.spare)
      | in-Forgotten w ↦
          let is = was (Forgotten w.in-Forgotten.field-0) w.in-Forgotten.is in
          rw (w.places-is, w.slots-is) (passed_over c.loop-place.invariant below (ap taken is)
          (ap (λ (s : LogSlot). set c.loop-place.slots.items c.loop-place.place s) (sym (ap shut is))))
    ]

pub returns : goal.returns
returns c =
    let all =
    all_anew c.loop-place.invariant
    (omega (arith, c.loop-place-test.false, c.len-place-end.ensures, c.args.slots.now.ok.0)) in
    record { slots = all.0; indexed = all.1; room = all.2; capacity = all.3 }
