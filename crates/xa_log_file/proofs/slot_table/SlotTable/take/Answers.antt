use Rattle.xa_base.proofs.{arith, length-set, at_ok, one_put, cases_eq, get_or-set_same, get_or-set_other, hash_map_len}
use Rattle.xa_words.specs.{tran_eq}
use Rattle.xa_log.proofs.Transactions.{tran_cmp_total, tran_cmp-IsAntisymmetric, tran_eq-by_cmp}
use Rattle.xa_log_file.specs.{Taken}
use Rattle.xa_log_file.proofs.Places.{longer_by_one, not_indexed, index_more, used_less, used_set}
use Rattle.xa_log_file.proofs.slot_table.SlotTable.take.Goals as goal

pub unwrap-requires : goal.unwrap-requires
unwrap-requires c =
    let less = used_less c.args.self.now.slots.items c.args.place c.requires.within c.requires.free in
    c.insert-put.ensures.succeeds (omega (arith, less, c.args.self.now.room))

pub invariant_of-self : goal.invariant_of-self
invariant_of-self c =
    let less = used_less c.args.self.now.slots.items c.args.place c.requires.within c.requires.free in
    let updates =
    at_ok c.insert-put.result _ (c.insert-put.ensures.succeeds (omega (arith, less, c.args.self.now.room)))
    c.insert-put.ensures.updates in
    let absent = not_indexed c.args.self.now.indexed c.requires.new in
    let longer = longer_by_one c.args.self.now.places.entries c.args.decision.tran (hash_map_len c.args.self.now.places)
    (hash_map_len c.insert-put.new.self)
    c.unwrap.result (rw c.unwrap.ensures at c.insert-put.ensures.old) absent
    (rw c.unwrap.ensures at c.insert-put.ensures.len) in
    let many = length-set c.args.self.now.slots.items c.args.place (Taken c.args.decision) in
    let more = used_set c.args.self.now.slots.items c.args.place c.args.decision c.requires.within c.requires.free in
    let put = one_put tran_eq tran_cmp_total tran_cmp-IsAntisymmetric tran_eq-by_cmp c.args.self.now.places.entries
    c.insert-put.new.self.entries
    c.args.decision.tran c.args.place updates.0 in
    search (
      arith,
      index_more,
      get_or-set_same,
      get_or-set_other,
      cases_eq,
      absent,
      put,
      many,
      more,
      longer,
      c.requires.free,
      c.insert-put.ensures.spare,
      c.args.self.now,
    )
