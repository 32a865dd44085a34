use Rattle.xa_base.proofs.{◌≡◌, ◌∙◌, arith, length, lookup, rules}
use Rattle.xa_words.specs.{xid_eq}
use Rattle.xa_store_sqlite.specs.{is_of_branch}
use Rattle.xa_store_sqlite.proofs.Founding.{all_places, next_slot}
use Rattle.xa_store_sqlite.proofs.kept.slots_of.Goals as goal

pub loop-slot-preserved : goal.loop-slot-preserved
loop-slot-preserved c = λ apart x.
    let bs = c.args.branches.now in
    let count : c.in-Ok.count ≡ length c.args.branches.now = search (arith, rules) in
    next_slot bs c.loop-slot.slot c.index-branches-slot.result x (lookup (xid_eq x) c.loop-slot.slots.entries)
    (lookup (xid_eq x) c.note_slot.new.slots.entries) apart
    (omega (arith, c.loop-slot-test.true, count)) c.index-branches-slot.is (c.loop-slot.invariant apart x)
    (c.in_ok-note_slot.ensures x)

pub returns : goal.returns
returns c = λ apart x.
    let count : c.in-Ok.count ≡ length c.args.branches.now = search (arith, rules) in
    let last : c.loop-slot.slot ≡ c.in-Ok.count = omega (arith, c.loop-slot-test.false, c.loop-slot.auto.slot-end) in
    c.loop-slot.invariant apart x ∙ all_places (is_of_branch x) c.args.branches.now c.loop-slot.slot (last ∙ count)
