use Rattle.xa_base.proofs.{◌≡◌, ◌∙◌, Some, ap, arith, of_z, rules, subst, sym, to_z, w64}
use Rattle.xa_store_sqlite.specs.{Change, Image, PutsSum, image_of, with_change}
use Rattle.xa_store_sqlite.proofs.Branches.{read_slot}
use Rattle.xa_store_sqlite.proofs.Changes.{order_same}
use Rattle.xa_store_sqlite.proofs.Putting.{delta_is, order_change, puts_sum}
use Rattle.xa_store_sqlite.proofs.kept.Kept.put_sum.Goals as goal

pub returns-clause-order : goal.returns-clause-order
returns-clause-order g c = λ o there.
    let image = image_of c.args.self.now.mirror in
    let place = c.in-Some-Some.place in
    let change : Change = record { branch = c.args.slot; delta = c.in-Some-Some.delta } in
    let (within, held) =
    read_slot image.changes c.deref.result.now place c.get-2.result c.in-Some-None.field-0 c.deref.ensures.value
    c.get-2.ensures.lookup c.in-Some-None.is in
    let free = held ∙ c.in-Some-None.field-0-is in
    order_same (ap (λ m. m.entries) c.set_change.ensures.slots) (ap (λ m. m.entries) c.set_change.ensures.places)
    c.in_ok-set_change.ensures.image
    (order_change image c.args.self.now.slots.entries c.args.self.now.places.entries o place change within free there)

pub returns-clause-sum : goal.returns-clause-sum
returns-clause-sum g c = λ o x name none.
    let image = image_of c.args.self.now.mirror in
    let place = c.in-Some-Some.place in
    let key = c.args.key.now in
    let change : Change = record { branch = c.args.slot; delta = c.in-Some-Some.delta } in
    let (within, held) =
    read_slot image.changes c.deref.result.now place c.get-2.result c.in-Some-None.field-0 c.deref.ensures.value
    c.get-2.ensures.lookup c.in-Some-None.is in
    let free = held ∙ c.in-Some-None.field-0-is in
    let known = sym c.get.ensures.value ∙ sym c.copied.ensures ∙ c.in-Some-Some.is-0 in
    let own : to_z w64 (of_z w64 c.args.amount) ≡ c.args.amount = search (arith, rules) in
    let amount =
    delta_is (to_z w64 (of_z w64 c.args.amount)) c.in-Some-Some.delta (sym c.new.ensures ∙ c.in-Some-Some.is-1)
    ∙ own in
    subst (λ (i : Image). PutsSum x key c.args.amount image i) (sym c.in_ok-set_change.ensures.image)
    (subst (λ a. PutsSum x key a image (with_change image place (Some change))) amount
    (puts_sum image c.args.self.now.slots.entries c.args.self.now.places.entries o place change within free x key known
    name none))

pub returns-clause-branches : goal.returns-clause-branches
returns-clause-branches g c = ap (λ (i : Image). i.branches) c.in_ok-set_change.ensures.image
