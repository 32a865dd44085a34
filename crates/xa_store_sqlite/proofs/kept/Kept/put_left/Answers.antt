use Rattle.xa_base.proofs.{◌≡◌, ◌∙◌, ℕ, Option, Some, ap, subst, sym}
use Rattle.xa_store_sqlite.specs.{Image, Mirror, PutsBranch, StoredBranch, image_of, with_branch}
use Rattle.xa_store_sqlite.proofs.Changes.{order_same}
use Rattle.xa_store_sqlite.proofs.Putting.{order_put, puts_branch}
use Rattle.xa_store_sqlite.proofs.kept.Kept.put_left.Goals as goal

-- what was set in a slot that was taken
set_in_taken : (old taken : Mirror) (new : Image) (slot : ℕ) (b : Option StoredBranch)
    → new ≡ with_branch (image_of taken) slot b → taken ≡ old → new ≡ with_branch (image_of old) slot b
set_in_taken old taken new slot b set same = set ∙ ap (λ (m : Mirror). with_branch (image_of m) slot b) same

pub returns-clause-order : goal.returns-clause-order
returns-clause-order g c = λ o lacks.
    let image = image_of c.args.self.now.mirror in
    let x = c.args.xid.now in
    let slot = c.in_ok-slot.slot in
    let left = c.args.left in
    let is =
    set_in_taken c.args.self.now.mirror c.take_slot.new.self.mirror _ slot (Some (x, left))
    c.in_ok-set_branch.ensures.image c.take_slot.ensures.mirror in
    order_same (ap (λ m. m.entries) c.set_branch.ensures.slots)
    (ap (λ m. m.entries) (c.set_branch.ensures.places ∙ c.take_slot.ensures.places)) is
    (order_put image slot x left c.in_ok-slot.ensures.within c.in_ok-slot.ensures.free c.args.self.now.slots.entries
    c.take_slot.new.self.slots.entries c.args.self.now.places.entries o lacks c.in_ok-slot.ensures.slots)

pub returns-clause-put : goal.returns-clause-put
returns-clause-put g c = λ o lacks.
    let slot = c.in_ok-slot.slot in
    let put =
    puts_branch (image_of c.args.self.now.mirror) slot c.args.xid.now c.args.left c.in_ok-slot.ensures.within
    c.in_ok-slot.ensures.free o.owned lacks in
    subst (λ (i : Image). PutsBranch slot c.args.xid.now c.args.left (image_of c.args.self.now.mirror) i)
    (sym (set_in_taken c.args.self.now.mirror c.take_slot.new.self.mirror _ slot (Some (c.args.xid.now, c.args.left))
    c.in_ok-set_branch.ensures.image c.take_slot.ensures.mirror)) put
