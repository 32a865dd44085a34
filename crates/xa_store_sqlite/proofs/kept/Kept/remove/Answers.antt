use Rattle.xa_base.proofs.{◌≡◌, ◌∙◌, ℕ, List, ap, cond, lookup, None, Some, refl, subst, sym}
use Rattle.xa_words.specs.{XidName, xid_eq}
use Rattle.xa_store_sqlite.specs.{AreSlots, DiffersAt, Image, Lacks, NoBranchTwice, image_of, with_branch}
use Rattle.xa_store_sqlite.specs.{without_changes}
use Rattle.xa_store_sqlite.proofs.Changes.{order_same, quiet_on}
use Rattle.xa_store_sqlite.proofs.Removing.{differs_removed, known_slot, lacks_removed, order_removed, same_differs}
use Rattle.xa_store_sqlite.proofs.Removing.{unknown_lacks}
use Rattle.xa_store_sqlite.proofs.kept.Kept.remove.Goals as goal

-- what had the branch lacks it, once its changes and then its slot are cleared
gone : (old mid new : Image) (x : XidName) (slot : ℕ) (slots : List (XidName × ℕ)) → lookup (xid_eq x) slots ≡ Some slot
    → AreSlots slots old → NoBranchTwice old.branches → mid ≡ without_changes old slot → new ≡ with_branch mid slot None
    → Lacks x new × DiffersAt x old new
gone old mid new x slot slots is are apart first last =
    let at = known_slot old slots x slot are is in
    let both = last ∙ ap (λ (i : Image). with_branch i slot None) first in (
      subst (λ (i : Image). Lacks x i) (sym both) (lacks_removed old slot x at apart),
      subst (λ (i : Image). DiffersAt x old i) (sym both) (differs_removed old slot x at apart),
    )

pub returns-in_default-clause-removed : goal.returns-in_default-clause-removed
returns-in_default-clause-removed g c = λ o.
    let image = image_of c.args.self.now.mirror in
    let x = c.args.xid.now in (
      unknown_lacks image c.args.self.now.slots.entries x o.slots_are
          (sym c.get.ensures.value ∙ sym c.copied.ensures ∙ c.in_default.is),
      same_differs x image,
    )

pub returns-in_err-clear_branch-clause-quiet : goal.returns-in_err-clear_branch-clause-quiet
returns-in_err-clear_branch-clause-quiet g c =
    quiet_on g.S.Store.view g.S.Store.faults g.S.Store.recovers g.S.Store.is_shielded _
    c.clear_changes.new.self.tables.trees _ c.clear_changes.ensures.quiet c.clear_branch.ensures.quiet

pub returns-in-Ok-clause-quiet : goal.returns-in-Ok-clause-quiet
returns-in-Ok-clause-quiet g c =
    quiet_on g.S.Store.view g.S.Store.faults g.S.Store.recovers g.S.Store.is_shielded _
    c.clear_changes.new.self.tables.trees _ c.clear_changes.ensures.quiet c.clear_branch.ensures.quiet

pub returns-in-Err-clause-quiet : goal.returns-in-Err-clause-quiet
returns-in-Err-clause-quiet g c =
    quiet_on g.S.Store.view g.S.Store.faults g.S.Store.recovers g.S.Store.is_shielded _
    c.clear_changes.new.self.tables.trees _ c.clear_changes.ensures.quiet c.clear_branch.ensures.quiet

pub returns-in-Ok-clause-order : goal.returns-in-Ok-clause-order
returns-in-Ok-clause-order g c = λ o.
    let image = image_of c.args.self.now.mirror in
    let x = c.args.xid.now in
    let slot = c.in-Some.slot in
    let at =
    known_slot image c.args.self.now.slots.entries x slot o.slots_are
    (sym c.get.ensures.value ∙ sym c.copied.ensures ∙ c.in-Some.is) in
    let is =
    c.in_ok-clear_branch.ensures.image
    ∙ ap (λ (i : Image). with_branch i slot None) c.in_ok-clear_changes.ensures.image in
    order_same refl (ap (λ m. m.entries) (c.clear_branch.ensures.places ∙ c.clear_changes.ensures.places)) is
    (order_removed image slot x at o.apart c.args.self.now.slots.entries c.remove.new.self.entries
    c.args.self.now.places.entries o
    (λ y. c.remove.ensures.updates.0 y
    ∙ ap (λ m. cond (xid_eq x y) None (lookup (xid_eq y) m.entries))
    (c.clear_branch.ensures.slots ∙ c.clear_changes.ensures.slots)))

pub returns-in-Ok-clause-removed : goal.returns-in-Ok-clause-removed
returns-in-Ok-clause-removed g c = λ o.
    gone (image_of c.args.self.now.mirror) _ _ c.args.xid.now c.in-Some.slot
    c.args.self.now.slots.entries (sym c.get.ensures.value ∙ sym c.copied.ensures ∙ c.in-Some.is) o.slots_are o.apart
    c.in_ok-clear_changes.ensures.image c.in_ok-clear_branch.ensures.image
