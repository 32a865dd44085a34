use Rattle.xa_base.proofs.{◌≡◌, ◌+◌, Some, [], ◌∷◌, option_map, length, length-append, length-map, map, map-append}
use Rattle.xa_base.proofs.{refl, sym, ap, ◌∙◌, arith}
use Rattle.xa_tables.specs.{AreLeft}
use Rattle.xa_switch.specs.{find_manager, parts_of, reopened_at}
use Rattle.xa_switch.proofs.Dealing.{push_more}
use Rattle.xa_switch.proofs.opening.scans.left_of.Goals as goal

pub loop-before-preserved : goal.loop-before-preserved
loop-before-preserved c =
    let i = c.loop-before.invariant in
    let s = c.args.settled.now in
    let k = c.loop-before.before in
    let lists = c.loop-before.lists.items in
    let xs = c.in_ok-left-in-Some.field-0 in
    let part = c.in-Some.part.now.part in
    let found : find_manager (k + 1) s.managers ≡ Some part =
    ap (λ z. find_manager (k + 1) z.managers) (sym c.settled.view_is)
    ∙ ap (λ l. find_manager (k + 1) (parts_of l)) (sym c.deref.ensures.value)
    ∙ sym c.find_carried.ensures ∙ ap (option_map (λ m. m.now.part)) c.in-Some.is in
    let here : AreLeft xs.items (reopened_at s.managers (k + 1)) =
    rw found (c.openings_begin_with_what_was_left.ensures.left xs.items part.last c.in_ok-left-in-Some.ensures) in
    let grown = ap (λ l. length l) c.push_reserved.ensures.items in
    record {
      counted = omega (arith, i.counted, grown, length-append lists (xs ∷ []));
      room = c.push_reserved.ensures.capacity ∙ i.room;
      each =
          (push_more (λ j l. AreLeft l (reopened_at s.managers (j + 1))) (map (λ x. x.items) lists) _ xs.items k (k + 1)
          (length-map lists (λ x. x.items) ∙ i.counted) refl
          (ap (map (λ x. x.items)) c.push_reserved.ensures.items ∙ map-append (λ x. x.items) lists (xs ∷ [])) i.each
          here).1;
    }
