use Rattle.xa_base.proofs.{◌≡◌, ◌-◌, ◌≤◌, length, slice_index_or, sym, ap, ◌∙◌, arith, arc_value}
use Rattle.xa_scan.specs.{left_at}
use Rattle.xa_scan.proofs.Standing.{left_is}
use Rattle.xa_scan.proofs.Scan.left.Goals as goal

pub returns-in-Some : goal.returns-in-Some
returns-in-Some c =
    let m = c.args.manager in
    let xs = c.index.result.now in
    let within : m ≤ length (arc_value c.in-Some.left).items = rw (← c.deref.ensures) (omega (arith, c.len.ensures)) in
    let there : xs ≡ slice_index_or (arc_value c.in-Some.left).items (m - 1) xs =
    c.index.ensures ∙ ap (λ v. slice_index_or v.items (m - 1) xs) c.deref-in-Some.ensures in
    c.deref-in-Some-2.ensures.value
    ∙ sym (left_is c.self.inside.left c.self.inside.places c.in-Some.left xs m c.in-Some.is (omega arith) within there)
    ∙ ap (λ z. left_at z m) c.self.view_is
