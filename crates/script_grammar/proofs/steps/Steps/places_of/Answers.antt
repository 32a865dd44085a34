use Rattle.xa_base.proofs.{◌≡◌, ◌+◌, Some, length, slice_get, take, sym, ap, ◌∙◌, arith, take_all, length-map, got_map}
use Rattle.xa_base.proofs.{All-nil, slice_get_read}
use Rattle.script_grammar.specs.{step_at, steps_of, own_steps}
use Rattle.script_grammar.proofs.StepLemmas.{own_same, own_next}
use Rattle.script_grammar.proofs.steps.Steps.places_of.Goals as goal
use Rattle.script_grammar.proofs.steps.Steps.places_of.Goals.{then-is_of+in_ok-push, else-is_of}

pub loop-place-init : goal.loop-place-init
loop-place-init c =
    search (arith, All-nil, c.self.inside.names.items, c.self.inside.keys.items, c.self.inside.kept.items)

pub loop-place-preserved : goal.loop-place-preserved
loop-place-preserved c =
    let bytes = c.self.inside.names.items in
    let keys = c.self.inside.keys.items in
    let kept = c.self.inside.kept.items in
    let k = c.loop-place.place in
    let q = c.index.result.now in
    let there : slice_get kept k ≡ Some q = search (arith, slice_get_read, q) in
    let next =
    own_next c.args.thread (steps_of bytes keys kept) k c.loop-place.places.items (step_at bytes keys q)
    c.loop-place.invariant (got_map (step_at bytes keys) kept k q there) in
    let own = own_same c.args.thread bytes keys q in
    elim c.if-is_of.branch [
      | then-is_of+in_ok-push w ↦ rw (w.places-is, w.in_ok-push.ensures.items)
          (rw (sym own ∙ sym c.is_of.ensures ∙ w.if-is_of.true) at next)
      | else-is_of w ↦ rw w.places-is (rw (sym own ∙ sym c.is_of.ensures ∙ w.if-is_of.false) at next)
    ]

pub returns-clause-own : goal.returns-clause-own
returns-clause-own c =
    let steps = steps_of c.self.inside.names.items c.self.inside.keys.items c.self.inside.kept.items in
    let many : length steps ≡ length c.self.inside.kept.items = search (arith, length-map) in
    let all : take c.loop-place.place steps ≡ steps = search (arith, take_all, c.loop-place.place) in
    rw c.self.view_is at (c.loop-place.invariant.0 ∙ ap (own_steps c.args.thread) all)

pub returns-clause-within : goal.returns-clause-within
returns-clause-within c = rw c.self.view_is at c.loop-place.invariant.1
