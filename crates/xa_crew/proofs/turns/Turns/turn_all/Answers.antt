use Rattle.xa_base.proofs.{◌≡◌, ◌<◌, length, slice_set, slice_get, Some, sym, ap, ◌∙◌, arith, slice_get-get_or}
use Rattle.xa_worker.specs.{WorkerView}
use Rattle.xa_crew.specs.{all_go_on}
use Rattle.xa_crew.proofs.WorkersOn.{had_turn, one_goes_on, one_more_turned, all_turned}
use Rattle.xa_crew.proofs.turns.Turns.turn_all.Goals as goal

pub loop-place-preserved : goal.loop-place-preserved
loop-place-preserved g c =
    let ws = c.loop-place.self-inside.workers.items in
    let i = c.loop-place.place in
    let before = c.index_mut.result.now in
    let after = c.step.new.self in
    let inside : i < length ws = omega (arith, c.loop-place.invariant.turned.as_many) in
    let at : slice_get ws i ≡ Some before =
    slice_get-get_or ws i before inside ∙ ap (λ (w : WorkerView). Some w) (sym c.index_mut.ensures.value) in
    let had = had_turn before c.step.result after c.step.ensures.step c.step.ensures.same c.step.ensures.seat in
    record {
      turned = one_more_turned i c.self.inside.workers.items ws before after c.loop-place.invariant.turned at
          (c.step.result, had);
      on = all_go_on c.self.inside.workers.items ws (slice_set ws i after) c.loop-place.invariant.on
          (one_goes_on ws i before after at had.goes);
    }

pub returns-clause-turns : goal.returns-clause-turns
returns-clause-turns g c =
    rw c.self.view_is at
    (all_turned c.loop-place.place c.self.inside.workers.items c.loop-place.self-inside.workers.items
    (let z = c.loop-place-test.false in omega arith) c.loop-place.invariant.turned)
