use Rattle.xa_base.proofs.{◌-◌, ◌<◌, length, List, Some, sym, ap, ◌∙◌, refl, arith, slice_set, slice_get-get_or}
use Rattle.xa_worker.specs.{WorkerView}
use Rattle.xa_crew.proofs.WorkersOn.{had_turn, turn_goes}
use Rattle.xa_crew.proofs.turns.Turns.turn.Goals as goal

pub returns-clause-turn : goal.returns-clause-turn
returns-clause-turn g c =
    let i = c.args.manager - 1 in
    let many = ap (λ (l : List WorkerView). length l) c.self.view_is in
    let inside : i < length c.self.inside.workers.items = let low = c.requires.0 in
    let high = c.requires.1 in omega (arith, many, low, high) in
    rw (← c.self.view_is) (record {
      before = c.index_mut.result.now;
      after = c.step.new.self;
      at = slice_get-get_or c.self.inside.workers.items i c.index_mut.result.now inside
          ∙ ap (λ (w : WorkerView). Some w) (sym c.index_mut.ensures.value);
      turn = had_turn c.index_mut.result.now c.step.result c.step.new.self c.step.ensures.step c.step.ensures.same
          c.step.ensures.seat;
      rest = refl;
    })

pub returns-clause-on : goal.returns-clause-on
returns-clause-on g c =
    turn_goes c.args.manager c.step.result c.args.self.now
    (slice_set c.self.inside.workers.items (c.args.manager - 1) c.step.new.self)
    (returns-clause-turn g c)
