use Rattle.xa_base.proofs.{◌≡◌, Some, ◌∙◌, arith, take, length-set, All-push, map-set_same}
use Rattle.std.proofs.lemmas.List.{take_more_set}
use Rattle.xa_switch.specs.{ReadyPart}
use Rattle.xa_switch.proofs.opening.reopening.reserve_managers.Goals as goal

pub returns-in_err-reserve-clause-parts : goal.returns-in_err-reserve-clause-parts
returns-in_err-reserve-clause-parts c = grind (arith, map-set_same)

pub loop-place-preserved : goal.loop-place-preserved
loop-place-preserved c =
    let managers = c.loop-place.managers.items in
    let i = c.loop-place.place in
    let after : ReadyPart = c.reserve.new.self in
    let Has = λ (r : ReadyPart). r.reserved ≡ Some (c.args.threads, c.args.room) in
    record {
      parts = search (arith, map-set_same, c.index_mut.result.now);
      many = length-set managers i after ∙ c.loop-place.invariant.many;
      reserved = rw (take_more_set managers i after (omega arith))
          (All-push Has (take i managers) after c.loop-place.invariant.reserved c.in_ok-reserve.ensures.reserved);
    }
