use Rattle.xa_base.proofs.{found_at, found_without, ◌≢◌, sym, ap, ◌∙◌, arith, eq-eqb, ne_eqb, take_all, all_at}
use Rattle.xa_base.proofs.{find_none, get_or_default, All-more}
use Rattle.xa_switch.specs.{ReadyPart}
use Rattle.xa_switch.proofs.opening.reopening.take_manager.Goals as goal

pub returns-then-number : goal.returns-then-number
returns-then-number c = grind (arith, found_at, eq-eqb, ne_eqb, get_or_default, found_without)

pub loop-place-preserved : goal.loop-place-preserved
loop-place-preserved c =
    let d : ReadyPart = c.index.result.now in
    record {
      same = c.loop-place.invariant.same;
      none =
          All-more (λ (r : ReadyPart). r.part.number ≢ c.args.number) c.loop-place.managers.items c.loop-place.place d
          (omega arith) c.loop-place.invariant.none
          (λ e. c.if-number.false (c.number.ensures ∙ ap (λ (r : ReadyPart). r.part.number) c.index.ensures ∙ e));
    }

pub unreachable-requires : goal.unreachable-requires
unreachable-requires c =
    let xs = c.loop-place.managers.items in
    let there = rw (← c.loop-place.invariant.same) at c.requires.1 in
    let none = rw (take_all c.loop-place.place xs (omega arith)) at c.loop-place.invariant.none in
    let nowhere =
    find_none (λ (r : ReadyPart). r.part.number) c.args.number xs
    (λ k r at. all_at (λ (q : ReadyPart). q.part.number ≢ c.args.number) xs k r none at) in
    let no = sym nowhere ∙ there in
    cc
