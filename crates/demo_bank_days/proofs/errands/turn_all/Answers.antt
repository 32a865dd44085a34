use Rattle.xa_base.proofs.{◌≡◌, ℕ, ◌+◌, List, [], ◌∷◌, ◌++◌, length, length-append, append_assoc, append-nil, sym, ap}
use Rattle.xa_base.proofs.{◌∙◌, subst, rules, arith, All, All-nil, All-cons, All-append, into_iter_items, into_iter_len}
use Rattle.xa_base.proofs.{none_of, common_steps}
use Rattle.demo_bank.specs.{Teller}
use Rattle.demo_bank_days.specs.{Errands, habits_on}
use Rattle.demo_bank_days.proofs.Went.{all_taken, moved_map, one_fewer, pushed_map}
use Rattle.demo_bank_days.proofs.errands.turn_all.Goals as goal

one_less : (y e n : ℕ) (rest more : List Errands) (x : Errands) → y + length rest ≡ n → rest ≡ x ∷ more → e ≡ y + 1
    → e + length more ≡ n
one_less y e n rest more x left front next = let size = ap (λ l. length l) front in omega (arith, left, size, next)

pub loop-teller-preserved : goal.loop-teller-preserved
loop-teller-preserved g c =
    let i = c.loop-teller.invariant in
    let P : Teller g.row.L.Denot → Type 0 = λ t. t.outcomes.items ≡ [] in
    record {
      so_far = append_assoc c.loop-teller.yielded (c.in-Some.teller ∷ []) _
          ∙ ap (λ l. c.loop-teller.yielded ++ l) (sym c.in-Some.ensures.steps.0) ∙ i.so_far;
      logs = pushed_map (λ t. t.log) (λ t. t.log) c.loop-teller.turned.items c.push_reserved.new.self.items
          c.turn_to.new.self c.push_reserved.ensures.items c.in-Some.teller c.turn_to.ensures.log c.loop-teller.yielded
          i.logs;
      transfers =
          moved_map (λ t. t.transfers) (λ e. e.transfers) c.loop-teller.turned.items c.push_reserved.new.self.items
          c.turn_to.new.self c.push_reserved.ensures.items c.in-Some-next.errand c.turn_to.ensures.transfers _ _ _
          c.in-Some-next.ensures.items i.transfers;
      habits =
          moved_map (λ t. t.habits) (habits_on c.args.first) c.loop-teller.turned.items c.push_reserved.new.self.items
          c.turn_to.new.self c.push_reserved.ensures.items c.in-Some-next.errand
          (c.turn_to.ensures.habits ∙ c.habits-habits.ensures) _ _ _ c.in-Some-next.ensures.items i.habits;
      none =
          subst (All P) (sym c.push_reserved.ensures.items)
          (All-append P c.loop-teller.turned.items (c.turn_to.new.self ∷ []) i.none
          (All-cons P c.turn_to.new.self [] c.turn_to.ensures.none (All-nil P)));
      as_many = grind (arith, common_steps);
      left = one_less (length c.loop-teller.yielded) _ _ _ _ c.in-Some-next.errand i.left c.in-Some-next.ensures.items
          (length-append c.loop-teller.yielded (c.in-Some.teller ∷ []));
      counted = search rules;
      all_counted = one_fewer (into_iter_len c.loop-teller.teller-iterator) _ _ _ c.in-Some.teller
          c.in-Some.ensures.steps.0 c.in-Some.ensures.steps.1 i.all_counted;
      room = search rules;
    }

pub returns : goal.returns
returns g c =
    let i = c.loop-teller.invariant in
    let whole =
    all_taken c.loop-teller.yielded (into_iter_items c.loop-teller.teller-iterator) c.args.tellers.items
    (into_iter_len c.loop-teller.teller-iterator) i.so_far i.all_counted
    c.in-None.ensures.steps.0 in
    let many = ap (λ (l : List (Teller g.row.L.Denot)). length l) whole in
    let rest : into_iter_items c.loop-teller.errands ≡ [] =
    search (arith, none_of, into_iter_items, c.requires.as_many, i.left) in
    search (arith, append-nil)
