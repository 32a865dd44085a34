use Rattle.xa_base.proofs.{rules, ◌≡◌, ℕ, ◌+◌, Bool, List, [], ◌∷◌, ◌++◌, length, length-append, map, append_assoc, sym}
use Rattle.xa_base.proofs.{ap, ◌∙◌, arith, length-map, map-append, into_iter_items, into_iter_len}
use Rattle.xa_crew.specs.{Attended}
use Rattle.xa_crew_again.specs.{WithScan}
use Rattle.demo_bank.specs.{Teller, ReadsBack}
use Rattle.demo_bank_days.proofs.Went.{one_back_more, all_taken, one_fewer}
use Rattle.demo_bank_days.proofs.day.all_off_work.Goals as goal

pub loop-attended-preserved : goal.loop-attended-preserved
loop-attended-preserved g c =
    let i = c.loop-attended.invariant in
    let Back : ℕ → Teller g.row.L.Denot → g.row.L.Denot → Bool → Type 0 =
    ReadsBack g.L.DecisionLog.state g.L.DecisionRecords.knows g.L.DecisionLog.loses g.L.ReopenLog.reopens in
    let teller_of : Attended (WithScan (Teller g.row.L.Denot)) → Teller g.row.L.Denot = λ a. a.client.client in
    let ys : List (Attended (WithScan (Teller g.row.L.Denot))) = c.loop-attended.yielded in
    let own : Teller g.row.L.Denot = c.in-Some.attended.client.client in
    let log : g.row.L.Denot = c.read_back-teller.result.0.log in
    let has : Bool = c.read_back-teller.result.1 in
    let number : c.loop-attended.thread + 1 ≡ 1 + length (map teller_of ys) = search (arith, length-map, i.counted) in
    let one_more : length (ys ++ c.in-Some.attended ∷ []) ≡ length ys + 1 =
    length-append ys (c.in-Some.attended ∷ []) in
    let outcomes_are : c.replace-outcomes.result ≡ own.outcomes = search (arith, rules) in
    let its : Back (1 + length (map teller_of ys)) own log has = rw number at c.read_back-teller.ensures.reads_back in
    let logs_are : map (λ (t : Teller g.row.L.Denot). t.log) c.push_reserved-in-loop-attended-2.new.self.items ≡ map
    (λ (t : Teller g.row.L.Denot). t.log) c.loop-attended.evening.tellers.items ++ log ∷ [] =
    ap (map (λ (t : Teller g.row.L.Denot). t.log)) c.push_reserved-in-loop-attended-2.ensures.items
    ∙ map-append (λ (t : Teller g.row.L.Denot). t.log) c.loop-attended.evening.tellers.items _ in
    record {
      so_far = append_assoc ys (c.in-Some.attended ∷ []) _ ∙ ap (λ l. ys ++ l) (sym c.in-Some.ensures.steps.0)
          ∙ i.so_far;
      logs = search (
        arith,
        map-append,
        one_back_more,
        c.push_reserved-in-loop-attended.ensures.items,
        c.loop-attended.evening.found.items,
        i.logs,
      );
      counted = (let counted = i.counted in omega (arith, one_more, counted));
      all_counted = one_fewer (into_iter_len c.loop-attended.attended-iterator) _ _ _ c.in-Some.attended
          c.in-Some.ensures.steps.0 c.in-Some.ensures.steps.1 i.all_counted;
      as_many_found = search (
        arith,
        length-append,
        c.push_reserved-in-loop-attended.ensures.items,
        c.loop-attended.evening.found.items,
        i.as_many_found,
      );
      room_left = search rules;
      outcomes = search (arith, map-append, i.outcomes);
      as_many = search (
        arith,
        length-map,
        length-append,
        c.push_reserved-in-loop-attended-2.new.self.items,
        c.loop-attended.evening.tellers.items,
        i.as_many,
      );
      room = search rules;
      room_too = search rules;
    }

-- all clients were taken
pub returns : goal.returns
returns g c =
    let i = c.loop-attended.invariant in
    let whole =
    all_taken c.loop-attended.yielded (into_iter_items c.loop-attended.attended-iterator) c.args.clients.items
    (into_iter_len c.loop-attended.attended-iterator) i.so_far
    i.all_counted c.in-None.ensures.steps.0 in
    search (arith, g.L.DecisionLog.state, g.L.DecisionRecords.knows, g.L.DecisionLog.loses)
