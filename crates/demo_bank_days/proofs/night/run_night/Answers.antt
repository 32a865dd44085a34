use Rattle.std.proofs.lemmas.Result.{IfErr-at_err}
use Rattle.xa_base.proofs.{arith, rules, Err, ◌≡◌, List, [], ◌∷◌, ◌++◌, refl}
use Rattle.xa_crew.specs.{Ran}
use Rattle.xa_crew_again.specs.{Unsettled, WithScan, HasRunAgain, IfUnsettled}
use Rattle.demo_bank_days.specs.{Resolver, NoMemory, ResolvesBy}
use Rattle.demo_bank_days.proofs.Nightly.{left_law, night_law, tellers_law, untouched_law}
use Rattle.demo_bank_days.proofs.night.run_night.Goals as goal

pub returns-in-Some : goal.returns-in-Some
returns-in-Some g c =
    let state = g.L.DecisionLog.state in
    let knows = g.L.DecisionRecords.knows in
    let s = c.args.settled in
    let again = c.args.again.now in
    let r : Resolver g.row.L.Denot =
    record { alloc = c.args.alloc; tellers = c.args.tellers; resolved = Err NoMemory } in
    let run = c.in-Ok-run_clients_again_in_turns.run' in
    let given : c.push_reserved.new.self.items ≡ r ∷ [] = search (arith, rules) in
    let ran =
    rw given at c.in-Ok-run_clients_again_in_turns.ensures.ran in
    let is : run.clients.items ≡ c.pop.new.self.items ++ c.in-Some.attended ∷ [] = c.in-Some.ensures.items in
    let whole = c.is_settled.ensures.whole in
    let goes_on = c.reopened_openings_go_on_from_what_was_left.ensures in
    record {
      night = night_law state knows s again r run.clients.items run.settled ran c.requires whole goes_on
          c.in-Some.attended c.pop.new.self.items is;
      unresolved = left_law state knows s again r run.clients.items run.settled ran c.requires whole goes_on
          c.in-Some.attended c.pop.new.self.items is;
      untouched = untouched_law state knows s again r run.clients.items run.settled ran c.requires whole goes_on
          c.in-Some.attended c.pop.new.self.items is;
      tellers = tellers_law state knows s again r run.clients.items run.settled ran c.requires whole goes_on
          c.in-Some.attended c.pop.new.self.items is;
      unsettled = tt;
    }

pub returns-in-Err-Unsettled-clause-unsettled : goal.returns-in-Err-Unsettled-clause-unsettled
returns-in-Err-Unsettled-clause-unsettled g c =
    let r : Resolver g.row.L.Denot =
    record { alloc = c.args.alloc; tellers = c.args.tellers; resolved = Err NoMemory } in
    let P : List (Resolver g.row.L.Denot) → Ran (WithScan (Resolver g.row.L.Denot)) → Type 0 =
    HasRunAgain (ResolvesBy g.L.DecisionLog.state g.L.DecisionRecords.knows) c.args.settled c.args.again.now in
    let is : c.run_clients_again_in_turns.result ≡ Err (Unsettled c.in-Err-Unsettled.ran) = cc in
    let given : c.push_reserved.new.self.items ≡ r ∷ [] = search (arith, rules) in (
      r,
      refl,
      rw given at
          (IfErr-at_err (IfUnsettled (P c.push_reserved.new.self.items)) is
          c.run_clients_again_in_turns.ensures.unsettled),
    )
