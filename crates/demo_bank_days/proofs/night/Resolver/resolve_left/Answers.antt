use Rattle.xa_base.proofs.{sym, map-map, List, ap, ◌∙◌, map}
use Rattle.xa_log.specs.{all_records}
use Rattle.demo_bank.specs.{Teller}
use Rattle.demo_bank_days.proofs.night.Resolver.resolve_left.Goals as goal

pub returns-in-Ok-clause-came : goal.returns-in-Ok-clause-came
returns-in-Ok-clause-came g c =
    let state = g.L.DecisionLog.state in
    let records =
    ap (λ (ts : List (Teller g.row.L.Denot)). all_records (map (λ t. (state t.log).records) ts))
    c.as_slice-logs.ensures.value
    ∙ ap all_records
    (sym (map-map (λ (l : g.row.L.Denot). (state l).records) (λ (t : Teller g.row.L.Denot). t.log)
    c.args.self.now.tellers.items)) in (
      rw c.as_slice-logs.ensures.value at (c.is_known.ensures.0 c.if-not-is_known.false),
      rw records at c.in-Ok.ensures.trace,
    )
