use Rattle.xa_base.proofs.{◌≡◌, ℕ}
use Rattle.xa_desk.specs.{after_fulls, Idles}
use Rattle.xa_desk.proofs.pump.send_waiting.Given as goal

-- the lane was found full some times, with an idle after each
abbrev pub invariant-loop : goal.invariant-loop
invariant-loop g l = record {
  fulls : (n : ℕ) × (l.book ≡ after_fulls n l.initial.book l.manager) × Idles (g.I.Idle.leads_by l.manager) n
      l.initial.idle l.idle;
  idled : g.I.Idle.leads l.initial.idle l.idle;
}
