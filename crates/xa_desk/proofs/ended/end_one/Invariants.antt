use Rattle.xa_base.proofs.{◌≡◌, ℕ}
use Rattle.xa_desk.specs.{Idles, found_full}
use Rattle.xa_desk.proofs.ended.end_one.Given as goal

-- the lane was found full some times, with an idle after each
abbrev pub invariant-loop : goal.invariant-loop
invariant-loop g l = record {
  fulls : (n : ℕ) × (l.sender ≡ found_full n l.fn.sender) × Idles (g.I.Idle.leads_by l.manager) n l.initial.idle l.idle;
  idled : g.I.Idle.leads l.initial.idle l.idle;
}
