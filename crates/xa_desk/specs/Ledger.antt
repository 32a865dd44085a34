-- How a ledger keeps what contracts see of it.
use Rattle.std.specs.Prelude.{◌≡◌, ◌≤◌, length, vec_capacity}
use Rattle.xa_desk.specs.LedgerViews.{LedgerView, learnt_shut}
use Rattle.xa_desk.specs.declared.ledger.Ledger.TheInside.{Inside}

-- what contracts see
abbrev pub ledger_of : Inside → LedgerView
ledger_of a = record {
  carries_async = a.carries_async;
  plan = a.plan;
  sent = a.sent.items;
  collected = a.collected.items;
}

-- no more was sent than planned, there is room for all that is planned, and a Shut is remembered
pub record IsLedger (a : Inside) : Type 0 where
  pub planned : length a.sent.items ≤ a.plan
  pub sent_room : a.plan ≤ vec_capacity a.sent
  pub collected_room : a.plan ≤ vec_capacity a.collected
  pub shut : a.learnt_shut ≡ learnt_shut (ledger_of a)
