use Rattle.std.proofs.Common.{◌≡◌, ◌+◌, length, All}
use Rattle.std.specs.Vec.Iter.{into_iter_items}
use Rattle.xa_log_file.specs.declared.condition.Condition.TheVariants.{Ready}
use Rattle.demo_accounts.proofs.day.close.Given as goal

-- there is a log of each teller that is past, and each takes records
abbrev pub invariant-loop-attended : goal.invariant-loop-attended
invariant-loop-attended g l = record {
  counted : length l.logs.items + length (into_iter_items l.attended-iterator) ≡ length l.fn.clients.items;
  ready : All (λ log. log.condition ≡ Ready) l.logs.items;
}
