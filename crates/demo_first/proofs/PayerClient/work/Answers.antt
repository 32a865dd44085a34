use Rattle.std.proofs.Common.{rules}
use Rattle.demo_first.proofs.PayerClient.work.Goals as goal

-- a transfer keeps them, each by a search of its own
pub loop-number-preserved : goal.loop-number-preserved
loop-number-preserved g c = record { goes_on = search rules; kept = search rules; idled = search rules }
