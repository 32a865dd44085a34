use Rattle.xa_base.proofs.{◌≡◌, ◌++◌, List}
use Rattle.xa_words.specs.{TranName}
use Rattle.xa_log_shared.specs.{AsksToForgetAll, others}
use Rattle.xa_log_shared.proofs.client.forget_others.Given as goal

abbrev pub invariant-loop-tran : goal.invariant-loop-tran
invariant-loop-tran g l =
    (trans : List TranName) × (trans ++ others l.trans l.tran-iterator ≡ others l.trans l.records.entries)
    × AsksToForgetAll trans l.initial.asks l.asks
