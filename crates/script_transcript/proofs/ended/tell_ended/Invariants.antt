use Rattle.xa_base.proofs.{◌≡◌, ◌++◌, take}
use Rattle.script_transcript.specs.{all_ended}
use Rattle.script_transcript.proofs.ended.tell_ended.Given as goal

-- the first ones were told
abbrev pub invariant-loop-handle : goal.invariant-loop-handle
invariant-loop-handle l =
    record { told : l.transcript ≡ l.fn.transcript ++ all_ended l.thread (take l.handle-index l.outstanding) }
