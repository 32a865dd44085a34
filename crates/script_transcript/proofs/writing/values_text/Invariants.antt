use Rattle.xa_base.proofs.{◌≡◌, [], take}
use Rattle.script_transcript.specs.{values_text}
use Rattle.script_transcript.proofs.writing.values_text.Given as goal

-- the first values are told
abbrev pub invariant-loop-value : goal.invariant-loop-value
invariant-loop-value l =
    record { line : l.text.line ≡ values_text (take l.value-index l.values); whole : l.text.whole ≡ [] }
