use Rattle.xa_base.proofs.{◌≡◌, ◌++◌, take}
use Rattle.script_transcript.specs.{outcomes_text}
use Rattle.script_transcript.proofs.text.put_outcomes.Given as goal

-- the first outcomes are told
abbrev pub invariant-loop-outcome : goal.invariant-loop-outcome
invariant-loop-outcome l =
    record {
      line : l.out.line ≡ l.fn.out.line ++ outcomes_text (take l.outcome-index l.outcomes);
      whole : l.out.whole ≡ l.fn.out.whole;
    }
