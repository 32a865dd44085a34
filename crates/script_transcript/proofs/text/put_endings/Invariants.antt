use Rattle.xa_base.proofs.{◌≡◌, ◌++◌, take}
use Rattle.script_transcript.specs.{endings_text}
use Rattle.script_transcript.proofs.text.put_endings.Given as goal

-- the first endings are told
abbrev pub invariant-loop-ending : goal.invariant-loop-ending
invariant-loop-ending l =
    record {
      line : l.out.line ≡ l.fn.out.line ++ endings_text (take l.ending-index l.endings);
      whole : l.out.whole ≡ l.fn.out.whole;
    }
