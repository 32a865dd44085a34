use Rattle.xa_base.proofs.{◌≡◌, ◌++◌, take}
use Rattle.script_transcript.specs.{votes_text}
use Rattle.script_transcript.proofs.text.put_votes.Given as goal

-- the first votes are told
abbrev pub invariant-loop-vote : goal.invariant-loop-vote
invariant-loop-vote l =
    record {
      line : l.out.line ≡ l.fn.out.line ++ votes_text (take l.vote-index l.votes);
      whole : l.out.whole ≡ l.fn.out.whole;
    }
