use Rattle.xa_base.proofs.{◌≡◌, ◌++◌, length, take, flat_map, codes, decimal}
use Rattle.script_transcript.specs.{xid_text}
use Rattle.script_transcript.proofs.text.put_listed.Given as goal

-- how many, and the first of them
abbrev pub invariant-loop-xid : goal.invariant-loop-xid
invariant-loop-xid l = record {
  line : l.out.line ≡ (l.fn.out.line ++ decimal (length l.xids)) ++ flat_map (λ x. codes " " ++ xid_text x)
      (take l.xid-index l.xids);
  whole : l.out.whole ≡ l.fn.out.whole;
}
