use Rattle.xa_base.proofs.{◌≡◌, take, list_all}
use Rattle.script_grammar.specs.{is_name_byte}
use Rattle.script_grammar.proofs.words.all_name_bytes.Given as goal

abbrev pub invariant-loop-b : goal.invariant-loop-b
invariant-loop-b l = l.good ≡ list_all is_name_byte (take l.b-index l.bytes)
