use Rattle.xa_base.proofs.{◌≡◌, ◌<◌, ◌^◌, take, true}
use Rattle.script_grammar.specs.{all_digits, decimal_value}
use Rattle.script_grammar.proofs.words.number_of.Given as goal

abbrev pub invariant-loop-b : goal.invariant-loop-b
invariant-loop-b l =
    record {
      digits : all_digits (take l.b-index l.word) ≡ true;
      value : l.value ≡ decimal_value (take l.b-index l.word);
      small : l.value < 10 ^ l.b-index;
    }
