use Rattle.xa_base.proofs.{◌≡◌, ◌-◌, true, take, drop, list_all, rules, arith, take_rest}
use Rattle.script_grammar.specs.{is_script_byte}
use Rattle.script_grammar.proofs.Lines.{block_more, block_bad, block_last}
use Rattle.script_grammar.proofs.read.are_script_blocks.Goals as goal

pub returns-then-not-are_script_bytes : goal.returns-then-not-are_script_bytes
returns-then-not-are_script_bytes c = search (arith, list_all, block_bad, c.loop-start.start, c.args.line.now)

pub loop-start-preserved : goal.loop-start-preserved
loop-start-preserved c =
    let good : list_all is_script_byte (take 8 (drop c.loop-start.start c.args.line.now)) ≡ true = search rules in
    record {
      judged = block_more is_script_byte c.args.line.now c.loop-start.start 8 c.loop-start.invariant.judged good;
      in_range = omega arith;
    }

pub returns : goal.returns
returns c = search (arith, list_all, take_rest, block_last, c.args.line.now, c.loop-start.start)
