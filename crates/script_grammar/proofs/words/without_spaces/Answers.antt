use Rattle.xa_base.proofs.{take_rest}
use Rattle.script_grammar.proofs.Lines.{plain_rest}
use Rattle.script_grammar.proofs.words.without_spaces.Goals as goal

pub returns-clause-plain : goal.returns-clause-plain
returns-clause-plain c = λ plain. rw take_rest (plain_rest c.loop-start.start c.args.line.now plain)
