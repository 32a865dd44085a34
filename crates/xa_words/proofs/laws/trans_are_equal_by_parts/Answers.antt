use Rattle.xa_words.specs.{Decides-tran_eq}
use Rattle.xa_words.proofs.laws.trans_are_equal_by_parts.Goals as goal

pub returns : goal.returns
returns c = Decides-tran_eq
