use Rattle.xa_words.specs.{Decides-xid_eq}
use Rattle.xa_words.proofs.laws.xids_are_equal_by_parts.Goals as goal

pub returns : goal.returns
returns c = Decides-xid_eq
