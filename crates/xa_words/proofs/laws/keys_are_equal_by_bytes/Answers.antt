use Rattle.xa_words.specs.{Decides-key_eq}
use Rattle.xa_words.proofs.laws.keys_are_equal_by_bytes.Goals as goal

pub returns : goal.returns
returns c = Decides-key_eq
