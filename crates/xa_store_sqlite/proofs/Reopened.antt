-- What a file has of tables, it has of what a reopening makes of them.
use Rattle.xa_base.proofs.{List, Bool, sym, ap, ◌∙◌}
use Rattle.std.specs.FinMap as finmap
use Rattle.xa_words.specs.{XidName}
use Rattle.xa_tables.specs.{Tables, reopened, state_of}
use Rattle.laws_tables.proofs.TwiceReopened.{again_the_same}
use Rattle.xa_store_sqlite.specs.{HasAllBut, Image}

pub has_reopened : (told : List XidName) (are_moved : Bool) (image : Image) (T : Tables)
    → HasAllBut told are_moved image T
    → HasAllBut told are_moved image (reopened T)
has_reopened told are_moved image T h = record {
  branches = λ x off. record {
    state = (h.branches x off).state ∙ sym (ap (λ U. state_of U x) (again_the_same T));
    sums = λ k. (h.branches x off).sums k ∙ sym (ap (λ U. finmap.get U.sums (x, k)) (again_the_same T));
  };
  keys = h.keys;
  values = h.values;
}
