-- Lemmas of branch names.
use Rattle.xa_base.proofs.{◌≡◌, true, refl}
use Rattle.xa_words.specs.{XidName, xid_eq, Decides-xid_eq}

-- an xid is itself
pub xid_self : (x : XidName) → xid_eq x x ≡ true
xid_self x = (Decides-xid_eq x x).1 refl
