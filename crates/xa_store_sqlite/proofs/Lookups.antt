-- Where things stand.
use Rattle.xa_base.proofs.{◌≡◌, ℕ, suc, List, [], ◌∷◌, Option, None, Some, is_some, lookup, refl, arith}
use Rattle.xa_words.specs.{XidName, xid_eq}
use Rattle.xa_store_sqlite.specs.{StoredBranch, is_of_branch, left_in_slots, first_place_from}

-- a branch stands in a slot exactly if it has a state
pub found_alike : (x : XidName) (bs : List (Option StoredBranch)) (n : ℕ)
    → is_some (first_place_from (is_of_branch x) n bs) ≡ is_some (lookup (xid_eq x) (left_in_slots bs))
found_alike x [] n = refl
found_alike x (None ∷ bs) n = found_alike x bs (suc n)
found_alike x (Some b ∷ bs) n = grind (arith, found_alike x bs (suc n))
