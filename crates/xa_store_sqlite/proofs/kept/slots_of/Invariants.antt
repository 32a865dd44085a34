use Rattle.xa_base.proofs.{◌≡◌, lookup, take}
use Rattle.xa_words.specs.{XidName, xid_eq}
use Rattle.xa_store_sqlite.specs.{NoBranchTwice, is_of_branch, first_place_from}
use Rattle.xa_store_sqlite.proofs.kept.slots_of.Given as goal

-- the branches in the first slots are noted
abbrev pub invariant-loop-slot : goal.invariant-loop-slot
invariant-loop-slot l =
    NoBranchTwice l.branches → (x : XidName)
    → lookup (xid_eq x) l.slots.entries ≡ first_place_from (is_of_branch x) 0 (take l.slot l.branches)
