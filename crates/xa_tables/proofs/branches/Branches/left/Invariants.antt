use Rattle.xa_base.proofs.{◌≡◌, ◌++◌, Some, filter, keys_of}
use Rattle.xa_tables.specs.{is_left_in}
use Rattle.xa_tables.proofs.branches.Branches.left.Given as goal

-- what was taken, followed by what is left of the rest
abbrev pub invariant-loop-xid : goal.invariant-loop-xid
invariant-loop-xid l =
    keys_of (filter (λ e. is_left_in (Some e.1)) l.initial.xid-iterator) ≡ l.left.items ++ keys_of
    (filter (λ e. is_left_in (Some e.1)) l.xid-iterator)
