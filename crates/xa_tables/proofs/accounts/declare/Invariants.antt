use Rattle.xa_base.proofs.{◌≡◌, ◌+◌, ◌≤◌, length, map, take, vec_capacity}
use Rattle.xa_tables.specs.{AreIndexed, account_of}
use Rattle.xa_tables.proofs.accounts.declare.Given as goal

-- the accounts of the keys so far, each with its place, and room for the others
abbrev pub invariant-loop-place : goal.invariant-loop-place
invariant-loop-place l =
    (l.accounts.items ≡ map account_of (take l.place l.declared)) × (length l.declared ≤ l.places.spare + l.place)
    × AreIndexed l.places.places l.accounts.items
    × (length l.declared ≤ vec_capacity l.accounts)
