use Rattle.xa_base.proofs.{from_entries, spare, hash_map_len}
use Rattle.xa_log_file.proofs.Places.{IsAnew}
use Rattle.xa_log_file.proofs.slot_table.shut_all.Given as goal

abbrev pub invariant-loop-place : goal.invariant-loop-place
invariant-loop-place l =
    IsAnew l.place l.fn.slots.items l.slots.items (from_entries l.places.entries) (hash_map_len l.places)
    (spare l.places)
