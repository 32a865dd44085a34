use Rattle.xa_base.proofs.{◌≡◌, false, list_any}
use Rattle.xa_tables.specs.{posted_by, is_broken_by}
use Rattle.xa_tables.proofs.PlaceLemmas.{IsChanging}
use Rattle.xa_tables.proofs.accounts.post_all.Given as goal

abbrev pub invariant-loop-place : goal.invariant-loop-place
invariant-loop-place l =
    (IsChanging (posted_by l.xid) l.held l.initial.accounts l.accounts l.place-index)
    × (list_any (λ a. is_broken_by a l.xid) l.accounts ≡ false)
