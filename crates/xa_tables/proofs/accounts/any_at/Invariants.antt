use Rattle.xa_base.proofs.{◌≡◌, Bool, false, take, list_any, FnReturnsAt}
use Rattle.xa_tables.specs.{Account, passes_at}
use Rattle.xa_tables.proofs.accounts.any_at.Given as goal

-- none of the accounts at the places so far
abbrev pub invariant-loop-place : goal.invariant-loop-place
invariant-loop-place g l =
    (passes : Account → Bool) → ((a : Account) (b : Bool) → FnReturnsAt g.F.Fn l.test a b → b ≡ passes a)
    → list_any (λ place. passes_at passes l.accounts place) (take l.place-index l.held) ≡ false
