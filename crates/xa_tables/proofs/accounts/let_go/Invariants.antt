use Rattle.xa_base.proofs.{◌≡◌, Bool, FnReturnsAt}
use Rattle.xa_words.specs.{XidName}
use Rattle.xa_tables.specs.{kept_where}
use Rattle.xa_tables.proofs.PlaceLemmas.{IsChanging}
use Rattle.xa_tables.proofs.accounts.let_go.Given as goal

abbrev pub invariant-loop-place : goal.invariant-loop-place
invariant-loop-place g l =
    (keep : XidName → Bool) → ((x : XidName) (b : Bool) → FnReturnsAt g.F.Fn l.keeps x b → b ≡ keep x)
    → IsChanging (kept_where keep) l.held l.initial.accounts l.accounts l.place-index
