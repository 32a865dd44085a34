-- What becomes of the branches once the state of one was changed in place.
use Rattle.std.specs.Prelude.{◌≡◌, Option, Some}
use Rattle.std.specs.Borrow.{LendsSo, MutBor, Fml}
use Rattle.std.specs.FinMap as map
use Rattle.xa_words.specs.Xid.{XidName}
use Rattle.xa_tables.specs.declared.state.State.{State}
use Rattle.xa_tables.specs.Views.{BranchTable}
use Rattle.xa_tables.specs.contracts.branches.Branches as branches_type
use Rattle.xa_tables.specs.contracts.state.State as state_type

-- n is b with x in state s: the same as b where x was in that state
abbrev pub HasState : BranchTable → XidName → State → BranchTable → Type 0
HasState b x s n = (n ≡ record b { states = map.insert b.states x s }) × (map.get b.states x ≡ Some s → n ≡ b)

-- x ends in the state that was written through r, and where there is no r the branches stay as they are
abbrev pub LendsState : MutBor BranchTable → XidName → Option (MutBor State) → Fml
LendsState b x r =
    LendsSo branches_type.the_row state_type.the_row b r
    (λ n s. (m : MutBor State) → r ≡ Some m → HasState b.now x s n) (λ n. n ≡ b.now)
