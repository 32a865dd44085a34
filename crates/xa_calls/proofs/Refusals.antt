-- What a desk's call answers, by its refusal.
use Rattle.xa_base.proofs.{arith, rules, ◌≡◌, Option, Some, None, Result, Ok, Err, Bool, true, not, ◌&&◌, is_some}
use Rattle.std.proofs.Common.{IsOk}
use Rattle.xa_words.specs.{Code}
use Rattle.xa_desk.specs.{Refused}

-- the refusal of a synchronous request that was answered, and of one that wasn't
pub no_refusal : (answer : Result Code Refused) (code : Code) (r : Option Refused) → answer ≡ Ok code
    → ((why : Refused) → r ≡ Some why → answer ≡ Err why)
    → r ≡ None
no_refusal answer code r is same = search (arith, rules)

pub its_refusal : (answer : Result Code Refused) (why : Refused) (r : Option Refused) → answer ≡ Err why
    → ((w : Refused) → r ≡ Some w → answer ≡ Err w)
    → (r ≡ None → IsOk answer) → r ≡ Some why
its_refusal answer why r is same never = search (arith, rules)

-- an asynchronous call never waits, nor does one that is refused
pub later_never_waits : (later some : Bool) → later ≡ true → (not later && not some) ≡ true → ⊥
later_never_waits later some is waits = search (arith, rules)

pub refused_never_waits : (later : Bool) (r : Option Code) (why : Code) → r ≡ Some why
    → (not later && not (is_some r)) ≡ true → ⊥
refused_never_waits later r why is waits = search (arith, rules)
