-- The end of a desk: what is outstanding is collected and told, and then the desk ends.
use Rattle.std.specs.Prelude.{◌≡◌, ℕ, None, List, [], ◌∷◌, ◌++◌}
use Rattle.std.specs.List.{range_with_len}
use Rattle.std.specs.FinMap as map
use Rattle.xa_words.specs.declared.code.Code.{Code}
use Rattle.xa_desk.specs.DeskViews.{DeskView}
use Rattle.xa_desk.specs.Ended.{EndedView, Ends}
use Rattle.xa_desk.specs.GoingOn.{GoesOn}
use Rattle.xa_desk.specs.Kept.{HoldsNone}
use Rattle.xa_calls.specs.Completing.{CollectsRedeemed}
use Rattle.xa_base.specs.Lists.{Chain}

-- What was told of a desk: the numbers of handles with their codes.
abbrev pub HandleCodes : Type 0
HandleCodes = List (ℕ × Code)

-- A desk, and what was told of it.
abbrev pub DeskWithCodes : Type 0
DeskWithCodes = DeskView × HandleCodes

-- What the desk keeps under the number is collected and told; where it keeps nothing there, nothing is done.
pub data EndsNumber (number : ℕ) (old new : DeskWithCodes) : Type 0 where
  kept : (c : Code) → CollectsRedeemed old.0 new.0 number c → new.1 ≡ old.1 ++ (number, c) ∷ []
      → EndsNumber number old new
  free : map.get old.0.kept number ≡ None → new ≡ old → EndsNumber number old new

-- The same for the number of each handle, in rising order.
abbrev pub EndsNumbers : DeskWithCodes → DeskWithCodes → Type 0
EndsNumbers first last = Chain EndsNumber first (range_with_len 1 first.0.handles) last

-- The same, so that nothing is kept, and then the desk ends. By all of that it went on.
pub record EndsDesk (old : DeskView) (told : HandleCodes) (ended : EndedView) (told' : HandleCodes) : Type 0 where
  pub emptied : DeskView
  pub collects : EndsNumbers (old, told) (emptied, told')
  pub none : HoldsNone emptied
  pub goes_on : GoesOn old emptied
  pub ends : Ends emptied ended
