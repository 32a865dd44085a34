-- What a desk's calls do as they look at the lane that its completions come by.
use Rattle.std.specs.Prelude.{◌≡◌, ℕ, ◌+◌, [], ◌∷◌, ◌++◌, length, Option, Some, None, MatchOption}
use Rattle.std.specs.FinMap as finmap
use Rattle.xa_words.specs.declared.code.Code.{Code}
use Rattle.xa_words.specs.declared.request.Completion.{Completion}
use Rattle.xa_lane.specs.declared.parcel.Taken.{Taken}
use Rattle.xa_lane.specs.declared.parcel.Taken.TheVariants.{Item, EndOf, Empty}
use Rattle.xa_lane.specs.Ends.{Took, counted}
use Rattle.xa_desk.specs.declared.operation.Operation.{Operation}
use Rattle.xa_desk.specs.declared.found.Found.{Found}
use Rattle.xa_desk.specs.declared.found.Found.TheVariants.{Nothing, Other, Its}
use Rattle.xa_desk.specs.DeskViews.{DeskView, IsOut, IsLeast, operation_of, completed, drained_code, outstanding}
use Rattle.xa_desk.specs.DeskViews.{ready_at}

-- a completion that was taken is drained where it is the first for an outstanding operation, and else changes nothing
pub data Drains (old : DeskView) (c : Completion) (new : DeskView) : Type 0 where
  first : IsOut old.ledgers (operation_of c) → drained_code (operation_of c) old.drained ≡ None
      → new ≡ record old { drained = old.drained ++ c ∷ [] } → Drains old c new
  other : (IsOut old.ledgers (operation_of c) → drained_code (operation_of c) old.drained ≡ None → ⊥) → new ≡ old
      → Drains old c new

-- a quiet moment: a take found the lane empty
abbrev pub after_quiet : DeskView → DeskView
after_quiet d = record d { drained_then = length d.drained }

-- what a take of the completion lane does to a desk, by what was taken: a completion may be drained, an end mark
-- changes nothing else, and nothing taken is a quiet moment
abbrev pub Draws : DeskView → Taken Completion → DeskView → Type 0
Draws old (Item s c) new =
    Took old.completions (Item s c) new.completions × Drains (record old { completions = new.completions }) c new
Draws old (EndOf s) new =
    Took old.completions (EndOf s) new.completions × (new ≡ record old { completions = new.completions })
Draws old Empty new =
    Took old.completions Empty new.completions × (new ≡ after_quiet (record old { completions = new.completions }))

-- a completion was taken as the operation was waited for: it is drained, and where the operation has a code then, the
-- operation is collected
pub record CollectsTaken (old : DeskView) (c : Completion) (o : Operation) (new : DeskView)
    (code : Option Code) : Type 0 where
  pub mid : DeskView
  pub drains : Drains old c mid
  pub code_ : code ≡ drained_code o mid.drained
  pub rest : MatchOption code (new ≡ mid) (λ x. (new ≡ completed mid o x)
      × (outstanding new.ledgers + 1 ≡ outstanding mid.ledgers))

-- takes of the completion lane took old to new
pub data Pops (old : DeskView) : DeskView → Type 0 where
  start : (new : DeskView) → new ≡ old → Pops old new
  drawn : (now new : DeskView) → Pops old now → (taken : Taken Completion) → Draws now taken new → Pops old new

-- nothing but such takes was done, so the ledgers, what is kept and the lanes stay
pub record Looks (old new : DeskView) : Type 0 where
  pub pops : Pops old new
  pub rest : new
      ≡ record old {
        drained = new.drained;
        drained_then = new.drained_then;
        completions = record old.completions {
          taken = new.completions.taken;
          quiet = new.completions.quiet;
          taken_then = new.completions.taken_then;
        };
      }

-- the last of these takes found the lane empty, which its end counts as a quiet moment
pub record EndsQuiet (old new : DeskView) : Type 0 where
  pub before : DeskView
  pub looks : Looks old before
  pub quiet : Draws before Empty new

-- and it was the only one of these takes that did
pub record LooksOnce (old new : DeskView) : Type 0 where
  pub quiet : EndsQuiet old new
  pub once : new.completions.quiet ≡ counted old.completions.quiet

-- after some takes the drained completion of the outstanding operation was collected, with this code
pub record Collects (old new : DeskView) (o : Operation) (code : Code) : Type 0 where
  pub before : DeskView
  pub looks : Looks old before
  pub out : IsOut before.ledgers o
  pub drained : drained_code o before.drained ≡ Some code
  pub collected : new ≡ completed before o code
  pub fewer : outstanding new.ledgers + 1 ≡ outstanding old.ledgers

-- what a take does to a desk as operation o is waited for, by what it found: the operation's code wasn't drained, or
-- the operation is collected with it
abbrev pub DrawsFor : DeskView → Operation → Found → DeskView → Type 0
DrawsFor old o Nothing new = Draws old Empty new
DrawsFor old o Other new =
    (taken : Taken Completion) × Draws old taken new × (new.completions.quiet ≡ old.completions.quiet)
    × (drained_code o new.drained ≡ None)
DrawsFor old o (Its code) new =
    (mid : DeskView) × (taken : Taken Completion) × Draws old taken mid
    × (mid.completions.quiet ≡ old.completions.quiet) × (drained_code o mid.drained ≡ Some code)
    × (new ≡ completed mid o code) × (outstanding new.ledgers + 1 ≡ outstanding mid.ledgers)

-- the drained completion of the operation that was kept under the number was collected, and the number is free
pub record TakesKept (old new : DeskView) (number : ℕ) (code : Code) : Type 0 where
  pub operation : Operation
  pub kept : finmap.get old.kept number ≡ Some operation
  pub out : IsOut old.ledgers operation
  pub drained : drained_code operation old.drained ≡ Some code
  pub taken : new ≡ record (completed old operation code) { kept = finmap.remove old.kept number }
  pub fewer : outstanding new.ledgers + 1 ≡ outstanding old.ledgers

-- the same after some takes
pub record CollectsKept (old new : DeskView) (number : ℕ) (code : Code) : Type 0 where
  pub before : DeskView
  pub looks : Looks old before
  pub takes : TakesKept before new number code

-- after takes up to a quiet moment the least ready number of m was collected
pub record CollectsLeast (old new : DeskView) (m number : ℕ) (code : Code) : Type 0 where
  pub before : DeskView
  pub quiet : EndsQuiet old before
  pub least : IsLeast (ready_at before m) number
  pub takes : TakesKept before new number code
