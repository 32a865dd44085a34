-- Marks on places, and what they say of the operations that are kept.
use Rattle.std.specs.Prelude.{◌≡◌, ℕ, Bool, nat_eq, List, Option, None, is_some, slice_index_or}
use Rattle.std.specs.Int.{bit_at}
use Rattle.xa_words.specs.declared.request.Completion.{Completion}
use Rattle.xa_desk.specs.declared.marks.Marks.{Marks}
use Rattle.xa_desk.specs.declared.operation.Operation.{Operation}
use Rattle.xa_desk.specs.DeskViews.{ready_with}

-- the place is marked
abbrev pub is_marked : Marks → ℕ → Bool
is_marked marks place = nat_eq (bit_at marks.bits place) 1

-- the marked places are those that have an operation
abbrev pub AreKept : Marks → List (Option Operation) → Type 0
AreKept marks table = (k : ℕ) → is_marked marks k ≡ is_some (slice_index_or table k None)

-- the marked places are those that have an operation whose completion was drained
abbrev pub AreReady : Marks → List (Option Operation) → List Completion → Type 0
AreReady marks table drained = (k : ℕ) → is_marked marks k ≡ ready_with drained 0 (slice_index_or table k None)
