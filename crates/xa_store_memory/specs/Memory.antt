-- What contracts see of a store in memory.
use Rattle.std.specs.Prelude.{◌≡◌, ℕ, ◌-◌, Bool, true, false, not, ◌&&◌, ◌||◌, if◌then◌else◌, nat_eq, nat_lt, nat_le}
use Rattle.std.specs.Prelude.{Option, None, Some, option_map, [], ◌∷◌, ◌++◌, length}
use Rattle.xa_words.specs.declared.request.Request.{Request}
use Rattle.xa_tables.specs.ManagerTables.{Tables}
use Rattle.xa_tables.specs.Managers.{Managed}
use Rattle.xa_tables.specs.Histories.{History, tables_after}
use Rattle.xa_tables.specs.Openings.{reopened}

-- a store in memory
pub record StoreView : Type 0 where
  -- the tables that are settled
  pub settled : Tables
  -- what it was told of since, in that order
  pub told : History
  -- it takes requests of the threads 1 to this one
  pub threads : ℕ
  -- for how many requests it has room between two settles
  pub room : ℕ
  -- how many more requests its manager can carry out
  pub spare : ℕ
  -- how many more settles succeed before one fails, if one is to fail
  pub failing : Option ℕ
  -- whether that one writes what it was to write, and only then fails
  pub keeps : Bool
  -- it has failed, and settles nothing any more
  pub is_failed : Bool

-- It knows the tables that what it was told of has made. One that has failed may be told of any: it settles none.
abbrev pub KnowsTables : StoreView → Tables → Type 0
KnowsTables s T = s.is_failed ≡ false → T ≡ tables_after s.told s.settled

-- a crash leaves what a reopening keeps of the tables that are settled
abbrev pub MayLeave : StoreView → Tables → Type 0
MayLeave s K = K ≡ reopened s.settled

-- a store that was told of nothing, for a manager that is as this one is
abbrev pub store_of : Managed → ℕ → StoreView
store_of twin room =
    record {
      settled = twin.tables;
      told = [];
      threads = twin.threads;
      room = room;
      spare = twin.room;
      failing = None;
      keeps = false;
      is_failed = false;
    }

-- it was told of something since it was settled, or has failed
abbrev pub owes : StoreView → Bool
owes s = s.is_failed || not (nat_eq (length s.told) 0)

-- it has room for one more request, and takes those of this thread
abbrev pub fits : StoreView → Request → Bool
fits s r = nat_lt (length s.told) s.room && (nat_le 1 r.thread && nat_le r.thread s.threads)

-- nothing is settled any more
abbrev pub store_failed : StoreView → StoreView
store_failed s = record s { is_failed = true }

-- a request that fits is kept, and at another one the store fails
abbrev pub after_tell : Request → StoreView → StoreView
after_tell r s = if fits s r then record s { told = s.told ++ r ∷ [] } else store_failed s

-- it hasn't failed, and its manager has room for all that it was told of
abbrev pub can_write : StoreView → Bool
can_write s = not s.is_failed && nat_le (length s.told) s.spare

-- the next settle is the one that is to fail
abbrev pub is_due : Option ℕ → Bool
is_due None = false
is_due (Some settles) = nat_eq settles 0

-- one settle less is to come before the one that fails
abbrev pub counted_down : StoreView → StoreView
counted_down s = record s { failing = option_map (λ settles. settles - 1) s.failing }

-- all that it was told of is carried out
abbrev pub written : StoreView → StoreView
written s =
    record s { settled = tables_after s.told s.settled; told = []; spare = s.spare - length s.told }

-- the next settle succeeds
abbrev pub settles : StoreView → Bool
settles s = can_write s && not (is_due s.failing)

-- A settle writes all or nothing: nothing where the store can't write it, and at the settle that is to fail what the
-- store is to leave then. Where it doesn't succeed, the store has failed.
abbrev pub after_settle : StoreView → StoreView
after_settle s =
    if not (can_write s) then store_failed s
    else if is_due s.failing then store_failed (if s.keeps then written s else s)
    else written (counted_down s)

-- its twin is reopened, for so many threads and requests, and what isn't settled is gone
abbrev pub reopened_for : ℕ → ℕ → StoreView → StoreView
reopened_for threads room s =
    record s { settled = reopened s.settled; told = []; threads = threads; spare = room }
