-- How a desk's slots, its table of kept operations and its list of drained completions go together.
use Rattle.std.specs.Prelude.{◌≡◌, ℕ, suc, ◌+◌, ◌-◌, ◌<◌, ◌≤◌, true, nat_eq, cond, List, [], ◌∷◌, ◌++◌, length, map}
use Rattle.std.specs.Prelude.{Option, Some, None, is_some, slice_get, slice_index_or}
use Rattle.std.specs.List.{sum_by, IsDistinct}
use Rattle.std.specs.Ordering.{nat_cmp}
use Rattle.std.specs.FinMap as finmap
use Rattle.slab.specs.Slab.{Slab, get, slab_len, Updates, entries_from}
use Rattle.xa_words.specs.declared.code.Code.{Code}
use Rattle.xa_words.specs.declared.request.Completion.{Completion}
use Rattle.xa_desk.specs.declared.operation.Operation.{Operation}
use Rattle.xa_desk.specs.declared.operation.Slot.{Slot}
use Rattle.xa_desk.specs.LedgerViews.{LedgerView, numbers, is_collected}
use Rattle.xa_desk.specs.DeskViews.{IsKnown, IsSent, IsOut, ledger, outstanding, drained_code}

-- a slot has the operation
pub record HasSlot (s : Slab Slot) (o : Operation) : Type 0 where
  pub key : ℕ
  pub slot : Slot
  pub found : get s key ≡ Some slot
  pub names : slot.operation ≡ o

-- a slot has the operation, kept under this number
pub record HasKept (s : Slab Slot) (o : Operation) (number : ℕ) : Type 0 where
  pub key : ℕ
  pub slot : Slot
  pub found : get s key ≡ Some slot
  pub names : slot.operation ≡ o
  pub handle : slot.handle ≡ number

-- the numbers collected from a manager are apart, and were sent
pub record IsOrderly (a : LedgerView) : Type 0 where
  pub planned : length a.sent ≤ a.plan
  pub distinct : IsDistinct nat_eq (numbers a)
  pub below : (n : ℕ) → is_collected a n ≡ true → n < length a.sent

-- a manager's row of keys: the key of each request that was sent to it, by number, and for how many there is room
pub record KeysView : Type 0 where
  pub keys : List ℕ
  pub capacity : ℕ

-- no key, and room for so many
abbrev pub no_keys : ℕ → KeysView
no_keys capacity = record { keys = []; capacity = capacity }

-- the next request has this key
abbrev pub with_key : KeysView → ℕ → KeysView
with_key row key = record row { keys = row.keys ++ key ∷ [] }

-- the row of manager m
abbrev pub row_of_manager : List KeysView → ℕ → KeysView
row_of_manager rows m = slice_index_or rows (m - 1) (no_keys 0)

-- the key that the rows tell for an operation
abbrev pub key_of_operation : List KeysView → Operation → Option ℕ
key_of_operation rows o = slice_get (row_of_manager rows o.manager).keys o.number

-- the rows tell the key of each slot
abbrev pub AreTold : List KeysView → Slab Slot → Type 0
AreTold rows s = (key : ℕ) (slot : Slot) → get s key ≡ Some slot → key_of_operation rows slot.operation ≡ Some key

-- the operation's slot, which had no code, gets this one
pub record EntersCode (s : Slab Slot) (o : Operation) (code : Code) (t : Slab Slot) : Type 0 where
  pub key : ℕ
  pub slot : Slot
  pub found : get s key ≡ Some slot
  pub names : slot.operation ≡ o
  pub waiting : slot.code ≡ None
  pub updates : Updates s t key (Some (record slot { code = Some code }))
  pub len : slab_len t ≡ slab_len s
  pub capacity : t.capacity ≡ s.capacity

-- the operation's slot gets this handle
pub record EntersHandle (s : Slab Slot) (o : Operation) (handle : ℕ) (t : Slab Slot) : Type 0 where
  pub key : ℕ
  pub slot : Slot
  pub found : get s key ≡ Some slot
  pub names : slot.operation ≡ o
  pub updates : Updates s t key (Some (record slot { handle = handle }))
  pub len : slab_len t ≡ slab_len s
  pub capacity : t.capacity ≡ s.capacity

-- each manager has a row, which has the key of each request that was sent and room for those planned, and the rows
-- tell the key of each slot
pub record AreKeys (at : List LedgerView) (rows : List KeysView) (s : Slab Slot) : Type 0 where
  pub number : length rows ≡ length at
  pub sent : (m : ℕ) → IsKnown at m → length (row_of_manager rows m).keys ≡ length (ledger at m).sent
  pub planned : (m : ℕ) → IsKnown at m → (ledger at m).plan ≤ (row_of_manager rows m).capacity
  pub told : AreTold rows s

-- the completions that a log has, in order
abbrev pub logged : {A : Type 0} → List (A × Unit {0}) → List A
logged entries = map (λ p. p.0) entries

-- 1 for a slot whose completion was drained
abbrev pub ready_weight : Option Slot → ℕ
ready_weight None = 0
ready_weight (Some slot) = cond (is_some slot.code) 1 0

abbrev pub ready_count : Slab Slot → ℕ
ready_count s = sum_by ready_weight s.slots

abbrev pub collected_total : List LedgerView → ℕ
collected_total at = sum_by (λ a. length a.collected) at

abbrev pub planned_total : List LedgerView → ℕ
planned_total at = sum_by (λ a. a.plan) at

-- the map that a table of kept operations is: number k stands at place k - 1
abbrev pub kept_of : List (Option Operation) → finmap.FinMap nat_cmp Operation
kept_of table = finmap.from_entries (entries_from 1 table)

-- the slots are the outstanding operations, each with the code that was drained for it; the table and the slots agree
-- on what is kept; and a drained completion is of a sent request
pub record IsBooks (at : List LedgerView) (s : Slab Slot) (table : List (Option Operation))
    (drained : List Completion) : Type 0 where
  pub orderly : (m : ℕ) → IsKnown at m → IsOrderly (ledger at m)
  pub slot_out : (key : ℕ) (slot : Slot) → get s key ≡ Some slot → IsOut at slot.operation
  pub out_slot : (o : Operation) → IsOut at o → HasSlot s o
  pub one_slot : (j k : ℕ) (x y : Slot) → get s j ≡ Some x → get s k ≡ Some y → x.operation ≡ y.operation → j ≡ k
  pub count : slab_len s ≡ outstanding at
  pub handled : (key : ℕ) (slot : Slot) (k : ℕ) → get s key ≡ Some slot → slot.handle ≡ suc k
      → slice_index_or table k None ≡ Some slot.operation
  pub tabled : (k : ℕ) (o : Operation) → slice_index_or table k None ≡ Some o → HasKept s o (suc k)
  pub coded : (key : ℕ) (slot : Slot) → get s key ≡ Some slot → slot.code ≡ drained_code slot.operation drained
  pub drained_sent : (o : Operation) (code : Code) → drained_code o drained ≡ Some code → IsSent at o
  pub drained_count : length drained ≡ collected_total at + ready_count s
