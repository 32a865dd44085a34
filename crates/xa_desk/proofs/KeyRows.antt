-- The rows tell the key of each slot, as slots come and go, and the marks of what is kept and of what is ready.
use Rattle.xa_base.proofs.{slice_get-push_last, slice_get-push_other, ◌≡◌, ◌≢◌, ℕ, zero, suc, ◌-◌, ◌<◌, ◌≤◌, Bool, List}
use Rattle.xa_base.proofs.{[], ◌∷◌, ◌++◌, length, length-append, Some, None, get_or, set, replicate, sym, refl, ap, ◌∙◌}
use Rattle.xa_base.proofs.{inl, inr, arith, slice_get, get_or-set_same, get_or-set_other, length-set, length-replicate}
use Rattle.xa_base.proofs.{length-map, cases_eq, ◌*◌, Option, ◌+◌, true, false, IfSome, is_some, cases_lt}
use Rattle.xa_base.proofs.{get_or-replicate, get_or_read, get_or_past, IfNone}
use Rattle.slab.specs.Slab.{Slab, get, Updates}
use Rattle.xa_words.specs.{Op, Code, Request, Completion}
use Rattle.xa_desk.specs.{Operation, Slot, new_ledger, with_sent, with_collected, IsKnown, IsOut, no_ledger, ledger}
use Rattle.xa_desk.specs.{after_sent, after_collected, new_ledgers, KeysView, no_keys, with_key, row_of_manager}
use Rattle.xa_desk.specs.{key_of_operation, AreKeys, LedgerView, Event, PartsView, new_desk, carried, IsBooks, kept_of}
use Rattle.xa_desk.specs.{planned_total, DeskView, IsLeast, asked_at, ready_with, operation_of, drained_code, HasKept}
use Rattle.xa_desk.specs.{is_marked, AreKept, AreReady}
use Rattle.xa_desk.proofs.Ledgers.{same_operation, ledger-sent_same, ledger-sent_other, known_before, put_same}
use Rattle.xa_desk.proofs.Ledgers.{set_each, collected_known, collected_sends, length-put_ledger, unsent}
use Rattle.xa_desk.proofs.Books.{found_cases, found_before, fresh_sent, books_new, planned-new, kept_of-replicate}
use Rattle.xa_desk.proofs.Books.{same_slot, drained_code-push_first, drained_code-push_other, no_operation, get-kept_of}
use Rattle.xa_desk.proofs.Books.{get-kept_of_zero}
use Rattle.xa_lane.specs.{Sending, Receiving}
use Rattle.xa_desk.specs.declared.marks.Marks.{Marks}
use Rattle.std.specs.FinMap as map

-- ---- the rows tell the key of each slot, as slots come and go

-- the key of the next request is entered for manager m
module _ (rows : List KeysView) (m key : ℕ) where
  abbrev pub entered : List KeysView
  entered = set rows (m - 1) (with_key (row_of_manager rows m) key)

  abbrev next : Operation
  next = record { manager = m; number = length (row_of_manager rows m).keys }

  told_other : (o : Operation) → 1 ≤ m → m - 1 < length rows → 1 ≤ o.manager → o ≢ next
      → key_of_operation entered o ≡ key_of_operation rows o
  told_other o positive known is_positive differs =
      grind (arith, cases_eq, slice_get, get_or-set_same, slice_get-push_other, same_operation, get_or-set_other)

-- what is read of the row of a manager that is known
pub row-read : (at : List LedgerView) (rows : List KeysView) (m : ℕ) (x : KeysView) → length rows ≡ length at
    → IsKnown at m → x ≡ get_or rows (m - 1) x
    → x ≡ row_of_manager rows m
row-read at rows m x number known read =
    let p = known.positive in let w = known.within in get_or_read rows (m - 1) x (omega arith) read (no_keys 0)

-- sending

module _ (at : List LedgerView) (m : ℕ) (op : Op) (known : IsKnown at m) (rows : List KeysView) (s t : Slab Slot)
    (key : ℕ) (slot : Slot) where
  abbrev n : ℕ
  n = length (ledger at m).sent

  abbrev with_next : KeysView
  with_next = with_key (row_of_manager rows m) key

  pub keys_sent : AreKeys at rows s → slot.operation ≡ record { manager = m; number = n }
      → ((k : ℕ) (y : Slot) → get s k ≡ Some y → IsOut at y.operation)
      → Updates s t key (Some slot) → AreKeys (after_sent at m op) (entered rows m key) t
  keys_sent r named out u = record {
    number = length-set rows (m - 1) with_next ∙ r.number ∙ sym (length-put_ledger at m (with_sent (ledger at m) op));
    sent = λ q is. each_sent q (known_before at m q (with_sent (ledger at m) op) is)
        (r.sent q (known_before at m q (with_sent (ledger at m) op) is)) (r.sent m known);
    planned =
        λ q is. rw (
          set_each (λ x y. y.capacity ≡ x.capacity) (λ _. refl) rows (m - 1) with_next (no_keys 0) refl (q - 1),
          put_same (λ a. a.plan) at m (with_sent (ledger at m) op) refl q,
        )
        (r.planned q (known_before at m q (with_sent (ledger at m) op) is));
    told = each_told;
  }
    where
      within : m - 1 < length rows
      within = let a = r.number in let p = known.positive in let w = known.within in omega arith

      is_next : next rows m key ≡ record { manager = m; number = n }
      is_next = same_operation (next rows m key) (record { manager = m; number = n }) refl (r.sent m known)

      row_other : (q : ℕ) → IsKnown at q → q ≢ m → row_of_manager (entered rows m key) q ≡ row_of_manager rows q
      row_other q was differs = grind (arith, get_or-set_other)

      later : (k : ℕ) (y : Slot) → get s k ≡ Some y
          → (1 ≤ y.operation.manager) × (y.operation ≢ record { manager = m; number = n })
      later k y found =
          let o = out k y found in
          (o.known.positive, unsent at m op known y.operation (record { known = o.known; sent = o.sent }))

      each_told : (k : ℕ) (y : Slot) → get t k ≡ Some y → key_of_operation (entered rows m key) y.operation ≡ Some k
      each_told k y found =
          search (
            arith,
            found_cases,
            told_other,
            later,
            is_next,
            y.operation,
            slice_get,
            get_or-set_same,
            slice_get-push_last,
          )

      each_sent : (q : ℕ) → IsKnown at q → length (row_of_manager rows q).keys ≡ length (ledger at q).sent
          → length (row_of_manager rows m).keys ≡ length (ledger at m).sent
          → length (row_of_manager (entered rows m key) q).keys ≡ length (ledger (after_sent at m op) q).sent
      each_sent q was before own =
          grind (
            arith,
            cases_eq,
            (ledger-sent_same at m op known q),
            (ledger-sent_other at m op known q was.positive),
            (row_other q was),
            length-append,
            get_or-set_same,
          )

pub keys_kept : (at : List LedgerView) (rows : List KeysView) (s t : Slab Slot) (key : ℕ) (slot x : Slot)
    → AreKeys at rows s → get s key ≡ Some slot
    → slot.operation ≡ x.operation → Updates s t key (Some x) → AreKeys at rows t
keys_kept at rows s t key slot x r there keeps u = search (arith, found_cases, r.told)

-- collecting

pub keys_collected : (at : List LedgerView) (o : Operation) (code : Code) (known : IsKnown at o.manager)
    (rows : List KeysView) (s t : Slab Slot) (key : ℕ)
    → AreKeys at rows s → Updates s t key None → AreKeys (after_collected at o code) rows t
keys_collected at o code known rows s t key r u = record {
  number = r.number ∙ sym (length-put_ledger at o.manager (with_collected (ledger at o.manager) o.number code));
  sent = λ q is. r.sent q (collected_known at o code known q is) ∙ sym (ap length (collected_sends at o code known q));
  planned = λ q is. rw (put_same (λ a. a.plan) at o.manager (with_collected (ledger at o.manager) o.number code) refl q)
      (r.planned q (collected_known at o code known q is));
  told = λ k y found. r.told k y (found_before s t key u k y found).1;
}

-- a desk that has done nothing

fresh_plan : (plan : ℕ) (use_async : List Bool) (i : ℕ) → i < length use_async
    → (get_or (new_ledgers plan use_async) i (no_ledger)).plan ≡ plan
fresh_plan plan [] i within = absurd (omega arith)
fresh_plan plan (b ∷ bs) i within = grind (arith, fresh_plan plan bs (i - 1))

pub keys_new : (plan : ℕ) (use_async : List Bool) (s : Slab Slot) → s.slots ≡ []
    → AreKeys (new_ledgers plan use_async) (replicate (length use_async) (no_keys plan)) s
keys_new plan use_async s empty = record {
  number = length-replicate (length use_async) (no_keys plan)
      ∙ sym (length-map use_async (λ carries. new_ledger carries plan));
  sent = λ m known. ap (λ (x : KeysView). length x.keys) (row_new m known)
      ∙ sym (ap length (fresh_sent plan use_async (m - 1)));
  planned = λ m known. rw (row_new m known, fresh_plan plan use_async (m - 1) (within m known)) (omega arith);
  told = λ key slot found. absurd
      (let no : None ≡ Some slot = sym (ap (λ slots. get_or slots key None) empty) ∙ found in cc);
}
  where
    within : (m : ℕ) → IsKnown (new_ledgers plan use_async) m → m - 1 < length use_async
    within m known =
        omega (arith, known.positive, known.within, length-map use_async (λ carries. new_ledger carries plan))

    row_new : (m : ℕ) → IsKnown (new_ledgers plan use_async) m
        → row_of_manager (replicate (length use_async) (no_keys plan)) m ≡ no_keys plan
    row_new m known = get_or-replicate (length use_async) (m - 1) (no_keys plan) (no_keys 0) (within m known)

-- ---- a book made of parts with which nothing was done

pub carried-new : (plan : ℕ) (use_async : List Bool) → carried (new_ledgers plan use_async) ≡ use_async
carried-new plan [] = refl
carried-new plan (b ∷ bs) = ap (λ l. b ∷ l) (carried-new plan bs)

pub length-carried : (at : List LedgerView) → length (carried at) ≡ length at
length-carried at = length-map at (λ a. a.carries_async)

module _ (plan : ℕ) (at : List LedgerView) (use_async : List Bool) (new : at ≡ new_ledgers plan use_async)
    (s : Slab Slot) (empty : s.slots ≡ []) where
  pub books_from : (n : ℕ) (table : List (Option Operation)) (drained : List Completion) → table ≡ replicate n None
      → drained ≡ [] → IsBooks at s table drained
  books_from n table drained t d = rw (new, t, d) (books_new plan use_async s n empty)

  pub keys_from : (rows : List KeysView) → rows ≡ replicate (length use_async) (no_keys plan) → AreKeys at rows s
  keys_from rows r = rw (new, r) (keys_new plan use_async s empty)

  pub planned_from : planned_total at ≡ plan * length use_async
  planned_from = ap planned_total new ∙ planned-new plan use_async

-- what contracts see of such a book
module _ (t h plan : ℕ) (at : List LedgerView) (events : List Event) (table : List (Option Operation))
    (drained : List Completion)
    (requests : List (Sending Request)) (r : Receiving Completion) where
  abbrev pub begun : DeskView
  begun =
      record {
        thread = t;
        handles = h;
        ledgers = at;
        events = events;
        kept = kept_of table;
        drained = drained;
        drained_then = 0;
        requests = requests;
        completions = r;
      }

  abbrev pub made_with : PartsView
  made_with = record { thread = t; handles = h; plan = plan; use_async = carried at }

  pub begun-new : at ≡ new_ledgers plan (carried at) → events ≡ [] → table ≡ replicate h None → drained ≡ []
      → begun ≡ new_desk made_with requests r
  begun-new new nothing empty none = grind (arith, kept_of-replicate)

-- ---- the marks of what is kept and of what is ready, as these change

-- where nothing is kept, no place is marked
pub marks_none : (f : Option Operation → Bool) (m : Marks) (n : ℕ) (table : List (Option Operation)) → f None ≡ false
    → ((k : ℕ) → is_marked m k ≡ false)
    → table ≡ replicate n None → (k : ℕ) → is_marked m k ≡ f (get_or table k None)
marks_none f m n table nothing none empty k =
    none k ∙ sym (ap f (ap (λ t. get_or t k None) empty ∙ no_operation n k) ∙ nothing)

-- another operation, or none, at one place
pub marks_set : (f : Option Operation → Bool) (m n : Marks) (table : List (Option Operation)) (j : ℕ)
    (x : Option Operation)
    → j < length table
    → ((k : ℕ) → is_marked m k ≡ f (get_or table k None)) → is_marked n j ≡ f x
    → ((k : ℕ) → k ≢ j → is_marked n k ≡ is_marked m k)
    → (k : ℕ) → is_marked n k ≡ f (get_or (set table j x) k None)
marks_set f m n table j x within old here others k = grind (arith, cases_eq, get_or-set_same, get_or-set_other)

-- where an operation is kept, if its slot has a number
pub number_within : (at : List LedgerView) (s : Slab Slot) (table : List (Option Operation)) (drained : List Completion)
    (o : Operation) (number : ℕ)
    → IsBooks at s table drained → HasKept s o number → number ≤ length table
number_within at s table drained o zero b h = omega arith
number_within at s table drained o (suc n) b h =
    grind (arith, (get_or_past table n None), (b.handled h.key h.slot n h.found h.handle))

-- at a place that isn't the operation's, a drained completion changes nothing
as_ready : (at : List LedgerView) (s : Slab Slot) (table : List (Option Operation)) (drained : List Completion)
    (c : Completion) (number : ℕ)
    → IsBooks at s table drained → HasKept s (operation_of c) number → (k : ℕ) → number ≢ suc k → (x : Option Operation)
    → get_or table k None ≡ x
    → ready_with (drained ++ c ∷ []) 0 x ≡ ready_with drained 0 x
as_ready at s table drained c number b h k apart None e = refl
as_ready at s table drained c number b h k apart (Some o) e =
    let p = b.tabled k o e in
    grind (
      arith,
      (b.one_slot p.key h.key p.slot h.slot p.found h.found),
      (same_slot s h.key p.key h.slot p.slot h.found p.found),
      (drained_code-push_other o drained c),
      p.names,
      h.names,
      p.handle,
      h.handle,
    )

-- the completion of an operation that had none is drained: its place is marked, where it has one
pub ready_drained : (at : List LedgerView) (s : Slab Slot) (table : List (Option Operation)) (drained : List Completion)
    (c : Completion) (number : ℕ) (m n : Marks)
    → IsBooks at s table drained → HasKept s (operation_of c) number → drained_code (operation_of c) drained ≡ None
    → AreReady m table drained
    → ((k : ℕ) → number ≡ suc k → is_marked n k ≡ true) → ((k : ℕ) → number ≢ suc k → is_marked n k ≡ is_marked m k)
    → AreReady n table (drained ++ c ∷ [])
ready_drained at s table drained c number m n b h none old here others k = elim (cases_eq number (suc k)) [
  | inl same ↦ search (arith, is_some, drained_code-push_first, b.handled, h.key, h.slot, h.found, h.names)
  | inr apart ↦ others k apart ∙ old k
      ∙ sym (as_ready at s table drained c number b h k apart (get_or table k None) refl)
]

-- every place past the table is without a mark
pub kept_past : (m : Marks) (table : List (Option Operation)) (k : ℕ) → AreKept m table → length table ≤ k
    → is_marked m k ≡ false
kept_past m table k kept past = kept k ∙ ap is_some (get_or_past table k None past)

-- the first place without a mark is one of the table, or its end
pub clear_within : (m : Marks) (table : List (Option Operation)) (k : ℕ) → AreKept m table
    → ((j : ℕ) → j < k → is_marked m j ≡ true) → k ≤ length table
clear_within m table k kept marked = grind (arith, cases_lt, kept_past)

-- what marks of the places whose operation passes say of the numbers
module _ (f : Option Operation → Bool) (nothing : f None ≡ false) (m : Marks) (table : List (Option Operation))
    (marks : (k : ℕ) → is_marked m k ≡ f (get_or table k None)) where
  number_marked : (k number : ℕ) → number ≡ suc k → f (map.get (kept_of table) number) ≡ is_marked m k
  number_marked k number is = ap f (get-kept_of table k number is) ∙ sym (marks k)

  pub marked_nowhere : ((k : ℕ) → is_marked m k ≡ false) → (number : ℕ) → f (map.get (kept_of table) number) ≡ false
  marked_nowhere none zero = ap f (get-kept_of_zero table) ∙ nothing
  marked_nowhere none (suc k) = number_marked k (suc k) refl ∙ none k

  -- the first marked place is that of the least number that passes
  pub marked_least : (k : ℕ) → IsLeast (is_marked m) k → IsLeast (λ number. f (map.get (kept_of table) number)) (k + 1)
  marked_least k first = record { passes_ = number_marked k (k + 1) (omega arith) ∙ first.passes_; least = before }
    where
      before : (j : ℕ) → j < k + 1 → f (map.get (kept_of table) j) ≡ false
      before zero below = ap f (get-kept_of_zero table) ∙ nothing
      before (suc j) below = number_marked j (suc j) refl ∙ first.least j (omega arith)

-- an operation is kept where a place is marked
asked_marks : (m : Marks) (table : List (Option Operation)) → AreKept m table → (k : ℕ)
    → is_marked m k ≡ asked_at 0 (get_or table k None)
asked_marks m table kept k = grind (arith, is_some)

pub any_kept : (m : Marks) (table : List (Option Operation)) (first : Option ℕ) → AreKept m table
    → IfSome first (IsLeast (is_marked m)) → is_some first ≡ true
    → (number : ℕ) × (asked_at 0 (map.get (kept_of table) number) ≡ true)
any_kept m table None kept found t = absurd (cc)
any_kept m table (Some k) kept found t =
    (k + 1, (marked_least (asked_at 0) refl m table (asked_marks m table kept) k found).passes_)

pub none_kept : (m : Marks) (table : List (Option Operation)) (first : Option ℕ) → AreKept m table
    → IfNone first ((k : ℕ) → is_marked m k ≡ false)
    → is_some first ≡ false → (number : ℕ) → asked_at 0 (map.get (kept_of table) number) ≡ false
none_kept m table None kept absent f = marked_nowhere (asked_at 0) refl m table (asked_marks m table kept) absent
none_kept m table (Some k) kept absent f = absurd (cc)
